-- A list of words that is sorted anew, as the code keeps it: beside each word stands which one stood before it.
use Rattle.std.specs.Prelude.{ℕ, zero, ◌==◌, if◌then◌else◌, List, [], ◌∷◌, chars, map}
use Rattle.std.specs.List.Sorted.{IsPermutation, IsSorted}
use Rattle.coll_nodes.specs.Table.{Collation}
use Rattle.coll_word_lists.specs.Neighbours.{NumberedWord, WordPair}
use Rattle.coll_word_lists.specs.NumberedWords.{line_order}
use Rattle.coll_reviews.specs.declared.listed_words.ListedWord.{ListedWord}

-- the word with its line, without what is kept beside it
abbrev pub numbered_of : ListedWord → NumberedWord
numbered_of listed = record { line = listed.line; text = chars listed.text.now }

abbrev pub all_numbered : List ListedWord → List NumberedWord
all_numbered list = map numbered_of list

-- beside each word stands the line of the one before it, beside the first this one
abbrev pub led_by : ℕ → List ListedWord → List ListedWord
led_by leader [] = []
led_by leader (listed ∷ list) = record listed { leader = leader } ∷ led_by listed.line list

-- the neighbours of which the second has another word beside it than the first
abbrev pub newly_beside : List ListedWord → List WordPair
newly_beside [] = []
newly_beside (listed ∷ []) = []
newly_beside (listed ∷ next ∷ list) =
    if listed.line == next.leader
    then newly_beside (next ∷ list)
    else (numbered_of listed, numbered_of next) ∷ newly_beside (next ∷ list)

-- a list was sorted by a table
pub record IsSortedAgain (table : Collation) (old new : List ListedWord) : Type 0 where
  pub moved : IsPermutation old new
  pub ordered : IsSorted (line_order table) (all_numbered new)

-- a list was sorted anew by a table: beside each word stands which one stood before it in the old list
pub record IsSortedAnew (table : Collation) (old new : List ListedWord) : Type 0 where
  pub moved : IsPermutation (led_by zero old) new
  pub ordered : IsSorted (line_order table) (all_numbered new)
