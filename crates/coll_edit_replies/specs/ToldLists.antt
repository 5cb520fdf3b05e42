-- A list of words as the code keeps it: beside each word stands which ones stood beside it before.
use Rattle.std.specs.Prelude.{◌≡◌, ◌==◌, ◌||◌, not, ℕ, ◌+◌, Bool, false, List, [], ◌∷◌, ◌++◌, All, length, map, codes, Option, Some, Ok}
use Rattle.std.specs.List.Sorted.{IsPermutation, IsSorted}
use Rattle.coll_nodes.specs.Table.{Collation}
use Rattle.coll_nodes.specs.WellFormed.{IsWellFormed}
use Rattle.coll_history.specs.Histories.{History, table_now}
use Rattle.coll_bench.specs.Replies.{counted_line}
use Rattle.coll_word_lists.specs.KeyedWords.{IsKeyed}
use Rattle.coll_word_lists.specs.Neighbours.{NumberedWord}
use Rattle.coll_word_lists.specs.NumberedWords.{AreInOrder, HaveLines, line_order, numbered_from}
use Rattle.coll_word_lists.specs.Words.{words_of}
use Rattle.coll_edit_replies.specs.WordLists.{first_line, line_before, line_behind, marked_line, table_before}
use Rattle.coll_edit_replies.specs.declared.word_lists.ListedWord.{ListedWord}

-- the word with its line, without what is kept beside it
abbrev pub numbered_of : ListedWord → NumberedWord
numbered_of listed = record { line = listed.line; text = listed.word.text }

abbrev pub all_numbered : List ListedWord → List NumberedWord
all_numbered list = map numbered_of list

-- the word without its key
abbrev pub without_key : ListedWord → ListedWord
without_key listed = record listed { word = record { text = listed.word.text; key = [] } }

abbrev pub without_keys : List ListedWord → List ListedWord
without_keys list = map without_key list

-- the keys are those of the words by a table
abbrev pub AreKeyedLines : Collation → List ListedWord → Type 0
AreKeyedLines table list = All (λ (listed : ListedWord). IsKeyed table listed.word) list

-- the same, and the table is well formed
pub record AreListedBy (table : Collation) (list : List ListedWord) : Type 0 where
  pub well : IsWellFormed table
  pub keyed : AreKeyedLines table list

-- each word is told which ones stand beside it; before the first stands this line
abbrev pub told : (before : ℕ) → List ListedWord → List ListedWord
told before [] = []
told before (listed ∷ list) = record listed { before = before; behind = first_line (all_numbered list) } ∷ told listed.line list

-- a word was told what stands beside it in a list, before whose first word stands this line
abbrev pub IsToldIn : (before : ℕ) → List NumberedWord → ListedWord → Type 0
IsToldIn before words listed = (listed.before ≡ line_before before words listed.line) × (listed.behind ≡ line_behind words listed.line)

-- a list was sorted by its keys, and each word was told what stands beside it
pub record IsToldFrom (old new : List ListedWord) : Type 0 where
  pub moved : List ListedWord
  pub same : IsPermutation old moved
  pub sorted : (table : Collation) → AreListedBy table old → IsSorted (line_order table) (all_numbered moved)
  pub told_is : new ≡ told 0 moved

-- a list got its keys by a table, and was sorted by these
pub record IsSortedAnew (table : Collation) (old new : List ListedWord) : Type 0 where
  pub same : IsPermutation (without_keys old) (without_keys new)
  pub ordered : IsSorted (line_order table) (all_numbered new)

-- words with their lines stand in the order of a table, and each was told what stands beside it in that of another one
pub record IsListed (before now : Collation) (words : List NumberedWord) (list : List ListedWord) : Type 0 where
  pub old : List NumberedWord
  pub was : AreInOrder before words old
  pub is : AreInOrder now words (all_numbered list)
  pub told_in : All (IsToldIn 0 old) list

-- a list with keys by the table before was put into the order of the table now
abbrev pub ListsAnew : (now : Collation) → (changed : Bool) → (old new : List ListedWord) → Type 0
ListsAnew now changed old new =
    (before : Collation) → AreListedBy before old → HaveLines (all_numbered old) → (changed ≡ false → before ≡ now)
    → IsListed before now (all_numbered old) new

-- these are the words of the text that the device had, as they stand after a history
abbrev pub ListsWordsOf : History → (left : Option (List ℕ)) → List ListedWord → Type 0
ListsWordsOf h left list =
    (text : List ℕ) → left ≡ Some text → (words : List (List ℕ)) × (words_of text ≡ Ok words)
    × IsListed (table_before h) (table_now h) (numbered_from 1 words) list

-- the words of the text that the device had are read, and numbered
abbrev pub AreLinesOf : (left : Option (List ℕ)) → List ListedWord → Type 0
AreLinesOf left list =
    (text : List ℕ) → left ≡ Some text → (words : List (List ℕ)) × (words_of text ≡ Ok words)
    × (all_numbered list ≡ numbered_from 1 words)

-- other words stand beside a word than those that it was told
abbrev pub has_others : ListedWord → (before behind : ℕ) → Bool
has_others listed before behind = not (listed.before == before) || not (listed.behind == behind)

-- the lines of words, each behind its mark; before the first stands this line
abbrev pub marked_lines : (before : ℕ) → List ListedWord → List ℕ
marked_lines before [] = []
marked_lines before (listed ∷ list) =
    marked_line (has_others listed before (first_line (all_numbered list))) listed.word.text ++ marked_lines listed.line list

-- the words of a list, and how many they are
abbrev pub list_bytes : List ListedWord → List ℕ
list_bytes list = marked_lines 0 list ++ counted_line (codes "words") (length list)

-- the word of a line more stands behind those of the lines before it, with its key by a table
abbrev pub PutsWord : Collation → (text : List ℕ) → (old new : List ListedWord) → Type 0
PutsWord table text old new =
    (listed : ListedWord) × (new ≡ old ++ listed ∷ []) × (numbered_of listed ≡ record { line = length old + 1; text = text })
    × IsKeyed table listed.word
