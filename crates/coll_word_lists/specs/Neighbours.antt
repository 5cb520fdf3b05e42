-- Words that stand beside one another in a list (the project's own). A word is told from all others by the number of its line.
use Rattle.std.specs.Prelude.{ℕ, Bool, not, ◌==◌, ◌&&◌, List, [], ◌∷◌, filter}
use Rattle.std.specs.List.{list_any}

-- a word, and the number of its line
pub record NumberedWord : Type 0 where
  pub line : ℕ
  pub text : List ℕ

-- two words, of which the second stands directly behind the first
abbrev pub WordPair : Type 0
WordPair = NumberedWord × NumberedWord

-- each word of a list but the last, with the one behind it
abbrev pub neighbours : List NumberedWord → List WordPair
neighbours [] = []
neighbours (word ∷ []) = []
neighbours (word ∷ next ∷ words) = (word, next) ∷ neighbours (next ∷ words)

-- two pairs are of the same words
abbrev pub is_same_pair : WordPair → WordPair → Bool
is_same_pair pair other = (pair.0.line == other.0.line) && (pair.1.line == other.1.line)

-- the words of a pair are neighbours in a list, in this order
abbrev pub are_neighbours : List NumberedWord → WordPair → Bool
are_neighbours words pair = list_any (is_same_pair pair) (neighbours words)

-- the neighbours in one list that are none in another
abbrev pub only_in : (words others : List NumberedWord) → List WordPair
only_in words others = filter (λ pair. not (are_neighbours others pair)) (neighbours words)
