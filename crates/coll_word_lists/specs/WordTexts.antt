-- The words of a text, read without keys.
use Rattle.std.specs.Prelude.{◌≡◌, ℕ, List, [], ◌∷◌, ◌++◌, length, Option, Some, Ok}
use Rattle.coll_word_lists.specs.Words.{line_word, words_of}

-- these are the words of the text that the device had
abbrev pub AreTextsOf : (left : Option (List ℕ)) → List (List ℕ) → Type 0
AreTextsOf left texts = (text : List ℕ) → left ≡ Some text → words_of text ≡ Ok texts

-- the word of a line more stands behind those of the lines before it
abbrev pub TakesText : (old : List (List ℕ)) → (line : List ℕ) → (new : List (List ℕ)) → Type 0
TakesText old line new = (text : List ℕ) × (line_word (length old) line ≡ Ok text) × (new ≡ old ++ text ∷ [])
