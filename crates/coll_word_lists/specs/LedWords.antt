-- The first numbers of a key, kept beside its word.
use Rattle.std.specs.Prelude.{◌≡◌, ℕ, List, [], ◌∷◌, slice_index_or}
use Rattle.coll_word_lists.specs.declared.words.Word.TheInside.{Inside}

-- the first four numbers of a key, with 0 in place of those that it hasn't
abbrev pub lead_of : List ℕ → List ℕ
lead_of key = slice_index_or key 0 0 ∷ slice_index_or key 1 0 ∷ slice_index_or key 2 0 ∷ slice_index_or key 3 0 ∷ []

-- those that are kept are the key's
abbrev pub IsLed : Inside → Type 0
IsLed word = word.lead ≡ lead_of word.key.items
