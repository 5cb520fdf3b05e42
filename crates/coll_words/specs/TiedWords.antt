-- Words that are sorted by their keys, cut into runs.
use Rattle.std.specs.Prelude.{◌≡◌, ◌⊎◌, ℕ, ◌-◌, true, List, length, slice_index_or}
use Rattle.std.specs.List.{AllAdjacentBelow}
use Rattle.coll_word_lists.specs.KeyedWords.{KeyedWord, has_less_key}

-- a run ends before this place: no word stands there, or one with a greater key than the word before it
abbrev pub EndsRun : List KeyedWord → (place : ℕ) → Type 0
EndsRun words place =
    (place ≡ length words) ⊎ ((d : KeyedWord) → has_less_key (slice_index_or words (place - 1) d) (slice_index_or words place d) ≡ true)

-- all words are the same: each is the one before it
abbrev pub AreAlike : (words : List (List ℕ)) → Type 0
AreAlike words = AllAdjacentBelow (λ word other. word ≡ other) words (length words)
