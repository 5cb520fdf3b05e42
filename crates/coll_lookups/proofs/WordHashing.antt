-- Bytes that are written, a word at a time: the first word of eight bytes or more, and the last of fewer.
use Rattle.std.proofs.Common.{◌≡◌, ◌≤◌, ◌<◌, ◌-◌, ℕ, List, [], ◌∷◌, take, drop, length, slice_index_or, sym, ap, refl, arith}
use Rattle.std.proofs.lemmas.List.{take_all}
use Rattle.coll_lookups.specs.WordHashing.{word, last_word, with_word, written}
use Rattle.coll_lookups.specs.declared.word_hashing.WordHasher.{WordHasher}

-- eight bytes go in as a word, before those behind them
pub first_written : (s : WordHasher) (xs : List ℕ) → 8 ≤ length xs
    → written s xs ≡ written (with_word s (word (slice_index_or xs 0 0 ∷ slice_index_or xs 1 0 ∷ slice_index_or xs 2 0 ∷ slice_index_or xs 3 0
    ∷ slice_index_or xs 4 0 ∷ slice_index_or xs 5 0 ∷ slice_index_or xs 6 0 ∷ slice_index_or xs 7 0 ∷ []))) (take (length xs - 8) (drop 8 xs))
unfolding written
first_written s [] m = absurd (omega (arith, m))
first_written s (a ∷ []) m = absurd (omega (arith, m))
first_written s (a ∷ b ∷ []) m = absurd (omega (arith, m))
first_written s (a ∷ b ∷ c ∷ []) m = absurd (omega (arith, m))
first_written s (a ∷ b ∷ c ∷ d ∷ []) m = absurd (omega (arith, m))
first_written s (a ∷ b ∷ c ∷ d ∷ e ∷ []) m = absurd (omega (arith, m))
first_written s (a ∷ b ∷ c ∷ d ∷ e ∷ f ∷ []) m = absurd (omega (arith, m))
first_written s (a ∷ b ∷ c ∷ d ∷ e ∷ f ∷ g ∷ []) m = absurd (omega (arith, m))
first_written s (a ∷ b ∷ c ∷ d ∷ e ∷ f ∷ g ∷ h ∷ xs) m = ap (written _) (sym (take_all _ xs (omega arith)))

-- fewer are the last word
pub last_written : (s : WordHasher) (xs : List ℕ) → length xs < 8 → written s xs ≡ with_word s (last_word xs)
unfolding written
last_written s [] m = refl
last_written s (a ∷ []) m = refl
last_written s (a ∷ b ∷ []) m = refl
last_written s (a ∷ b ∷ c ∷ []) m = refl
last_written s (a ∷ b ∷ c ∷ d ∷ []) m = refl
last_written s (a ∷ b ∷ c ∷ d ∷ e ∷ []) m = refl
last_written s (a ∷ b ∷ c ∷ d ∷ e ∷ f ∷ []) m = refl
last_written s (a ∷ b ∷ c ∷ d ∷ e ∷ f ∷ g ∷ []) m = refl
last_written s (a ∷ b ∷ c ∷ d ∷ e ∷ f ∷ g ∷ h ∷ xs) m = absurd (omega (arith, m))
