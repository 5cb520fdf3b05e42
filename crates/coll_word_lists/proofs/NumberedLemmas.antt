-- The lines of numbered words: no two have the same one.
use Rattle.std.proofs.Common.{◌≡◌, ℕ, suc, ◌+◌, ◌<◌, ◌≤◌, ◌==◌, Bool, true, false, cond, if◌then◌else◌, List, [], ◌∷◌, length, refl, ◌∙◌, arith}
use Rattle.std.specs.Prelude.{All, filter}
use Rattle.std.specs.List.Sorted.{IsPermutation}
use Rattle.std.proofs.lemmas.Bool.{ne_eqb, eqb-true}
use Rattle.std.proofs.lemmas.List.Elements.{All-cons, All-nil}
use Rattle.std.proofs.lemmas.List.Sorted.{All-permutation, sum_by-IsPermutation}
use Rattle.std.proofs.lemmas.List.Sums.{length-filter}
use Rattle.coll_elements.proofs.Tests.{by_test}
use Rattle.coll_word_lists.specs.Neighbours.{NumberedWord}
use Rattle.coll_word_lists.specs.NumberedWords.{HaveLines, numbered_from}

-- Lines from a number on.

module _ (line : ℕ) where
  abbrev has_line : NumberedWord → Bool
  has_line word = line == word.line

  with_line : (n : ℕ) (word : List ℕ) (words : List (List ℕ)) (b : Bool) → (line == n) ≡ b
      → length (filter has_line (numbered_from n (word ∷ words))) ≡ (if b then suc (length (filter has_line (numbered_from (suc n) words))) else length (filter has_line (numbered_from (suc n) words)))
  with_line n word words true e = rw e refl
  with_line n word words false e = rw e refl

  -- none before the first
  none_below : (n : ℕ) (words : List (List ℕ)) → line < n → length (filter has_line (numbered_from n words)) ≡ 0
  none_below n [] below = refl
  none_below n (word ∷ words) below =
      with_line n word words false (ne_eqb line n (λ same. omega (arith, below, same))) ∙ none_below (suc n) words (omega (arith, below))

  -- and one at most
  one_at_most : (n : ℕ) (words : List (List ℕ)) → length (filter has_line (numbered_from n words)) ≤ 1
  one_at_most n [] = omega arith
  one_at_most n (word ∷ words) =
      by_test (λ b. length (filter has_line (numbered_from n (word ∷ words))) ≤ 1) (line == n)
      (λ on. omega (arith, with_line n word words true on, none_below (suc n) words (omega (arith, eqb-true line n on))))
      (λ off. omega (arith, with_line n word words false off, one_at_most (suc n) words))

lines_above : (n : ℕ) (words : List (List ℕ)) → 0 < n → All (λ (word : NumberedWord). 0 < word.line) (numbered_from n words)
lines_above n [] above = All-nil (λ (word : NumberedWord). 0 < word.line)
lines_above n (word ∷ words) above =
    All-cons (λ (word : NumberedWord). 0 < word.line) (record { line = n; text = word }) (numbered_from (suc n) words) above (lines_above (suc n) words (omega arith))

-- words that are numbered from 1 have lines
pub numbered_lines : (words : List (List ℕ)) → HaveLines (numbered_from 1 words)
numbered_lines words = record { once = λ line. one_at_most line 1 words; above = lines_above 1 words (omega arith) }

pub length_numbered : (n : ℕ) (words : List (List ℕ)) → length (numbered_from n words) ≡ length words
length_numbered n [] = refl
length_numbered n (word ∷ words) = omega (arith, length_numbered (suc n) words)

-- words in another order have lines too
pub lines_still : (old new : List NumberedWord) → IsPermutation old new → HaveLines old → HaveLines new
lines_still old new same lines = record {
  once = λ line.
      let test : NumberedWord → Bool = λ word. line == word.line in
      omega (arith, lines.once line, length-filter test old, length-filter test new, sum_by-IsPermutation (λ word. cond (test word) 1 0) old new same);
  above = All-permutation (λ (word : NumberedWord). 0 < word.line) old new same lines.above;
}
