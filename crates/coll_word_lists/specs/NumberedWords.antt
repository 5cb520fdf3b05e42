-- Numbered words in the order of a table.
use Rattle.std.specs.Prelude.{ℕ, ◌<◌, ◌≤◌, ◌==◌, suc, All, List, [], ◌∷◌, filter, length}
use Rattle.std.specs.List.Sorted.{IsPermutation, IsSorted}
use Rattle.std.specs.Ordering.{nat_cmp, ordering_then}
use Rattle.std.specs.declared.cmp.Ordering.{Ordering}
use Rattle.coll_nodes.specs.Table.{Collation}
use Rattle.coll_key.specs.TextOrder.{order_of}
use Rattle.coll_word_lists.specs.Neighbours.{NumberedWord}

-- words with the numbers of their lines, from a number on
abbrev pub numbered_from : ℕ → (words : List (List ℕ)) → List NumberedWord
numbered_from number [] = []
numbered_from number (word ∷ words) = record { line = number; text = word } ∷ numbered_from (suc number) words

-- the order of two numbered words: that of their texts, and of equal ones that of their lines
abbrev pub line_order : Collation → NumberedWord → NumberedWord → Ordering
line_order table word other = ordering_then (order_of table word.text other.text) (nat_cmp word.line other.line)

-- numbered words, sorted by a table: the same words, none of which comes before the one that it stands behind
pub record AreInOrder (table : Collation) (words sorted : List NumberedWord) : Type 0 where
  pub same : IsPermutation words sorted
  pub ordered : IsSorted (line_order table) sorted

-- no two words have the same line, and none has the line 0
pub record HaveLines (words : List NumberedWord) : Type 0 where
  pub once : (line : ℕ) → length (filter (λ (word : NumberedWord). line == word.line) words) ≤ 1
  pub above : All (λ (word : NumberedWord). 0 < word.line) words
