-- What is packed, and the numbers left, are the key; and there is room for these.
use Rattle.std.proofs.Common.{◌≡◌, ◌≤◌, ◌+◌, ◌++◌, length}
use Rattle.std.specs.Prelude.{vec_len, vec_capacity}
use Rattle.coll_word_lists.specs.PackedKeys.{packed_key}
use Rattle.coll_word_lists.proofs.packed_keys.with_packed_key.Given as goal

abbrev pub invariant-numbers : goal.invariant-numbers
invariant-numbers l = record {
  same : l.initial.with.items ++ packed_key l.key ≡ l.with.items ++ packed_key l.left;
  room : vec_len l.with + length l.left ≤ vec_capacity l.with;
}

abbrev pub decreases-numbers : goal.decreases-numbers
decreases-numbers l = length l.left
