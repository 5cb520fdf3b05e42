-- What is packed, and the numbers of the ranks left, are those of all; and there is room for these, and for later ones.
use Rattle.std.proofs.Common.{◌≡◌, ◌≤◌, ◌+◌, ◌++◌, length, map}
use Rattle.std.specs.Prelude.{vec_len, vec_capacity}
use Rattle.coll_ranks.specs.Ranks.{added_to}
use Rattle.coll_word_lists.specs.PackedKeys.{packed_key}
use Rattle.coll_words.proofs.first_keys.with_several.Given as goal

abbrev pub invariant-numbers : goal.invariant-numbers
invariant-numbers l = record {
  same : l.initial.with.items ++ packed_key (map (added_to l.added) l.ranks) ≡ l.with.items ++ packed_key (map (added_to l.added) l.left);
  room : vec_len l.with + length l.left + l.later ≤ vec_capacity l.with;
}

abbrev pub decreases-numbers : goal.decreases-numbers
decreases-numbers l = length l.left
