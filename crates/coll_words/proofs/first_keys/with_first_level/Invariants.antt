-- What is packed, and the numbers of the text left, are those of the text; and there is room for these, one for each character.
use Rattle.std.proofs.Common.{◌≡◌, ◌≤◌, ◌+◌, ◌++◌, chars, length}
use Rattle.std.specs.Prelude.{vec_len, vec_capacity}
use denote.Text.{Utf8}
use denote.Shadow.{shadow}
use Rattle.std.specs.List.{flat_map}
use Rattle.coll_ranks.specs.Ranks.{compiled_numbers, elements_by_ranks}
use Rattle.coll_word_lists.specs.PackedKeys.{packed_key}
use Rattle.coll_words.proofs.first_keys.with_first_level.Given as goal

abbrev pub invariant-elements : goal.invariant-elements
invariant-elements l = record {
  text : shadow (Utf8 l.left);
  few : length (chars l.left) ≤ l.later;
  most : l.later ≤ 65_536;
  room : vec_len l.with + l.later ≤ vec_capacity l.with;
  same : l.initial.with.items ++ packed_key (flat_map (compiled_numbers l.ranks.compiled 0) (elements_by_ranks l.ranks (chars l.text)))
      ≡ l.with.items ++ packed_key (flat_map (compiled_numbers l.ranks.compiled 0) (elements_by_ranks l.ranks (chars l.left)));
}

abbrev pub decreases-elements : goal.decreases-elements
decreases-elements l = length (chars l.left)
