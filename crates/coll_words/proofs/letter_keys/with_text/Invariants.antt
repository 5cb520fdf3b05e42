-- What is packed, and the numbers of the elements left, are those of all elements.
use Rattle.std.proofs.Common.{◌≡◌, ◌++◌, drop}
use Rattle.std.specs.List.{flat_map}
use Rattle.coll_ranks.specs.Ranks.{compiled_numbers}
use Rattle.coll_word_lists.specs.PackedKeys.{packed_key}
use Rattle.coll_words.proofs.letter_keys.with_text.Given as goal

abbrev pub invariant-loop-element : goal.invariant-loop-element
invariant-loop-element l =
    l.initial.with.items ++ packed_key (flat_map (compiled_numbers l.weights 0) l.element-items)
    ≡ l.with.items ++ packed_key (flat_map (compiled_numbers l.weights 0) (drop l.element-index l.element-items))
