-- The strings so far are in their order.
use Rattle.std.proofs.Common.{◌≡◌, take}
use Rattle.coll_elements.specs.ElementOrder.{IsOrder, strings_in, places_in, texts_of, numbers_of}
use Rattle.coll_elements.proofs.placed_elements.put_in_order.Given as goal

abbrev pub invariant-loop-at : goal.invariant-loop-at
invariant-loop-at l = record {
  order : IsOrder l.ordered.items l.starts l.ends;
  strings : strings_in l.ordered.items ≡ take l.at (texts_of l.strings.items);
  places : places_in l.ordered.items ≡ take l.at (numbers_of l.strings.items);
}
