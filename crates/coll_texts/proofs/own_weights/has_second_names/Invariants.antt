-- What is left of the declarations has a second name where all of them do.
use Rattle.std.proofs.Common.{◌≡◌}
use Rattle.std.specs.List.{list_any}
use Rattle.coll_nodes.specs.TableLayout.{declared_at}
use Rattle.coll_texts.specs.OwnWeights.{is_equivalence}
use Rattle.coll_texts.proofs.own_weights.has_second_names.Given as goal

abbrev pub invariant-loop-item : goal.invariant-loop-item
invariant-loop-item l = list_any is_equivalence l.item-iterator ≡ list_any is_equivalence (declared_at l.body.layout)
