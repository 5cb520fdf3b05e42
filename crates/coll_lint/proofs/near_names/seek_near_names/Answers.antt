-- One more fault is the same, but for a name that is near.
use Rattle.std.proofs.Common.{◌∙◌}
use Rattle.std.proofs.Math.Seq.{map-set_same}
use Rattle.coll_lint.specs.Orders.{bare_fault}
use Rattle.coll_lint.proofs.near_names.seek_near_names.Goals as goal

pub loop-found-preserved : goal.loop-found-preserved
loop-found-preserved c =
    map-set_same bare_fault c.loop-found.faults c.loop-found.found-index c.seek_in_turn.new.found c.found-item.result c.in_ok-sought.ensures ∙ c.loop-found.invariant
