-- What stands at or before a text ends between two places, and it begins with none behind them.
use Rattle.std.proofs.Common.{◌<◌, ◌≤◌, ◌-◌}
use Rattle.coll_elements.specs.ElementOrder.{strings_in}
use Rattle.coll_elements.proofs.ElementOrder.{NoneBegun, AreReached}
use Rattle.coll_elements.proofs.element_order.count_up_to.Given as goal

abbrev pub invariant-halves : goal.invariant-halves
invariant-halves l = record {
  from : l.start ≤ l.low;
  order : l.low ≤ l.high;
  to : l.high ≤ l.end;
  reached : l.start < l.low → AreReached (strings_in l.ordered) l.text l.low;
  behind : NoneBegun (strings_in l.ordered) l.text l.high l.end;
}

abbrev pub decreases-halves : goal.decreases-halves
decreases-halves l = l.high - l.low
