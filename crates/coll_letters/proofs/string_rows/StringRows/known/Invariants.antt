-- The string is sought between two places.
use Rattle.std.proofs.Common.{◌-◌}
use Rattle.coll_letters.proofs.string_rows.StringRows.known.Given as goal

abbrev pub invariant-halves : goal.invariant-halves
invariant-halves l = Unit {0}

abbrev pub decreases-halves : goal.decreases-halves
decreases-halves l = l.high - l.low
