-- The words up to a run are sorted, and the others are as they were.
use Rattle.std.proofs.Common.{◌-◌, length}
use Rattle.coll_nodes.specs.TableLayout.{collation}
use Rattle.coll_words.proofs.TiedLemmas.{IsSortedTo}
use Rattle.coll_words.proofs.tied_words.sort_ties.Given as goal

abbrev pub invariant-runs : goal.invariant-runs
invariant-runs l = IsSortedTo (collation l.table) l.initial.words l.words l.start

abbrev pub decreases-runs : goal.decreases-runs
decreases-runs l = length l.words - l.start
