-- What was found, and what is to be found of what is left, is the whole.
use Rattle.std.proofs.Common.{◌≡◌, ◌++◌, map}
use Rattle.std.specs.Borrow.{Bor}
use Rattle.coll_nodes.specs.Table.{entries_of}
use Rattle.coll_nodes.specs.TableLayout.{collation}
use Rattle.coll_nodes.specs.Walks.{entries_visited}
use Rattle.coll_nodes.specs.declared.entries.Entry.{Entry}
use Rattle.coll_differences.specs.Weights.{all_reweighted}
use Rattle.coll_differences.proofs.weights.reweighted_entries.Given as goal

abbrev pub invariant-reweighted : goal.invariant-reweighted
invariant-reweighted l =
    map (λ (entry : Bor Entry). entry.now) l.found.items ++ all_reweighted (entries_of (collation l.first)) (entries_visited l.left)
    ≡ all_reweighted (entries_of (collation l.first)) (entries_visited l.initial.left)
