-- Nothing is left, and the entries that were visited are those of the table.
use Rattle.std.proofs.Common.{ap, ◌∙◌}
use Rattle.std.specs.Borrow.{Bor}
use Rattle.coll_nodes.specs.Table.{entries_of}
use Rattle.coll_nodes.specs.TableLayout.{collation}
use Rattle.coll_nodes.specs.Walks.{entries_visited}
use Rattle.coll_nodes.specs.declared.entries.Entry.{Entry}
use Rattle.coll_texts.proofs.VisitedEntries.{visited_all}
use Rattle.coll_differences.specs.Weights.{is_reweighted, all_reweighted}
use Rattle.coll_differences.proofs.WalkedLists.{filtered_all}
use Rattle.coll_differences.proofs.weights.reweighted_entries.Goals as goal

pub returns : goal.returns
returns c =
    let others = entries_of (collation c.args.first.now) in
    let none = c.in_default.ensures.steps.0 in
    filtered_all (λ (entry : Bor Entry). entry.now) (is_reweighted others) c.reweighted.found.items (entries_visited c.reweighted.left) (all_reweighted others (entries_visited c.walk-left.result))
    (ap entries_visited none) c.reweighted.invariant
    ∙ (ap (λ items. all_reweighted others (entries_visited items)) c.walk-left.ensures ∙ ap (all_reweighted others) (visited_all (collation c.args.second.now).sections))
