-- The place of the identifier is behind the entries that were passed, among those that are left.
use Rattle.std.proofs.Common.{◌+◌, ◌≤◌, length}
use Rattle.coll_nodes.specs.Table.{entries_of}
use Rattle.coll_nodes.specs.TableLayout.{collation}
use Rattle.coll_nodes.specs.Walks.{entries_visited}
use Rattle.coll_edit_replies.proofs.ShowingLemmas.{IsCounted}
use Rattle.coll_edit_replies.proofs.showing.rank_of.Given as goal

abbrev pub invariant-walk : goal.invariant-walk
invariant-walk l =
    record {
      counted : IsCounted (entries_of (collation l.table)) (entries_visited l.left) l.before l.id;
      few : l.before + length (entries_visited l.left) ≤ 262_144;
    }
