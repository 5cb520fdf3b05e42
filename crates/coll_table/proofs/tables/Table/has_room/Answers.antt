-- Fewer are added than there are lines.
use Rattle.std.proofs.Common.{◌≤◌, ◌-◌, length, sym, arith}
use Rattle.std.proofs.lemmas.Bool.{le-leb}
use Rattle.coll_nodes.specs.Limits.{most_entries}
use Rattle.coll_nodes.specs.Table.{entries_of}
use Rattle.coll_nodes.specs.TableLayout.{collation}
use Rattle.coll_table.specs.Judging.{entries_added}
use Rattle.coll_table.proofs.DeltaLines.{counted_all}
use Rattle.coll_table.proofs.tables.Table.has_room.Goals as goal

pub returns-then-lines-room : goal.returns-then-lines-room
returns-then-lines-room c =
    let table = collation c.args.self.now in
    let length_is = c.len-room.ensures in
    let all = counted_all table c.args.lines.now in
    let room : entries_added table c.args.lines.now ≤ most_entries - length (entries_of table) = let m = c.if-lines-room.true in omega (arith, length_is, all, m) in
    sym (le-leb _ _ room)
