-- A line more is counted, if its identifier isn't placed.
use Rattle.std.proofs.Common.{arith}
use Rattle.coll_nodes.specs.TableLayout.{collation}
use Rattle.coll_table.proofs.DeltaLines.{counted_few}
use Rattle.coll_table.proofs.tables.Table.added_len.Goals as goal

pub overflow_add-added : goal.overflow_add-added
overflow_add-added c =
    let few = counted_few (collation c.args.self.now) c.args.lines.now c.loop-line.line-index c.line-item.result c.loop-line-test.true c.line-item.is c.loop-line.added c.loop-line.invariant in
    let within = c.loop-line.auto.line-index-end in
    omega (arith, few, within)
