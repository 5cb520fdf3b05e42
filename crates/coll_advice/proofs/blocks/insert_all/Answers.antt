-- Behind the last line all were put in.
use Rattle.std.proofs.Common.{arith}
use Rattle.coll_nodes.specs.TableLayout.{collation}
use Rattle.coll_advice.proofs.BlockLines.{all_same}
use Rattle.coll_advice.proofs.blocks.insert_all.Goals as goal

pub returns : goal.returns
returns c =
    all_same (collation c.args.table.now) c.args.target.now c.args.lines.now c.loop-line.line-index (let past = c.loop-line-test.false in omega (arith, past)) c.loop-line.all c.loop-line.invariant
