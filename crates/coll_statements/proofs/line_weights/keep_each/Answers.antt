-- Each turn of the loop keeps one more weight.
use Rattle.coll_nodes.specs.Entries.{kept_weight}
use Rattle.coll_statements.proofs.EntryWeights.{turned_more}
use Rattle.coll_statements.proofs.line_weights.keep_each.Goals as goal

pub loop-weight-preserved : goal.loop-weight-preserved
loop-weight-preserved c =
    turned_more (kept_weight c.args.id.now) c.args.weights.now c.loop-weight.weights c.loop-weight.weight-index c.weight-item.result c.keep.new.weight c.loop-weight.invariant c.loop-weight-test.true
    c.keep.ensures
