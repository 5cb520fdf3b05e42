-- Each turn of the loop puts one more behind those that are there.
use Rattle.std.proofs.Common.{arith}
use Rattle.coll_statements.proofs.EntryWeights.{filled_more}
use Rattle.coll_statements.proofs.line_weights.fill_up.Goals as goal

pub loop-weights-preserved : goal.loop-weights-preserved
loop-weights-preserved c = record {
  filled = filled_more c.args.weights.now.items c.loop-weights.weights.items _ _ c.loop-weights.invariant.filled c.in_ok-push.ensures.items;
  few = omega (arith, c.in_ok-push.ensures.len);
}
