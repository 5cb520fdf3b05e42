-- The faults of each are told behind those of the ones before it.
use Rattle.coll_syntax.specs.declared.weights.Weight.{Weight}
use Rattle.coll_nodes.specs.Entries.{weight_ids}
use Rattle.coll_nodes.specs.TableLayout.{collation}
use Rattle.coll_surveys.specs.TableWeights.{ids_faults}
use Rattle.coll_surveys.proofs.TellingLemmas.{each_told, all_told}
use Rattle.coll_surveys.proofs.table_weights.judge_weights.Goals as goal

pub loop-weight-preserved : goal.loop-weight-preserved
loop-weight-preserved c =
    each_told c.args.told.now.told.faults.items c.loop-weight.told.told.faults.items c.judge_weight.new.told.told.faults.items (λ (weight : Weight). ids_faults (collation c.args.table.now) c.args.number (weight_ids weight)) c.args.weights.now
    c.loop-weight.weight-index c.weight-item.result c.loop-weight-test.true c.weight-item.is c.loop-weight.invariant c.in_ok-judge_weight.ensures

pub returns : goal.returns
returns c =
    all_told c.args.told.now.told.faults.items c.loop-weight.told.told.faults.items (λ (weight : Weight). ids_faults (collation c.args.table.now) c.args.number (weight_ids weight)) c.args.weights.now c.loop-weight.weight-index c.loop-weight-test.false
    c.loop-weight.invariant
