-- The faults of each are told behind those of the ones before it.
use Rattle.coll_syntax.specs.declared.identifiers.Id.{Id}
use Rattle.coll_nodes.specs.TableLayout.{collation}
use Rattle.coll_surveys.specs.TableWeights.{cause_faults, named_cause}
use Rattle.coll_surveys.proofs.TellingLemmas.{each_told, all_told}
use Rattle.coll_surveys.proofs.table_weights.judge_ids.Goals as goal

pub loop-id-preserved : goal.loop-id-preserved
loop-id-preserved c =
    each_told c.args.told.now.told.faults.items c.loop-id.told.told.faults.items c.judge_id.new.told.told.faults.items (λ (id : Id). cause_faults c.args.number (named_cause (collation c.args.table.now) id)) c.args.ids.now
    c.loop-id.id-index c.id-item.result c.loop-id-test.true c.id-item.is c.loop-id.invariant c.in_ok-judge_id.ensures

pub returns : goal.returns
returns c =
    all_told c.args.told.now.told.faults.items c.loop-id.told.told.faults.items (λ (id : Id). cause_faults c.args.number (named_cause (collation c.args.table.now) id)) c.args.ids.now c.loop-id.id-index c.loop-id-test.false
    c.loop-id.invariant
