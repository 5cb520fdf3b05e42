-- Each turn of the loop leaves the first cause among what is left, or finds it.
use Rattle.std.proofs.Common.{refl}
use Rattle.coll_texts.specs.BuilderStates.{weight_cause, ids_cause}
use Rattle.coll_nodes.specs.Entries.{weight_ids}
use Rattle.coll_texts.proofs.AgainJudged.{judged_before}
use Rattle.coll_texts.proofs.FirstCauses.{first_found, first_left}
use Rattle.coll_texts.proofs.table_builder.TableBuilder.weights_cause.Goals as goal

pub named_cause-requires : goal.named_cause-requires
named_cause-requires c = record { judged = judged_before c.args.self.now c.args.before.now c.loop-level.level c.get.result c.requires.judged c.get.ensures.lookup.0 c.get.ensures.lookup.1 }

pub returns-in-Some-clause-cause : goal.returns-in-Some-clause-cause
returns-in-Some-clause-cause c =
    let d = c.args.self.now in
    first_found (weight_cause d.declared d.sections) (ids_cause d.declared d.sections) refl (λ _ _. refl) weight_ids c.args.weights.now c.loop-level.level c.index-weights-level.result _
    c.loop-level.invariant c.loop-level-test.true c.index-weights-level.is c.in-Some.cause c.in-Some.ensures.cause

pub loop-level-preserved : goal.loop-level-preserved
loop-level-preserved c =
    let d = c.args.self.now in
    first_left (weight_cause d.declared d.sections) (ids_cause d.declared d.sections) refl (λ _ _. refl) weight_ids c.args.weights.now c.loop-level.level c.index-weights-level.result _
    c.loop-level.invariant c.loop-level-test.true c.index-weights-level.is c.in_default.ensures.cause
