-- A line without effect leaves nothing.
use Rattle.coll_surveys.specs.DeltaSurveys.{delta_state}
use Rattle.coll_surveys.proofs.DeltaLemmas.{idle_left}
use Rattle.coll_surveys.proofs.delta_surveys.DeltaSurvey.take_bare.Goals as goal

pub returns-in_default-clause-left : goal.returns-in_default-clause-left
returns-in_default-clause-left c = idle_left (delta_state c.args.self.now) c.args.line.now c.in_default.not-ReorderEnd c.in_default.not-EndCategory
