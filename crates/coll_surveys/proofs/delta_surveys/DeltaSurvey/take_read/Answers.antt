-- A line that is a keyword alone leaves what is stated of it.
use Rattle.std.proofs.Common.{subst}
use Rattle.std.specs.Prelude.{◌≡◌, OnOk}
use Rattle.coll_surveys.specs.DeltaSurveys.{DeltaState, delta_state}
use Rattle.coll_surveys.proofs.DeltaLemmas.{bare_left}
use Rattle.coll_surveys.proofs.delta_surveys.DeltaSurvey.take_read.Goals as goal

pub returns-in_default-clause-left : goal.returns-in_default-clause-left
returns-in_default-clause-left c =
    subst (λ (s : DeltaState). OnOk c.take_bare-taken.result (delta_state c.take_bare-taken.new.self ≡ s))
    (bare_left (delta_state c.args.self.now) c.args.number c.args.line c.in_default.not-Symbol c.in_default.not-Element c.in_default.not-Equivalence c.in_default.not-SectionAfter
    c.in_default.not-ReorderAfter c.in_default.not-Order) c.take_bare-taken.ensures.left
