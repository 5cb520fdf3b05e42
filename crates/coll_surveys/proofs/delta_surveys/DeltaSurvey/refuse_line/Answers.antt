-- The line is told, and then what it ends.
use Rattle.std.proofs.Common.{[], ◌∷◌}
use Rattle.coll_faults.specs.declared.faults.Fault.TheVariants as fault
use Rattle.coll_findings.specs.ToldFaults.{at_line}
use Rattle.coll_surveys.specs.DeltaSurveys.{block_left, faults_told, passed_faults, table_left}
use Rattle.coll_surveys.proofs.TellingLemmas.{told_on_ok}
use Rattle.coll_surveys.proofs.delta_surveys.DeltaSurvey.refuse_line.Goals as goal

pub returns-clause-told : goal.returns-clause-told
returns-clause-told c =
    told_on_ok (faults_told c.args.self.now) c.tell_refused.new.told.told.faults.items (faults_told c.pass_over.new.self) (at_line c.args.line.now.number (fault.Syntax c.args.fault) ∷ [])
    (passed_faults (table_left c.args.self.now) (block_left c.args.self.now) c.args.opening) c.pass_over.result c.in_ok-tell_refused.ensures c.pass_over.ensures.told

pub returns-clause-left : goal.returns-clause-left
returns-clause-left c = c.pass_over.ensures.left
