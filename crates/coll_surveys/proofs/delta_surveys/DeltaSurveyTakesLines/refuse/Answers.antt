-- The line is told, and then what it ends.
use Rattle.std.proofs.Common.{[], ◌∷◌}
use Rattle.coll_faults.specs.declared.faults.Fault.TheVariants as fault
use Rattle.coll_findings.specs.SurveyedLines.{Refused}
use Rattle.coll_findings.specs.ToldFaults.{at_line}
use Rattle.coll_surveys.specs.DeltaSurveys.{block_left, faults_told, passed_faults, table_left}
use Rattle.coll_surveys.proofs.DeltaLemmas.{line_told}
use Rattle.coll_surveys.proofs.TellingLemmas.{told_on_ok}
use Rattle.coll_surveys.proofs.delta_surveys.DeltaSurveyTakesLines.refuse.Goals as goal

pub returns : goal.returns
returns c = record {
  taken = line_told c.args.self.now c.pass_over.new.self (Refused c.args.number c.args.opening c.args.fault) c.pass_over.result
      (told_on_ok (faults_told c.args.self.now) c.tell.new.told.told.faults.items (faults_told c.pass_over.new.self) (at_line c.args.number (fault.Lex c.args.fault) ∷ [])
      (passed_faults (table_left c.args.self.now) (block_left c.args.self.now) c.args.opening) c.pass_over.result c.in_ok-tell.ensures c.pass_over.ensures.told)
      c.pass_over.ensures.left;
}
