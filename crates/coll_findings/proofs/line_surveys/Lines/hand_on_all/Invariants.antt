-- What the lines that are left do is what all of them do.
use Rattle.std.proofs.Common.{◌≡◌, false, length}
use Rattle.coll_devices.specs.PhysicalLines.{lines_of}
use Rattle.coll_findings.specs.SurveyedLines.{lines_state}
use Rattle.coll_findings.proofs.HandedLemmas.{IsUnderway}
use Rattle.coll_findings.proofs.line_surveys.Lines.hand_on_all.Given as goal

abbrev pub decreases-lines : goal.decreases-lines
decreases-lines g l = length l.left

abbrev pub invariant-lines : goal.invariant-lines
invariant-lines g l = l.initial.self.passes ≡ false → l.initial.self.passed ≡ 0 → IsUnderway g.T.TakesLines.takes g.T.TakesLines.ends (lines_state l.initial.self) (lines_of l.text) l.self
    (lines_of l.left) l.initial.taker l.taker
