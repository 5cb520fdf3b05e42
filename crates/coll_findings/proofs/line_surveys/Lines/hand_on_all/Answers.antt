-- Each line is handed on where those before it left the lines.
use Rattle.coll_devices.specs.PhysicalLines.{lines_of}
use Rattle.coll_findings.specs.SurveyedLines.{lines_state}
use Rattle.coll_findings.proofs.HandedLemmas.{underway, underway_all, underway_last, underway_more}
use Rattle.coll_findings.proofs.line_surveys.Lines.hand_on_all.Goals as goal

pub lines-init : goal.lines-init
lines-init g c = λ passes passed. underway g.T.TakesLines.takes g.T.TakesLines.ends c.args.self.now (lines_of c.args.text.now) c.args.taker.now passes passed

pub returns-then-branch : goal.returns-then-branch
returns-then-branch g c = λ passes passed.
    underway_last g.T.TakesLines.takes g.T.TakesLines.ends (lines_state c.args.self.now) (lines_of c.args.text.now) c.lines.self c.hand_on.new.self c.in-Some.line.now
    (lines_of c.lines.left.now) (lines_of c.in-Some.behind.now) c.args.taker.now c.lines.taker c.hand_on.new.taker c.in_ok-hand_on.field-0 (c.lines.invariant passes passed)
    c.in-Some.ensures.lines c.in_ok-hand_on.ensures c.if-branch.true

pub lines-preserved : goal.lines-preserved
lines-preserved g c = λ passes passed.
    underway_more g.T.TakesLines.takes g.T.TakesLines.ends (lines_state c.args.self.now) (lines_of c.args.text.now) c.lines.self c.hand_on.new.self c.in-Some.line.now
    (lines_of c.lines.left.now) (lines_of c.in-Some.behind.now) c.args.taker.now c.lines.taker c.hand_on.new.taker c.in_ok-hand_on.field-0 (c.lines.invariant passes passed)
    c.in-Some.ensures.lines c.in_ok-hand_on.ensures c.if-branch.false

pub returns : goal.returns
returns g c = λ passes passed.
    underway_all g.T.TakesLines.takes g.T.TakesLines.ends (lines_state c.args.self.now) (lines_of c.args.text.now) c.lines.self c.lines.left.now c.args.taker.now c.lines.taker c.early_end.result
    (c.lines.invariant passes passed) c.in_default.ensures.none c.early_end.ensures
