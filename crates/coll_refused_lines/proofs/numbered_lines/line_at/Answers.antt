-- A line that is passed is the next one of all.
use Rattle.std.proofs.Common.{arith, ◌∙◌}
use Rattle.coll_devices.specs.PhysicalLines.{lines_of}
use Rattle.coll_refused_lines.proofs.NumberedLemmas.{line_behind, one_more}
use Rattle.coll_refused_lines.proofs.numbered_lines.line_at.Goals as goal

pub loop-preserved : goal.loop-preserved
loop-preserved c = one_more (lines_of c.args.text.now) (lines_of c.loop.left.now) _ c.loop.counter _ c.loop.invariant c.in_ok-behind.ensures.lines

pub returns : goal.returns
returns c =
    line_behind c.args.text.now c.without_return.result.now _ _ c.args.number c.loop.counter (omega arith) (c.loop.invariant ∙ c.in_ok-line.ensures.lines) c.without_return.ensures
