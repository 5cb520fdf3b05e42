-- The lines before are passed.
use Rattle.std.proofs.Common.{◌≡◌, drop}
use Rattle.coll_devices.specs.PhysicalLines.{lines_of}
use Rattle.coll_refused_lines.proofs.numbered_lines.line_at.Given as goal

abbrev pub invariant-loop : goal.invariant-loop
invariant-loop l = drop l.counter (lines_of l.text) ≡ lines_of l.left
