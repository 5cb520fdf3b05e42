-- The copies so far are those of the first lines.
use Rattle.std.proofs.Common.{◌≡◌, take}
use Rattle.coll_edit_messages.proofs.copies.copied_lines.Given as goal

abbrev pub invariant-loop-line : goal.invariant-loop-line
invariant-loop-line l = l.copies.items ≡ take l.line-index l.lines
