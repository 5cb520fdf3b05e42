-- Behind what is put, what is left gives the whole.
use Rattle.std.proofs.Common.{◌≡◌, drop, length}
use Rattle.std.specs.Prelude.{chars}
use Rattle.coll_refused_lines.specs.MarkedLines.{columns_behind}
use Rattle.coll_refused_lines.proofs.marked_lines.put_text.Given as goal

abbrev pub invariant-loop-c : goal.invariant-loop-c
invariant-loop-c l =
    columns_behind l.columns.items (drop (length l.yielded) (chars l.text)) ≡ columns_behind l.initial.columns.items (chars l.text)
