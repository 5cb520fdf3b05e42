-- What is kept can be written.
use Rattle.std.specs.Prelude.{All}
use Rattle.coll_delta_texts.specs.Writable.{IsCopyName}
use Rattle.coll_tailorings.proofs.tailoring.writable_copies.Given as goal

abbrev pub invariant-loop-copy : goal.invariant-loop-copy
invariant-loop-copy l = All IsCopyName l.kept.items
