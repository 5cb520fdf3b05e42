-- The faults so far were taken out.
use Rattle.std.proofs.Common.{◌≡◌, map}
use Rattle.std.specs.Borrow.{Bor}
use Rattle.std.specs.List.{fold}
use Rattle.coll_advice.specs.declared.found.Found.{Found}
use Rattle.coll_surveys.specs.DeltaSurveys.{without_fault}
use Rattle.coll_surveys.proofs.open_blocks.mend_lines.Given as goal

abbrev pub invariant-loop-fault : goal.invariant-loop-fault
invariant-loop-fault l = record { left : l.left.items ≡ fold without_fault l.initial.left.items (map (λ (f : Bor Found). f.now) l.yielded) }
