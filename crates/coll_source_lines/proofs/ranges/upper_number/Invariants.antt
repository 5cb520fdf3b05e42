use Rattle.coll_source_lines.proofs.NumberLemmas.{ReadSoFar}
use Rattle.coll_source_lines.specs.NameRanges.{base_of}
use Rattle.coll_source_lines.proofs.ranges.upper_number.Given as goal

abbrev pub invariant-loop-digit : goal.invariant-loop-digit
invariant-loop-digit l = ReadSoFar (base_of l.spelled) l.digits l.digit-index l.number
