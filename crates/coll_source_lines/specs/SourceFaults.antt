-- Why a source is refused: the numbers and the names that messages show. Those of sources alone begin at 80.
use Rattle.std.specs.Prelude.{ℕ, List, codes}
use Rattle.coll_texts.specs.LoadFaults.{load_cause_number, load_cause_name}
use Rattle.coll_source_lines.specs.declared.source_faults.SourceCause.{SourceCause}
use Rattle.coll_source_lines.specs.declared.source_faults.SourceCause.TheVariants.{Load, CopyOfItself, CopyElsewhere, ConditionNotEnded}
use Rattle.coll_source_lines.specs.declared.source_faults.SourceCause.TheVariants.{NoCondition, BadRange}

-- the number of a cause
abbrev pub source_cause_number : SourceCause → ℕ
source_cause_number (Load cause) = load_cause_number cause
source_cause_number CopyOfItself = 80
source_cause_number CopyElsewhere = 81
source_cause_number ConditionNotEnded = 82
source_cause_number NoCondition = 83
source_cause_number BadRange = 84

-- the name of a cause
abbrev pub source_cause_name : SourceCause → List ℕ
source_cause_name (Load cause) = load_cause_name cause
source_cause_name CopyOfItself = codes "CopyOfItself"
source_cause_name CopyElsewhere = codes "CopyElsewhere"
source_cause_name ConditionNotEnded = codes "ConditionNotEnded"
source_cause_name NoCondition = codes "NoCondition"
source_cause_name BadRange = codes "BadRange"
