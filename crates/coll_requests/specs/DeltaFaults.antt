-- The numbers and the names of the faults of a delta file, as messages show them (the project's own).
use Rattle.std.specs.Prelude.{ℕ, Bool, false, List, codes}
use Rattle.coll_lex.specs.declared.early_ends.EarlyEnd.{EarlyEnd}
use Rattle.coll_lex.specs.declared.early_ends.EarlyEnd.TheVariants as early
use Rattle.coll_lex.specs.declared.faults.LexFault.TheVariants as lex
use Rattle.coll_requests.specs.RequestFaults.{request_fault_number, request_fault_name, is_lack_of_memory}
use Rattle.coll_requests.specs.declared.delta_faults.DeltaFault.{DeltaFault}
use Rattle.coll_requests.specs.declared.delta_faults.DeltaCause.{DeltaCause}
use Rattle.coll_requests.specs.declared.delta_faults.DeltaCause.TheVariants as cause
use Rattle.coll_requests.specs.declared.request_faults.RequestFault.TheVariants as request

-- the number of a cause
abbrev pub delta_cause_number : DeltaCause → ℕ
delta_cause_number (cause.Request f) = request_fault_number f
delta_cause_number cause.NoCategory = 30
delta_cause_number cause.NoEnd = 43

-- the name of a cause
abbrev pub delta_cause_name : DeltaCause → List ℕ
delta_cause_name (cause.Request f) = request_fault_name f
delta_cause_name cause.NoCategory = codes "NoCategory"
delta_cause_name cause.NoEnd = codes "NoEnd"

-- the fault of a file that ends before its category does
abbrev pub early_fault : EarlyEnd → DeltaFault
early_fault (early.LeftOpen number) = record { line = number; cause = cause.Request (request.Lex lex.DanglingEscape) }
early_fault (early.WithinCategory count) = record { line = count; cause = cause.NoEnd }
early_fault (early.BeforeCategory count) = record { line = count; cause = cause.NoCategory }

-- lack of memory
abbrev pub lacks_memory : DeltaCause → Bool
lacks_memory (cause.Request f) = is_lack_of_memory f
lacks_memory cause.NoCategory = false
lacks_memory cause.NoEnd = false

-- the number of a fault is that of its cause
abbrev pub delta_fault_number : DeltaFault → ℕ
delta_fault_number f = delta_cause_number f.cause

-- the name of a fault is that of its cause
abbrev pub delta_fault_name : DeltaFault → List ℕ
delta_fault_name f = delta_cause_name f.cause
