-- The numbers and the names of the faults of a session, as replies and messages show them (the project's own).
use Rattle.std.specs.Prelude.{ℕ, List, codes}
use Rattle.coll_devices.specs.Stops.{read_stop_number, read_stop_name, write_stop_number, write_stop_name}
use Rattle.coll_lex.specs.Faults.{lex_fault_number, lex_fault_name}
use Rattle.coll_syntax.specs.SyntaxFaults.{syntax_fault_number, syntax_fault_name}
use Rattle.coll_table.specs.Refusals.{refusal_number, refusal_name}
use Rattle.coll_texts.specs.LoadFaults.{load_fault_number, load_fault_name}
use Rattle.coll_history.specs.HistoryFaults.{bench_fault_number, bench_fault_name}
use Rattle.coll_key.specs.KeyFaults.{fault_number as key_fault_number, fault_name as key_fault_name}
use Rattle.coll_texts.specs.declared.load_faults.LoadCause.TheVariants as load
use Rattle.coll_requests.specs.declared.delta_faults.DeltaCause.{DeltaCause}
use Rattle.coll_requests.specs.declared.delta_faults.DeltaCause.TheVariants as delta
use Rattle.coll_requests.specs.declared.request_faults.RequestFault.{RequestFault}
use Rattle.coll_requests.specs.declared.request_faults.RequestFault.TheVariants as request
use Rattle.coll_faults.specs.declared.faults.Fault.{Fault}
use Rattle.coll_faults.specs.declared.faults.Fault.TheVariants as fault

-- the number of a fault
abbrev pub fault_number : Fault → ℕ
fault_number (fault.Read stop) = read_stop_number stop
fault_number (fault.Write stop) = write_stop_number stop
fault_number (fault.Lex f) = lex_fault_number f
fault_number (fault.Syntax f) = syntax_fault_number f
fault_number (fault.Load f) = load_fault_number f
fault_number (fault.Table f) = refusal_number f
fault_number (fault.Key f) = key_fault_number f
fault_number (fault.Bench f) = bench_fault_number f
fault_number fault.BlockOpen = 62
fault_number fault.BlockNotEnded = 63
fault_number fault.UnknownCommand = 64
fault_number fault.NoBlock = 69

-- the name of a fault
abbrev pub fault_name : Fault → List ℕ
fault_name (fault.Read stop) = read_stop_name stop
fault_name (fault.Write stop) = write_stop_name stop
fault_name (fault.Lex f) = lex_fault_name f
fault_name (fault.Syntax f) = syntax_fault_name f
fault_name (fault.Load f) = load_fault_name f
fault_name (fault.Table f) = refusal_name f
fault_name (fault.Key f) = key_fault_name f
fault_name (fault.Bench f) = bench_fault_name f
fault_name fault.BlockOpen = codes "BlockOpen"
fault_name fault.BlockNotEnded = codes "BlockNotEnded"
fault_name fault.UnknownCommand = codes "UnknownCommand"
fault_name fault.NoBlock = codes "NoBlock"

-- a fault that was found apart from any table, as one of all faults
abbrev pub fault_of : RequestFault → Fault
fault_of (request.Lex f) = fault.Lex f
fault_of (request.Syntax f) = fault.Syntax f
fault_of request.BlockOpen = fault.BlockOpen
fault_of request.BlockNotEnded = fault.BlockNotEnded
fault_of request.UnknownCommand = fault.UnknownCommand
fault_of request.NoBlock = fault.NoBlock

-- a fault of a delta file, at a line of it, as one of all faults
abbrev pub delta_fault_of : ℕ → DeltaCause → Fault
delta_fault_of line (delta.Request f) = fault_of f
delta_fault_of line delta.NoCategory = fault.Load (record { line = line; cause = load.NoCategory })
delta_fault_of line delta.NoEnd = fault.Load (record { line = line; cause = load.NoEnd })
