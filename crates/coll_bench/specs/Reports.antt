-- How the fault that ended a run is told (the project's own).
use Rattle.std.specs.Prelude.{ℕ, ◌==◌, ◌||◌, if◌then◌else◌, List, [], ◌++◌, slice_get, Option, Some, None, codes, decimal}
use Rattle.coll_devices.specs.declared.stops.WriteStop.TheVariants as write
use Rattle.coll_faults.specs.Faults.{fault_number}
use Rattle.coll_bench.specs.Replies.{told_line}
use Rattle.coll_faults.specs.declared.faults.Fault.{Fault}
use Rattle.coll_faults.specs.declared.faults.Fault.TheVariants as fault
use Rattle.coll_faults.specs.declared.faults.RunFault.{RunFault}

-- the bytes of a name, if there is one
abbrev pub name_written : Option (List ℕ) → List ℕ
name_written None = []
name_written (Some name) = name

-- the bytes of the name of an input
abbrev pub named : (names : List (List ℕ)) → (input : ℕ) → List ℕ
named names input = name_written (slice_get names input)

-- the line of a fault and what follows it, behind the name of its input
abbrev pub behind_name : RunFault → List ℕ
behind_name ended = codes ":" ++ (decimal ended.line ++ told_line (codes ": ") ended.fault)

-- the line of a fault: the name of its input, a colon, its line, a colon, and its number and name
unfoldable pub fault_line : (names : List (List ℕ)) → RunFault → List ℕ
fault_line names ended = named names ended.input ++ behind_name ended

-- a write failed
abbrev pub failed_write : Fault
failed_write = fault.Write write.WriteFault

-- the exit status for a fault: 2 where a device failed, of which a read is 67 and a write 68, and 1 for every other fault
abbrev pub exit_status : Fault → ℕ
exit_status f = if (fault_number f == 67) || (fault_number f == 68) then 2 else 1
