-- A text that is read whole from a device (the project's own).
use Rattle.std.specs.Prelude.{◌≡◌, ◌⊎◌, ◌==◌, ℕ, if◌then◌else◌, List, ◌++◌, Option, Some, Result, Ok, Err}
use Rattle.std.specs.Io.KnownBytes.{Consumes}
use Rattle.coll_devices.specs.Devices.{raised}
use Rattle.coll_devices.specs.declared.stops.ReadStop.TheVariants as read
use Rattle.coll_bench.specs.BatchOutcome.{fault_in}
use Rattle.coll_bench.specs.BatchReading.{starved_in}
use Rattle.coll_faults.specs.Faults.{fault_number}
use Rattle.coll_faults.specs.declared.faults.Fault.TheVariants as fault
use Rattle.coll_faults.specs.declared.faults.RunFault.{RunFault}

-- most bytes of a text that is kept
abbrev pub most_text_bytes : ℕ
most_text_bytes = 268_435_456

-- the text that the device had is kept
abbrev pub IsTextOf : (left : Option (List ℕ)) → (kept : List ℕ) → Type 0
IsTextOf left kept = (text : List ℕ) → left ≡ Some text → kept ≡ text

-- a read of an input failed
abbrev pub read_failed : (input : ℕ) → RunFault
read_failed input = fault_in input 0 (fault.Read read.ReadFault)

-- reading an input whole stopped: a read failed, or memory was refused
abbrev pub StopsReading : (input : ℕ) → RunFault → Type 0
StopsReading input ended = (ended ≡ read_failed input) ⊎ (ended ≡ starved_in input)

-- a failed read is counted, and nothing else is
abbrev pub CountsReads : {T : Type 0} → (old new : ℕ) → Result T RunFault → Type 0
CountsReads old new (Ok kept) = new ≡ old
CountsReads old new (Err ended) = new ≡ (if fault_number ended.fault == 67 then raised old else old)

-- bytes that a device gave stand behind those that are kept
abbrev pub KeepsPart : (left left_after : Option (List ℕ)) → (kept kept_after : List ℕ) → Type 0
KeepsPart left left_after kept kept_after = (part : List ℕ) × (kept_after ≡ kept ++ part) × Consumes left left_after part
