-- What writing the output of a batch answers.
use Rattle.std.specs.Prelude.{◌≡◌, ◌⊎◌, ◌==◌, ℕ, if◌then◌else◌, List, Option, Result, Ok, Err}
use Rattle.std.specs.Io.KnownBytes.{Appends}
use Rattle.coll_devices.specs.Devices.{raised, AppendsPrefix}
use Rattle.coll_devices.specs.declared.stops.WriteStop.{WriteStop}
use Rattle.coll_devices.specs.declared.stops.WriteStop.TheVariants as write
use Rattle.coll_key.specs.declared.key_faults.KeyFault.TheVariants as key
use Rattle.coll_faults.specs.Faults.{fault_number}
use Rattle.coll_faults.specs.declared.faults.Fault.{Fault}
use Rattle.coll_faults.specs.declared.faults.Fault.TheVariants as fault

-- lack of memory for ranks or a key
abbrev pub starved_key : Fault
starved_key = fault.Key key.OutOfMemory

-- what a write answered, with its fault as one of all faults
abbrev pub as_written : Result (Unit {0}) WriteStop → Result (Unit {0}) Fault
as_written (Ok done) = Ok done
as_written (Err stop) = Err (fault.Write stop)

-- a fault that may come with the output: a write that fails, or lack of memory for ranks or a key
abbrev pub IsOfOutput : Fault → Type 0
IsOfOutput f = (f ≡ fault.Write write.WriteFault) ⊎ (f ≡ starved_key)

-- these bytes were written, or at a fault a prefix of them
abbrev pub Outputs : {T : Type 0} → (taken taken_after : Option (List ℕ)) → List ℕ → Result T Fault → Type 0
Outputs taken taken_after bytes (Ok done) = Appends taken taken_after bytes
Outputs taken taken_after bytes (Err f) = IsOfOutput f × AppendsPrefix taken taken_after bytes

-- a failed write is counted, and nothing else is
abbrev pub CountsOutput : {T : Type 0} → ℕ → ℕ → Result T Fault → Type 0
CountsOutput old new (Ok done) = new ≡ old
CountsOutput old new (Err f) = new ≡ (if fault_number f == 68 then raised old else old)
