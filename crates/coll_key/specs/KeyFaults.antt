-- The numbers and the names of the faults of keys, as replies and messages show them.
use Rattle.std.specs.Prelude.{ℕ, List, codes}
use Rattle.coll_key.specs.declared.key_faults.KeyFault.{KeyFault}
use Rattle.coll_key.specs.declared.key_faults.KeyFault.TheVariants.{TextTooLong, OutOfMemory}

-- the number of a fault
abbrev pub fault_number : KeyFault → ℕ
fault_number TextTooLong = 65
fault_number OutOfMemory = 70

-- the name of a fault
abbrev pub fault_name : KeyFault → List ℕ
fault_name TextTooLong = codes "TextTooLong"
fault_name OutOfMemory = codes "OutOfMemory"
