-- The numbers and the names of the stops of reading and of writing, as replies and messages show them.
use Rattle.std.specs.Prelude.{ℕ, List, codes}
use Rattle.coll_devices.specs.declared.stops.ReadStop.{ReadStop}
use Rattle.coll_devices.specs.declared.stops.ReadStop.TheVariants as read
use Rattle.coll_devices.specs.declared.stops.WriteStop.{WriteStop}
use Rattle.coll_devices.specs.declared.stops.WriteStop.TheVariants as write

-- the number of a stop of reading
abbrev pub read_stop_number : ReadStop → ℕ
read_stop_number read.LineTooLong = 10
read_stop_number read.ReadFault = 67

-- the name of a stop of reading
abbrev pub read_stop_name : ReadStop → List ℕ
read_stop_name read.LineTooLong = codes "LineTooLong"
read_stop_name read.ReadFault = codes "ReadFault"

-- the number of a stop of writing
abbrev pub write_stop_number : WriteStop → ℕ
write_stop_number write.WriteFault = 68

-- the name of a stop of writing
abbrev pub write_stop_name : WriteStop → List ℕ
write_stop_name write.WriteFault = codes "WriteFault"
