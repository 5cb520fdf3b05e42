-- What a device with a count of its errors holds.
use Rattle.std.specs.Prelude.{ℕ, Bool}
use Rattle.coll_devices.specs.declared.devices.Counted.{Counted}

-- the device itself
abbrev pub device_of : {T : Type 0} → Counted T → T
device_of c = c.device

-- the errors counted so far
abbrev pub errors_of : {T : Type 0} → Counted T → ℕ
errors_of c = c.errors

-- whether no byte was taken since the last flush that succeeded, or else since the beginning
abbrev pub flushed_of : {T : Type 0} → Counted T → Bool
flushed_of c = c.flushed
