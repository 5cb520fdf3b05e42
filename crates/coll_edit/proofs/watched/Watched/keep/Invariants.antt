-- What is kept changes, and the device stays.
use Rattle.std.proofs.Common.{◌≡◌}
use Rattle.coll_edit.specs.Watching.{device_of}
use Rattle.coll_edit.proofs.watched.Watched.keep.Given as goal

abbrev pub invariant-loop-byte : goal.invariant-loop-byte
invariant-loop-byte g l = device_of l.self ≡ device_of l.initial.self
