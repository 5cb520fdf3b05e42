-- An output that is watched.
use Rattle.coll_edit.specs.declared.watched.Watched.{Watched}

-- the output itself
abbrev pub device_of : {W : Type 0} → Watched W → W
device_of w = w.output
