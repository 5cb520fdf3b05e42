-- Why a line or a statement is refused: one test after another, of which the first that holds decides (the project's own).
use Rattle.std.specs.Prelude.{Bool, if◌then◌else◌, Option, Some}

-- a cause, where a test holds, and else what follows
abbrev pub refused_if : {C : Type 0} → Bool → C → Option C → Option C
refused_if test cause later = if test then Some cause else later
