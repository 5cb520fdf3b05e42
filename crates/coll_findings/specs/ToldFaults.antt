-- What is told of the faults that judging gives: some of them, in their order, each once (the project's own).
use Rattle.std.specs.Prelude.{◌≡◌, ◌⊎◌, ◌==◌, ◌&&◌, ◌||◌, ℕ, Bool, true, false, List, [], ◌∷◌, ◌++◌, map}
use Rattle.std.specs.List.{IsDistinct}
use Rattle.coll_syntax.specs.Identifier.{same_id}
use Rattle.coll_faults.specs.Faults.{fault_number}
use Rattle.coll_faults.specs.declared.faults.Fault.{Fault}
use Rattle.coll_findings.specs.declared.findings.About.{About}
use Rattle.coll_findings.specs.declared.findings.About.TheVariants as about
use Rattle.coll_findings.specs.declared.findings.FoundFault.{FoundFault}

-- a fault of a line: the line that a batch answers it with, where its statement begins, the line that it stands at, and what is wrong
pub record LineFault : Type 0 where
  pub begins : ℕ
  pub line : ℕ
  pub fault : Fault

-- a fault of a line that is no block's
abbrev pub at_line : ℕ → Fault → LineFault
at_line number f = record { begins = number; line = number; fault = f }

-- the fault that is told, without what is said of it
abbrev pub told_fault : FoundFault → LineFault
told_fault found = record { begins = found.fault.line; line = found.line; fault = found.fault.fault }

-- each of the first is one of the second, in their order, and none of these is two of the first
abbrev pub AreAmong : (told given : List LineFault) → Type 0
AreAmong [] given = Unit {0}
AreAmong (first ∷ told) [] = ⊥
AreAmong (first ∷ told) (one ∷ given) = ((first ≡ one) × AreAmong told given) ⊎ AreAmong (first ∷ told) given

-- behind the faults that were told, some of these are, each once
abbrev pub Tells : (old new : List FoundFault) → (given : List LineFault) → Type 0
Tells old new given = (told : List FoundFault) × (new ≡ old ++ told) × AreAmong (map told_fault told) given

-- When two faults that are told are one.

-- two faults of a line are about the same: nothing, one identifier, or the keyword of another dialect, of which a line begins with one
abbrev pub same_subject : About → About → Bool
same_subject about.Nothing about.Nothing = true
same_subject about.Nothing (about.Id other close) = false
same_subject about.Nothing (about.Word other) = false
same_subject (about.Id id near) about.Nothing = false
same_subject (about.Id id near) (about.Id other close) = same_id id other
same_subject (about.Id id near) (about.Word other) = false
same_subject (about.Word word) about.Nothing = false
same_subject (about.Word word) (about.Id other close) = false
same_subject (about.Word word) (about.Word other) = true

-- it is an identifier
abbrev pub is_of_id : About → Bool
is_of_id about.Nothing = false
is_of_id (about.Id id near) = true
is_of_id (about.Word word) = false

-- the number of a fault that is told
abbrev pub number_told : FoundFault → ℕ
number_told found = fault_number found.fault.fault

-- told once of an identifier, and not once of each line: that it isn't declared, or has no entry
abbrev pub is_told_by_id : FoundFault → Bool
is_told_by_id found = is_of_id found.about && ((number_told found == 34) || (number_told found == 38))

-- two faults are one: they have one number, are about the same, and stand at one line of an input, unless they are told by identifiers
abbrev pub are_same : (found other : FoundFault) → Bool
are_same found other =
    ((found.line == other.line) || is_told_by_id found)
    && ((found.fault.input == other.fault.input)
    && ((number_told found == number_told other) && same_subject found.about other.about))

-- no fault is told twice
abbrev pub AreOnce : List FoundFault → Type 0
AreOnce faults = IsDistinct are_same faults
