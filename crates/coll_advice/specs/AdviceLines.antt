-- What is written of a fault behind its number and name (the project's own).
use Rattle.std.specs.Prelude.{◌≡◌, ℕ, List, [], ◌++◌, Option, Some, None, Result, codes, is_some}
use Rattle.coll_devices.specs.Devices.{Sends}
use Rattle.coll_syntax.specs.declared.identifiers.Id.{Id}
use Rattle.coll_texts.specs.PrintedParts.{id_bytes, symbol_bytes}
use Rattle.coll_advice.specs.FaultNumbers.{is_fault_number}

-- the identifier that a fault is about, if it is about one, in its canonical spelling
abbrev pub subject_bytes : Option Id → List ℕ
subject_bytes None = []
subject_bytes (Some id) = codes " " ++ id_bytes id

-- what to do, if that is told
abbrev pub sentence_bytes : Option (List ℕ) → List ℕ
sentence_bytes None = []
sentence_bytes (Some sentence) = codes ": " ++ sentence

-- the name that is near, if one is, and the line's end
abbrev pub near_bytes : Option (List ℕ) → List ℕ
near_bytes None = codes "\n"
near_bytes (Some name) = codes "; is " ++ (symbol_bytes name ++ codes " meant?\n")

-- what stands behind the number and name of a fault
abbrev pub advice_line : (sentence : Option (List ℕ)) → Option Id → (near : Option (List ℕ)) → List ℕ
advice_line sentence id near = subject_bytes id ++ (sentence_bytes sentence ++ near_bytes near)

-- that is sent, with the sentence of the number; there is one exactly where a fault has the number
abbrev pub SendsAdvice : {T E : Type 0} → (old new : Option (List ℕ)) → (number : ℕ)
    → Option Id → (near : Option (List ℕ)) → Result T E → Type 0
SendsAdvice old new number id near r =
    (sentence : Option (List ℕ)) × (is_some sentence ≡ is_fault_number number) × Sends old new (advice_line sentence id near) r
