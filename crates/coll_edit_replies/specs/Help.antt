-- What is written for `:help` and a number (the project's own).
use Rattle.std.specs.Prelude.{◌≡◌, ℕ, List, ◌++◌, Option, Some, None, Result, Ok, Err, codes, decimal, is_some}
use Rattle.std.specs.Str.Parse.{ParsesUnsigned}
use Rattle.std.specs.declared.num.ParseIntError.{ParseIntError}
use Rattle.coll_devices.specs.Devices.{Sends}
use Rattle.coll_syntax.specs.declared.syntax_faults.SyntaxFault.TheVariants.{BadOperand}
use Rattle.coll_bench.specs.Replies.{told_line}
use Rattle.coll_faults.specs.declared.faults.Fault.TheVariants as fault
use Rattle.coll_advice.specs.FaultNumbers.{is_fault_number}

-- a number, the name of its fault, and what to do
abbrev pub advised_line : ℕ → (name sentence : List ℕ) → List ℕ
advised_line number name sentence = decimal number ++ (codes " " ++ (name ++ (codes ": " ++ (sentence ++ codes "\n"))))

-- the reply to a number that no fault has
abbrev pub unknown_line : List ℕ
unknown_line = told_line (codes "refused ") (fault.Syntax BadOperand)

-- the reply to a number, of whose fault this name and this sentence are told
abbrev pub number_line : ℕ → Option (List ℕ × List ℕ) → List ℕ
number_line number None = unknown_line
number_line number (Some (name, sentence)) = advised_line number name sentence

-- that is sent; a name and a sentence are told exactly where a fault has the number
abbrev pub SendsNumberHelp : {T E : Type 0} → (old new : Option (List ℕ)) → (number : ℕ) → Result T E → Type 0
SendsNumberHelp old new number r =
    (told : Option (List ℕ × List ℕ)) × (is_some told ≡ is_fault_number number) × Sends old new (number_line number told) r

-- the same for what was read of a text: a number, or none
abbrev pub SendsReadHelp : {T E : Type 0} → (old new : Option (List ℕ)) → (read : Result ℕ ParseIntError) → Result T E → Type 0
SendsReadHelp old new (Ok number) r = SendsNumberHelp old new number r
SendsReadHelp old new (Err error) r = Sends old new unknown_line r

-- the same for a text, which is read as a number below 256 in decimal digits
abbrev pub SendsHelp : {T E : Type 0} → (old new : Option (List ℕ)) → (text : List ℕ) → Result T E → Type 0
SendsHelp old new text r = (read : Result ℕ ParseIntError) × ParsesUnsigned 8 10 text read × SendsReadHelp old new read r
