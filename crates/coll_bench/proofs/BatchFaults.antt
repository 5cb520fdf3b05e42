-- Which kind of fault each fault of an input is: lack of memory, or something that the input says.
use Rattle.std.proofs.Common.{◌≡◌, ◌≢◌, ℕ, Bool, true, false, Result, Err, refl, sym, subst}
use Rattle.coll_lex.specs.Faults.{lex_fault_number}
use Rattle.coll_lex.specs.declared.faults.LexFault.{LexFault}
use Rattle.coll_lex.specs.declared.faults.LexFault.TheVariants as lex
use Rattle.coll_syntax.specs.SyntaxFaults.{syntax_fault_number}
use Rattle.coll_syntax.specs.declared.syntax_faults.SyntaxFault.{SyntaxFault}
use Rattle.coll_syntax.specs.declared.syntax_faults.SyntaxFault.TheVariants as syntax
use Rattle.coll_table.specs.Refusals.{refusal_number}
use Rattle.coll_table.specs.declared.refusals.Refusal.{Refusal}
use Rattle.coll_table.specs.declared.refusals.Refusal.TheVariants as refusal
use Rattle.coll_requests.specs.RequestFaults.{is_lack_of_memory}
use Rattle.coll_requests.specs.DeltaFaults.{lacks_memory}
use Rattle.coll_requests.specs.declared.delta_faults.DeltaCause.{DeltaCause}
use Rattle.coll_requests.specs.declared.delta_faults.DeltaCause.TheVariants as cause
use Rattle.coll_requests.specs.declared.delta_faults.DeltaFault.{DeltaFault}
use Rattle.coll_requests.specs.declared.request_faults.RequestFault.{RequestFault}
use Rattle.coll_requests.specs.declared.request_faults.RequestFault.TheVariants as request
use Rattle.coll_faults.specs.Faults.{fault_number, fault_of, delta_fault_of}
use Rattle.coll_bench.specs.BatchOutcome.{delta_fault_in}
use Rattle.coll_bench.specs.BatchReading.{FailsAs}
use Rattle.coll_bench.specs.BatchRuns.{Ending, Starved, Refused, ending_of_number, ending_of}
use Rattle.coll_faults.specs.declared.faults.RunFault.{RunFault}

-- lack of memory, or not
abbrev pub kind_of : Bool → Ending
kind_of true = Starved
kind_of false = Refused

lex_kind : (f : LexFault) → ending_of_number (lex_fault_number f) ≡ kind_of (is_lack_of_memory (request.Lex f))
lex_kind lex.NotUtf8 = refl
lex_kind lex.OpenSymbol = refl
lex_kind lex.EmptySymbol = refl
lex_kind lex.BadName = refl
lex_kind lex.BadCodePoint = refl
lex_kind lex.OpenString = refl
lex_kind lex.CharacterConstant = refl
lex_kind lex.DanglingEscape = refl
lex_kind lex.LineTooLong = refl
lex_kind lex.BadCharDirective = refl
lex_kind lex.TooManyLines = refl
lex_kind lex.OutOfMemory = refl

syntax_kind : (f : SyntaxFault) → ending_of_number (syntax_fault_number f) ≡ kind_of (is_lack_of_memory (request.Syntax f))
syntax_kind syntax.UnknownStatement = refl
syntax_kind syntax.MissingOperand = refl
syntax_kind syntax.ExtraOperand = refl
syntax_kind syntax.BadRule = refl
syntax_kind syntax.TooManyLevels = refl
syntax_kind syntax.WeightTooLong = refl
syntax_kind syntax.ElementLength = refl
syntax_kind syntax.BlockTooLong = refl
syntax_kind syntax.EmptyString = refl
syntax_kind syntax.BadOperand = refl
syntax_kind syntax.OutOfMemory = refl

request_kind : (f : RequestFault) → ending_of_number (fault_number (fault_of f)) ≡ kind_of (is_lack_of_memory f)
request_kind (request.Lex f) = lex_kind f
request_kind (request.Syntax f) = syntax_kind f
request_kind request.BlockOpen = refl
request_kind request.BlockNotEnded = refl
request_kind request.UnknownCommand = refl
request_kind request.NoBlock = refl

-- the kind of a fault of a delta file
pub delta_kind : (line : ℕ) (c : DeltaCause) → ending_of_number (fault_number (delta_fault_of line c)) ≡ kind_of (lacks_memory c)
delta_kind line (cause.Request f) = request_kind f
delta_kind line cause.NoCategory = refl
delta_kind line cause.NoEnd = refl

-- the kind of a refusal
pub refusal_kind : (r : Refusal) → r ≢ refusal.OutOfMemory → ending_of_number (refusal_number r) ≡ Refused
refusal_kind refusal.DeclaredTwice ample = refl
refusal_kind refusal.NotDeclared ample = refl
refusal_kind refusal.SymbolWithWeights ample = refl
refusal_kind refusal.TooManyWeights ample = refl
refusal_kind refusal.WeightNotPlaced ample = refl
refusal_kind refusal.StringTwice ample = refl
refusal_kind refusal.Full ample = refl
refusal_kind refusal.TargetNotPlaced ample = refl
refusal_kind refusal.TwiceInBlock ample = refl
refusal_kind refusal.NoSuchSection ample = refl
refusal_kind refusal.SectionAfterItself ample = refl
refusal_kind refusal.NotPlaced ample = refl
refusal_kind refusal.NoWeights ample = refl
refusal_kind refusal.NotASymbol ample = refl
refusal_kind refusal.OutOfMemory ample = absurd (ample refl)

-- a fault of a delta file is what is answered, unless memory was refused
pub delta_fails : {A : Type 0} (input : ℕ) (f : DeltaFault) (stated : Result A RunFault) → (lacks_memory f.cause ≡ false → stated ≡ Err (delta_fault_in input f))
    → FailsAs (ending_of (delta_fault_in input f)) stated (delta_fault_in input f)
delta_fails input f stated h = subst (λ (e : Ending). FailsAs e stated (delta_fault_in input f)) (sym (delta_kind f.line f.cause)) (by_lack (lacks_memory f.cause) refl)
  where
    by_lack : (lack : Bool) → lacks_memory f.cause ≡ lack → FailsAs (kind_of lack) stated (delta_fault_in input f)
    by_lack true e = tt
    by_lack false e = h e
