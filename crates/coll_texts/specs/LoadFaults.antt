-- Why a load was refused: the cause that a fault below is, and the numbers and the names that messages show.
use Rattle.std.specs.Prelude.{ℕ, List, codes}
use Rattle.coll_lex.specs.Faults.{lex_fault_number, lex_fault_name}
use Rattle.coll_lex.specs.declared.early_ends.EarlyEnd.{EarlyEnd}
use Rattle.coll_lex.specs.declared.early_ends.EarlyEnd.TheVariants as early
use Rattle.coll_lex.specs.declared.faults.LexFault.{LexFault}
use Rattle.coll_lex.specs.declared.faults.LexFault.TheVariants as lex
use Rattle.coll_syntax.specs.SyntaxFaults.{syntax_fault_number, syntax_fault_name}
use Rattle.coll_syntax.specs.declared.syntax_faults.SyntaxFault.{SyntaxFault}
use Rattle.coll_syntax.specs.declared.syntax_faults.SyntaxFault.TheVariants as syntax
use Rattle.coll_texts.specs.declared.load_faults.LoadFault.{LoadFault}
use Rattle.coll_texts.specs.declared.load_faults.LoadCause.{LoadCause}
use Rattle.coll_texts.specs.declared.load_faults.LoadCause.TheVariants.{Lex, Syntax, NoCategory, NoRules, RulesDiffer, DeclaredTwice}
use Rattle.coll_texts.specs.declared.load_faults.LoadCause.TheVariants.{NotDeclared, PlacedTwice, SymbolWithWeights, TooManyWeights}
use Rattle.coll_texts.specs.declared.load_faults.LoadCause.TheVariants.{WeightNotPlaced, StringTwice, SectionTwice, OutsideOrder, Full}
use Rattle.coll_texts.specs.declared.load_faults.LoadCause.TheVariants.{NoEnd, ReadFault, OutOfMemory, NotASymbol}

-- the cause that a fault of the lexer is: lack of memory is a cause of its own, whoever met it
abbrev pub lex_cause : LexFault → LoadCause
lex_cause lex.OutOfMemory = OutOfMemory
lex_cause fault = Lex fault

-- the cause that a fault of the grammar is
abbrev pub syntax_cause : SyntaxFault → LoadCause
syntax_cause syntax.OutOfMemory = OutOfMemory
syntax_cause fault = Syntax fault

-- the fault of a text that ends before its category does
abbrev pub early_fault : EarlyEnd → LoadFault
early_fault (early.LeftOpen number) = record { line = number; cause = Lex lex.DanglingEscape }
early_fault (early.WithinCategory count) = record { line = count; cause = NoEnd }
early_fault (early.BeforeCategory count) = record { line = count; cause = NoCategory }

-- the number of a cause
abbrev pub load_cause_number : LoadCause → ℕ
load_cause_number (Lex fault) = lex_fault_number fault
load_cause_number (Syntax fault) = syntax_fault_number fault
load_cause_number NoCategory = 30
load_cause_number NoRules = 31
load_cause_number RulesDiffer = 32
load_cause_number DeclaredTwice = 33
load_cause_number NotDeclared = 34
load_cause_number PlacedTwice = 35
load_cause_number SymbolWithWeights = 36
load_cause_number TooManyWeights = 37
load_cause_number WeightNotPlaced = 38
load_cause_number StringTwice = 39
load_cause_number SectionTwice = 40
load_cause_number OutsideOrder = 41
load_cause_number Full = 42
load_cause_number NoEnd = 43
load_cause_number ReadFault = 67
load_cause_number OutOfMemory = 70
load_cause_number NotASymbol = 73

-- the name of a cause
abbrev pub load_cause_name : LoadCause → List ℕ
load_cause_name (Lex fault) = lex_fault_name fault
load_cause_name (Syntax fault) = syntax_fault_name fault
load_cause_name NoCategory = codes "NoCategory"
load_cause_name NoRules = codes "NoRules"
load_cause_name RulesDiffer = codes "RulesDiffer"
load_cause_name DeclaredTwice = codes "DeclaredTwice"
load_cause_name NotDeclared = codes "NotDeclared"
load_cause_name PlacedTwice = codes "PlacedTwice"
load_cause_name SymbolWithWeights = codes "SymbolWithWeights"
load_cause_name TooManyWeights = codes "TooManyWeights"
load_cause_name WeightNotPlaced = codes "WeightNotPlaced"
load_cause_name StringTwice = codes "StringTwice"
load_cause_name SectionTwice = codes "SectionTwice"
load_cause_name OutsideOrder = codes "OutsideOrder"
load_cause_name Full = codes "Full"
load_cause_name NoEnd = codes "NoEnd"
load_cause_name ReadFault = codes "ReadFault"
load_cause_name OutOfMemory = codes "OutOfMemory"
load_cause_name NotASymbol = codes "NotASymbol"

-- the number of a fault is that of its cause
abbrev pub load_fault_number : LoadFault → ℕ
load_fault_number fault = load_cause_number fault.cause

-- the name of a fault is that of its cause
abbrev pub load_fault_name : LoadFault → List ℕ
load_fault_name fault = load_cause_name fault.cause
