-- The numbers and the names of the refusals of a table, as replies and messages show them.
use Rattle.std.specs.Prelude.{ℕ, List, codes}
use Rattle.coll_table.specs.declared.refusals.Refusal.{Refusal}
use Rattle.coll_table.specs.declared.refusals.Refusal.TheVariants.{DeclaredTwice, NotDeclared, SymbolWithWeights, TooManyWeights}
use Rattle.coll_table.specs.declared.refusals.Refusal.TheVariants.{WeightNotPlaced, StringTwice, Full, TargetNotPlaced, TwiceInBlock}
use Rattle.coll_table.specs.declared.refusals.Refusal.TheVariants.{NoSuchSection, SectionAfterItself, NotPlaced, NoWeights, OutOfMemory}
use Rattle.coll_table.specs.declared.refusals.Refusal.TheVariants.{NotASymbol}

-- the number of a refusal
abbrev pub refusal_number : Refusal → ℕ
refusal_number DeclaredTwice = 33
refusal_number NotDeclared = 34
refusal_number SymbolWithWeights = 36
refusal_number TooManyWeights = 37
refusal_number WeightNotPlaced = 38
refusal_number StringTwice = 39
refusal_number Full = 42
refusal_number TargetNotPlaced = 50
refusal_number TwiceInBlock = 51
refusal_number NoSuchSection = 52
refusal_number SectionAfterItself = 53
refusal_number NotPlaced = 54
refusal_number NoWeights = 55
refusal_number OutOfMemory = 70
refusal_number NotASymbol = 73

-- the name of a refusal
abbrev pub refusal_name : Refusal → List ℕ
refusal_name DeclaredTwice = codes "DeclaredTwice"
refusal_name NotDeclared = codes "NotDeclared"
refusal_name SymbolWithWeights = codes "SymbolWithWeights"
refusal_name TooManyWeights = codes "TooManyWeights"
refusal_name WeightNotPlaced = codes "WeightNotPlaced"
refusal_name StringTwice = codes "StringTwice"
refusal_name Full = codes "Full"
refusal_name TargetNotPlaced = codes "TargetNotPlaced"
refusal_name TwiceInBlock = codes "TwiceInBlock"
refusal_name NoSuchSection = codes "NoSuchSection"
refusal_name SectionAfterItself = codes "SectionAfterItself"
refusal_name NotPlaced = codes "NotPlaced"
refusal_name NoWeights = codes "NoWeights"
refusal_name OutOfMemory = codes "OutOfMemory"
refusal_name NotASymbol = codes "NotASymbol"
