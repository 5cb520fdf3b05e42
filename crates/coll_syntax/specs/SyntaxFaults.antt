-- The numbers and the names of the faults of the grammar, as replies and messages show them.
use Rattle.std.specs.Prelude.{ℕ, List, codes}
use Rattle.coll_syntax.specs.declared.syntax_faults.SyntaxFault.{SyntaxFault}
use Rattle.coll_syntax.specs.declared.syntax_faults.SyntaxFault.TheVariants.{UnknownStatement, MissingOperand, ExtraOperand, BadRule}
use Rattle.coll_syntax.specs.declared.syntax_faults.SyntaxFault.TheVariants.{TooManyLevels, WeightTooLong, ElementLength, BlockTooLong}
use Rattle.coll_syntax.specs.declared.syntax_faults.SyntaxFault.TheVariants.{EmptyString, BadOperand, OutOfMemory}

-- the number of a fault of the grammar
abbrev pub syntax_fault_number : SyntaxFault → ℕ
syntax_fault_number UnknownStatement = 20
syntax_fault_number MissingOperand = 21
syntax_fault_number ExtraOperand = 22
syntax_fault_number BadRule = 23
syntax_fault_number TooManyLevels = 24
syntax_fault_number WeightTooLong = 25
syntax_fault_number ElementLength = 26
syntax_fault_number BlockTooLong = 27
syntax_fault_number EmptyString = 28
syntax_fault_number BadOperand = 29
syntax_fault_number OutOfMemory = 70

-- the name of a fault of the grammar
abbrev pub syntax_fault_name : SyntaxFault → List ℕ
syntax_fault_name UnknownStatement = codes "UnknownStatement"
syntax_fault_name MissingOperand = codes "MissingOperand"
syntax_fault_name ExtraOperand = codes "ExtraOperand"
syntax_fault_name BadRule = codes "BadRule"
syntax_fault_name TooManyLevels = codes "TooManyLevels"
syntax_fault_name WeightTooLong = codes "WeightTooLong"
syntax_fault_name ElementLength = codes "ElementLength"
syntax_fault_name BlockTooLong = codes "BlockTooLong"
syntax_fault_name EmptyString = codes "EmptyString"
syntax_fault_name BadOperand = codes "BadOperand"
syntax_fault_name OutOfMemory = codes "OutOfMemory"
