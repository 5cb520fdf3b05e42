-- The numbers and the names of the faults of lines, as replies and messages show them, and which of them end a text.
use Rattle.std.specs.Prelude.{ℕ, Bool, true, false, List, codes}
use Rattle.coll_lex.specs.declared.faults.LexFault.{LexFault}
use Rattle.coll_lex.specs.declared.faults.LexFault.TheVariants as lex

-- the number of a fault of a line
abbrev pub lex_fault_number : LexFault → ℕ
lex_fault_number lex.NotUtf8 = 1
lex_fault_number lex.OpenSymbol = 2
lex_fault_number lex.EmptySymbol = 3
lex_fault_number lex.BadName = 4
lex_fault_number lex.BadCodePoint = 5
lex_fault_number lex.OpenString = 6
lex_fault_number lex.CharacterConstant = 8
lex_fault_number lex.DanglingEscape = 9
lex_fault_number lex.LineTooLong = 10
lex_fault_number lex.BadCharDirective = 11
lex_fault_number lex.TooManyLines = 12
lex_fault_number lex.OutOfMemory = 70

-- the name of a fault of a line
abbrev pub lex_fault_name : LexFault → List ℕ
lex_fault_name lex.NotUtf8 = codes "NotUtf8"
lex_fault_name lex.OpenSymbol = codes "OpenSymbol"
lex_fault_name lex.EmptySymbol = codes "EmptySymbol"
lex_fault_name lex.BadName = codes "BadName"
lex_fault_name lex.BadCodePoint = codes "BadCodePoint"
lex_fault_name lex.OpenString = codes "OpenString"
lex_fault_name lex.CharacterConstant = codes "CharacterConstant"
lex_fault_name lex.DanglingEscape = codes "DanglingEscape"
lex_fault_name lex.LineTooLong = codes "LineTooLong"
lex_fault_name lex.BadCharDirective = codes "BadCharDirective"
lex_fault_name lex.TooManyLines = codes "TooManyLines"
lex_fault_name lex.OutOfMemory = codes "OutOfMemory"

-- the faults that end a text: after a line that is too long, or one too many, nothing is read
abbrev pub ends_text : LexFault → Bool
ends_text lex.NotUtf8 = false
ends_text lex.OpenSymbol = false
ends_text lex.EmptySymbol = false
ends_text lex.BadName = false
ends_text lex.BadCodePoint = false
ends_text lex.OpenString = false
ends_text lex.CharacterConstant = false
ends_text lex.DanglingEscape = false
ends_text lex.LineTooLong = true
ends_text lex.BadCharDirective = false
ends_text lex.TooManyLines = true
ends_text lex.OutOfMemory = false
