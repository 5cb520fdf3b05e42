-- The numbers and the names of the faults of lines, blocks and commands, as replies and messages show them (the project's own).
use Rattle.std.specs.Prelude.{ℕ, Bool, true, false, List, codes}
use Rattle.coll_lex.specs.Faults.{lex_fault_number, lex_fault_name}
use Rattle.coll_syntax.specs.SyntaxFaults.{syntax_fault_number, syntax_fault_name}
use Rattle.coll_lex.specs.declared.faults.LexFault.TheVariants as lex
use Rattle.coll_syntax.specs.declared.syntax_faults.SyntaxFault.TheVariants as syntax
use Rattle.coll_requests.specs.declared.request_faults.RequestFault.{RequestFault}
use Rattle.coll_requests.specs.declared.request_faults.RequestFault.TheVariants as fault

-- the number of a fault
abbrev pub request_fault_number : RequestFault → ℕ
request_fault_number (fault.Lex f) = lex_fault_number f
request_fault_number (fault.Syntax f) = syntax_fault_number f
request_fault_number fault.BlockOpen = 62
request_fault_number fault.BlockNotEnded = 63
request_fault_number fault.UnknownCommand = 64
request_fault_number fault.NoBlock = 69

-- the name of a fault
abbrev pub request_fault_name : RequestFault → List ℕ
request_fault_name (fault.Lex f) = lex_fault_name f
request_fault_name (fault.Syntax f) = syntax_fault_name f
request_fault_name fault.BlockOpen = codes "BlockOpen"
request_fault_name fault.BlockNotEnded = codes "BlockNotEnded"
request_fault_name fault.UnknownCommand = codes "UnknownCommand"
request_fault_name fault.NoBlock = codes "NoBlock"

-- lack of memory, whatever was refused for it
abbrev pub is_lack_of_memory : RequestFault → Bool
is_lack_of_memory (fault.Lex lex.OutOfMemory) = true
is_lack_of_memory (fault.Syntax syntax.OutOfMemory) = true
is_lack_of_memory f = false
