-- What a logical line is: a command, a line of a delta, or a refused line. Lines of a delta file are no commands (the project's
-- own; `reorder-after` and `reorder-end` as in ISO/IEC 14651).
use Rattle.std.specs.Prelude.{ℕ, Bool, true, false, ◌&&◌, nat_eq, if◌then◌else◌, List, [], ◌∷◌, Result, Ok, Err, codes}
use Rattle.std.specs.List.{starts_with}
use Rattle.coll_lex.specs.Blanks.{past_blanks}
use Rattle.coll_lex.specs.Faults.{ends_text}
use Rattle.coll_lex.specs.LogicalLines.{LogicalLine}
use Rattle.coll_lex.specs.declared.tokens.Token.{Token}
use Rattle.coll_lex.specs.declared.faults.LexFault.{LexFault}
use Rattle.coll_lex.specs.declared.faults.LexFault.TheVariants as lex
use Rattle.coll_syntax.specs.DeltaLines.{delta_line}
use Rattle.coll_syntax.specs.declared.lines.DeltaLine.{DeltaLine}
use Rattle.coll_syntax.specs.declared.lines.DeltaLine.TheVariants as delta
use Rattle.coll_syntax.specs.declared.statements.Statement.TheVariants as statement
use Rattle.coll_syntax.specs.declared.syntax_faults.SyntaxFault.{SyntaxFault}
use Rattle.coll_requests.specs.Commands.{is_command, command_of}
use Rattle.coll_requests.specs.declared.request_faults.RequestFault.{RequestFault}
use Rattle.coll_requests.specs.declared.request_faults.RequestFault.TheVariants as fault
use Rattle.coll_requests.specs.declared.session_lines.Command.{Command}
use Rattle.coll_requests.specs.declared.session_lines.Opening.{Opening}
use Rattle.coll_requests.specs.declared.session_lines.Opening.TheVariants as openings
use Rattle.coll_requests.specs.declared.session_lines.StandaloneLine.TheVariants as standalone
use Rattle.coll_requests.specs.declared.session_lines.Parsed.{Parsed}
use Rattle.coll_requests.specs.declared.session_lines.ParsedLine.{ParsedLine}
use Rattle.coll_requests.specs.declared.session_lines.Parsed.TheVariants as kind

-- what a physical line begins with, blanks skipped: the bytes alone decide, without regard to words or escapes
unfoldable pub opening_of : List ℕ → Opening
opening_of line =
    if starts_with nat_eq (past_blanks line) (codes "reorder-after") then openings.ReorderAfter
    else (if starts_with nat_eq (past_blanks line) (codes "reorder-end") then openings.ReorderEnd else openings.Neither)

-- a command, or why it is none
abbrev pub command_parsed : Result Command RequestFault → Parsed
command_parsed (Ok command) = kind.Command command
command_parsed (Err f) = kind.BadCommand f

-- a line of a delta, or a line that the grammar refuses
abbrev pub delta_parsed : Opening → Result DeltaLine SyntaxFault → Parsed
delta_parsed opening (Ok (delta.Symbol name)) = kind.Standalone (standalone.Statement (statement.Symbol name))
delta_parsed opening (Ok (delta.Element name text)) = kind.Standalone (standalone.Statement (statement.Element name text))
delta_parsed opening (Ok (delta.Equivalence name symbol)) = kind.Standalone (standalone.Statement (statement.Equivalence name symbol))
delta_parsed opening (Ok delta.Script) = kind.Standalone standalone.NoEffect
delta_parsed opening (Ok delta.Category) = kind.Standalone standalone.NoEffect
delta_parsed opening (Ok delta.EndCategory) = kind.Standalone standalone.EndsCategory
delta_parsed opening (Ok delta.Copy) = kind.Standalone standalone.NoEffect
delta_parsed opening (Ok (delta.ReorderAfter target)) = kind.BlockStart target
delta_parsed opening (Ok delta.ReorderEnd) = kind.BlockEnd
delta_parsed opening (Ok (delta.SectionAfter moved after)) = kind.Standalone (standalone.Statement (statement.SectionAfter moved after))
delta_parsed opening (Ok (delta.Order line)) = kind.OrderLine line
delta_parsed opening (Err f) = kind.Refused opening (fault.Syntax f)

-- what tokens say, under what the first physical line of their logical line begins with; the test says whether the line may
-- be a command, as those of a session may
unfoldable pub tokens_parsed : (commands : Bool) → Opening → List Token → Parsed
tokens_parsed commands opening [] = delta_parsed opening (delta_line [])
tokens_parsed commands opening (first ∷ rest) =
    if commands && is_command first then command_parsed (command_of first rest) else delta_parsed opening (delta_line (first ∷ rest))

-- a line that the lexer refuses: no other comes after one that ends the text, or that is continued where the text ends
abbrev pub fault_parsed : Opening → LexFault → Parsed
fault_parsed opening lex.DanglingEscape = kind.Stops lex.DanglingEscape
fault_parsed opening f = if ends_text f then kind.Stops f else kind.Refused opening (fault.Lex f)

-- a line by its tokens or its fault
abbrev pub line_parsed : (commands : Bool) → Opening → Result (List Token) LexFault → Parsed
line_parsed commands opening (Ok tokens) = tokens_parsed commands opening tokens
line_parsed commands opening (Err f) = fault_parsed opening f

-- what a logical line is, with its number
abbrev pub parsed_as : (commands : Bool) → LogicalLine → ParsedLine
parsed_as commands line = record { number = line.number; parsed = line_parsed commands (opening_of line.first) line.tokens }

-- what a logical line of a session is
abbrev pub parsed : LogicalLine → ParsedLine
parsed line = parsed_as true line

-- what a logical line of a delta file is
abbrev pub delta_file_parsed : LogicalLine → ParsedLine
delta_file_parsed line = parsed_as false line
