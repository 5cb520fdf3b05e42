-- A table text handed in line by line: what is stored of the lines before, and what one more line makes of it.
use Rattle.std.specs.Prelude.{◌≡◌, ℕ, Bool, true, false, if◌then◌else◌, List, [], ◌∷◌, ◌++◌, Option, Some, None, is_some, Result, Ok, Err}
use Rattle.coll_devices.specs.PhysicalLines.{lines_of}
use Rattle.coll_lex.specs.EarlyEnds.{ends_at}
use Rattle.coll_lex.specs.LogicalLines.{LexerState, OpenLine, first_state, number_of, fed, outside}
use Rattle.coll_lex.specs.declared.faults.LexFault.{LexFault}
use Rattle.coll_lex.specs.declared.tokens.Line.{Line}
use Rattle.coll_syntax.specs.TableLines.{table_line}
use Rattle.coll_syntax.specs.declared.lines.TableLine.{TableLine}
use Rattle.coll_syntax.specs.declared.lines.TableLine.TheVariants as line
use Rattle.coll_syntax.specs.declared.rules.Rule.{Rule}
use Rattle.coll_syntax.specs.declared.syntax_faults.SyntaxFault.{SyntaxFault}
use Rattle.coll_nodes.specs.declared.declarations.Declaration.{Declaration}
use Rattle.coll_nodes.specs.declared.declarations.Declaration.TheVariants as declaration
use Rattle.coll_nodes.specs.declared.entries.Entry.{Entry}
use Rattle.coll_nodes.specs.Table.{Collation, Section}
use Rattle.coll_nodes.specs.Entries.{entry_of}
use Rattle.coll_texts.specs.BuilderStates.{Numbered, BuilderState, state_of, table_of, second_name, own_order}
use Rattle.coll_texts.specs.BuilderStates.{cause_after, with_own_weights, line_fault, at_line, is_end, levels_of, rules_given}
use Rattle.coll_texts.specs.LoadFaults.{early_fault}
use Rattle.coll_texts.specs.Reading.{reads}
use Rattle.coll_texts.specs.declared.load_faults.LoadFault.{LoadFault}
use Rattle.coll_texts.specs.declared.load_faults.LoadCause.TheVariants.{Lex, Syntax}

-- What one more accepted line makes of what the lines before it say.

-- sections with one more entry, behind all others
abbrev pub with_last : List Section → Entry → List Section
with_last [] entry = []
with_last (last ∷ []) entry = record last { entries = last.entries ++ entry ∷ [] } ∷ []
with_last (first ∷ second ∷ later) entry = first ∷ with_last (second ∷ later) entry

-- sections with one more, which is empty
abbrev pub with_section : List Section → List ℕ → List Section
with_section sections name = sections ++ record { name = Some name; entries = [] } ∷ []

-- sections with one more, if one begins
abbrev pub with_section_if : List Section → Option (List ℕ) → List Section
with_section_if sections None = sections
with_section_if sections (Some name) = with_section sections name

-- the rules after an `order_start`: those of the first one stand
abbrev pub rules_after : Option (List Rule) → Option (List Rule) → Option (List Rule)
rules_after (Some rules) given = Some rules
rules_after None given = Some (rules_given given)

-- what the lines say with one more declaration
abbrev pub with_declaration : BuilderState → Declaration → BuilderState
with_declaration d new = record d { declared = d.declared ++ new ∷ [] }

-- what the lines say with one more entry, of the line with this number
abbrev pub with_entry : BuilderState → ℕ → Entry → BuilderState
with_entry d number entry = record d { sections = with_last d.sections entry; numbers = d.numbers ++ number ∷ [] }

-- what the lines say with this one behind them; behind the end of the category the weights of all entries stand by own names
unfoldable pub state_with : BuilderState → ℕ → TableLine → BuilderState
state_with d number (line.Symbol name) = with_declaration d (declaration.Symbol name)
state_with d number (line.Element name text) = with_declaration d (declaration.Element name text)
state_with d number (line.Equivalence name symbol) = with_declaration d (second_name d.declared name symbol)
state_with d number (line.OrderStart section rules) =
    record d { order_open = true; rules = rules_after d.rules rules; sections = with_section_if d.sections section }
state_with d number line.OrderEnd = record d { order_open = false }
state_with d number (line.Section name) = record d { sections = with_section d.sections name }
state_with d number line.Script = d
state_with d number line.EndCategory = with_own_weights d
state_with d number (line.Order order) = with_entry d number (entry_of (levels_of d.rules) d.declared (own_order d.declared order))

-- what the lines say with a numbered one behind them
abbrev pub state_after : BuilderState → Numbered → BuilderState
state_after d n = state_with d n.number n.line

-- what the lines say behind one that is refused: what they said before it; where the weights refuse the line that ends the category, these
-- stand by own names
abbrev pub state_refused : BuilderState → Numbered → BuilderState
state_refused d n = if is_some (cause_after d n.line) then d else state_after d n

-- what is stored: where the lexer stands, whether the category has begun, and has ended, what its lines say, with the weights by
-- own names once it has ended, and the first fault
pub record LoaderState : Type 0 where
  pub lexer : LexerState
  pub begun : Bool
  pub ended : Bool
  pub builder : BuilderState
  pub fault : Option LoadFault

-- before the first line
abbrev pub first_loader : LoaderState
first_loader = record { lexer = first_state; begun = false; ended = false; builder = state_of []; fault = None }

-- a fault that stands, or the answer
abbrev pub unless_faulty : {A : Type 0} → Option LoadFault → Result A LoadFault → Result A LoadFault
unless_faulty (Some fault) answer = Err fault
unless_faulty None answer = answer

-- a line before the category, by what the lexer says of it
abbrev pub by_outside : LoaderState → Result (Bool × LexerState) LexFault → Result LoaderState LoadFault
by_outside s (Ok (begins, after)) = Ok (record s { lexer = after; begun = begins })
by_outside s (Err fault) = Err (at_line (number_of s.lexer) (Lex fault))

-- a line of the category that the grammar accepts, by its fault
abbrev pub taken_line : LoaderState → Numbered → Option LoadFault → Result LoaderState LoadFault
taken_line s n (Some fault) = Err fault
taken_line s n None = Ok (record s { builder = state_after s.builder n; ended = is_end n.line })

-- a logical line, by what the grammar says of it
abbrev pub by_read : LoaderState → ℕ → Result TableLine SyntaxFault → Result LoaderState LoadFault
by_read s number (Ok read) = taken_line s (record { number = number; line = read })
    (line_fault s.builder (record { number = number; line = read }))
by_read s number (Err fault) = Err (at_line number (Syntax fault))

-- a line of the category, by what the lexer says of it
abbrev pub by_fed : LoaderState → Result (Option Line × LexerState) LexFault → Result LoaderState LoadFault
by_fed s (Ok (None, after)) = Ok (record s { lexer = after })
by_fed s (Ok (Some whole, after)) = by_read (record s { lexer = after }) whole.number (table_line whole.tokens)
by_fed s (Err fault) = Err (at_line (number_of s.lexer) (Lex fault))

-- a line, by where it stands: before the category, in it, or behind it
abbrev pub by_where : LoaderState → List ℕ → Result LoaderState LoadFault
by_where s physical =
    if s.ended then Ok s
    else (if s.begun then by_fed s (fed s.lexer physical)
    else by_outside s (outside s.lexer physical))

-- what is stored with one more line, or the fault
unfoldable pub loaded_line : LoaderState → List ℕ → Result LoaderState LoadFault
loaded_line s physical = unless_faulty s.fault (by_where s physical)

-- the fault of a text that ends here: of a line that is left open, or of the end
abbrev pub early_end : LoaderState → Option OpenLine → LoadFault
early_end s left = early_fault (ends_at s.begun s.lexer.count left)

-- the table, where the category has ended, or the fault
unfoldable pub loaded : LoaderState → Result Collation LoadFault
loaded s = unless_faulty s.fault (if s.ended then Ok (table_of s.builder) else Err (early_end s s.lexer.line))

-- what follows a line, unless it is at fault
abbrev pub past_line : Result LoaderState LoadFault → (LoaderState → Result Collation LoadFault) → Result Collation LoadFault
past_line (Ok after) later = later after
past_line (Err fault) later = Err fault

-- the answer to lines that are handed in one after another
unfoldable pub answer_to : LoaderState → List (List ℕ) → Result Collation LoadFault
answer_to s [] = loaded s
answer_to s (physical ∷ lines) = past_line (loaded_line s physical) (λ after. answer_to after lines)

-- handing in the lines of a text one after another answers what the text is
abbrev pub LinesAreRead : Type 0
LinesAreRead = (text : List ℕ) → answer_to first_loader (lines_of text) ≡ reads text
