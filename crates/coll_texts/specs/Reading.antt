-- Reading a table text: the table, or the first line at fault (POSIX.1-2017, 7.3.2).
use Rattle.std.specs.Prelude.{◌≡◌, ℕ, Bool, true, false, if◌then◌else◌, List, [], ◌∷◌, ◌++◌, length, Option, Some, None, Result, Ok, Err}
use Rattle.coll_devices.specs.PhysicalLines.{lines_of}
use Rattle.coll_lex.specs.LogicalLines.{LexerState, LogicalLine, first_state, number_of, outside, logical_lines}
use Rattle.coll_lex.specs.declared.faults.LexFault.{LexFault}
use Rattle.coll_lex.specs.declared.tokens.Token.{Token}
use Rattle.coll_syntax.specs.TableLines.{table_line}
use Rattle.coll_syntax.specs.declared.lines.TableLine.{TableLine}
use Rattle.coll_syntax.specs.declared.syntax_faults.SyntaxFault.{SyntaxFault}
use Rattle.coll_nodes.specs.Table.{Collation}
use Rattle.coll_nodes.specs.WellFormed.{IsWellFormed}
use Rattle.coll_texts.specs.BuilderStates.{Numbered, state_of, table_of, with_own_weights, line_fault, at_line, is_end}
use Rattle.coll_texts.specs.declared.load_faults.LoadFault.{LoadFault}
use Rattle.coll_texts.specs.declared.load_faults.LoadCause.{LoadCause}
use Rattle.coll_texts.specs.declared.load_faults.LoadCause.TheVariants.{Lex, Syntax, NoCategory, NoEnd}

-- what lines decide: a table or a fault; or nothing yet, and the cause of the fault if the text ends with them
pub data Outcome : Type 0 where
  Decided : Result Collation LoadFault → Outcome
  Undecided : LoadCause → Outcome

-- a fault of a line
abbrev pub at_fault : ℕ → LoadCause → Outcome
at_fault number cause = Decided (Err (at_line number cause))

-- what an accepted line decides: the table, if it ends the category, with its weights by own names, and else what the later
-- lines do
abbrev pub accepted : List Numbered → Numbered → Outcome → Outcome
accepted before line later = if is_end line.line then Decided (Ok (table_of (with_own_weights (state_of before)))) else later

-- what a line decides that the grammar accepts, by its fault
abbrev pub line_judged : List Numbered → Numbered → Option LoadFault → Outcome → Outcome
line_judged before line (Some fault) later = Decided (Err fault)
line_judged before line None later = accepted before line later

-- what a line with these tokens decides, by what the grammar says
abbrev pub by_grammar : ℕ → List Numbered → Result TableLine SyntaxFault → (Numbered → Outcome) → Outcome
by_grammar number before (Err fault) later = at_fault number (Syntax fault)
by_grammar number before (Ok read) later =
    line_judged before (record { number = number; line = read }) (line_fault (state_of before) (record { number = number; line = read }))
    (later (record { number = number; line = read }))

-- what a logical line decides, by its tokens
abbrev pub by_tokens : ℕ → List Numbered → Result (List Token) LexFault → (Numbered → Outcome) → Outcome
by_tokens number before (Err fault) later = at_fault number (Lex fault)
by_tokens number before (Ok tokens) later = by_grammar number before (table_line tokens) later

-- what logical lines of the category decide, from the lines accepted before them: the first line at fault decides
unfoldable pub outcome_within : List Numbered → List LogicalLine → Outcome
outcome_within before [] = Undecided NoEnd
outcome_within before (line ∷ lines) = by_tokens line.number before line.tokens (λ read. outcome_within (before ++ read ∷ []) lines)

-- what a physical line decides that stands before the category, by whether the category begins with it
abbrev pub by_begin : ℕ → Result (Bool × LexerState) LexFault → (within outside : LexerState → Outcome) → Outcome
by_begin number (Ok (true, after)) within outside = within after
by_begin number (Ok (false, after)) within outside = outside after
by_begin number (Err fault) within outside = at_fault number (Lex fault)

-- what physical lines decide: those before the category are looked at alone, those of the category as logical lines;
-- the test says whether the text ends with them
unfoldable pub outcome_before : (ends : Bool) → LexerState → List (List ℕ) → Outcome
outcome_before ends s [] = Undecided NoCategory
outcome_before ends s (line ∷ lines) =
    by_begin (number_of s) (outside s line)
    (λ after. outcome_within [] (logical_lines [] ends after lines))
    (λ after. outcome_before ends after lines)

-- what the physical lines of a text decide, from its first on
abbrev pub outcome_of : (ends : Bool) → List (List ℕ) → Outcome
outcome_of ends lines = outcome_before ends first_state lines

-- the answer to a text of so many lines: where they decide nothing, the text ends too early
abbrev pub answer_at_end : ℕ → Outcome → Result Collation LoadFault
answer_at_end count (Decided answer) = answer
answer_at_end count (Undecided cause) = Err (at_line count cause)

-- the table that a text is, or the first fault in it; nothing after the end of the category is looked at
unfoldable pub reads : List ℕ → Result Collation LoadFault
reads text = answer_at_end (length (lines_of text)) (outcome_of true (lines_of text))

-- whatever text is a table, that table is well formed
abbrev pub TextsAreWellFormed : Type 0
TextsAreWellFormed = (text : List ℕ) (table : Collation) → reads text ≡ Ok table → IsWellFormed table
