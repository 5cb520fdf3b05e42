-- The lines of a text as a survey is handed them, one after another, also behind those that are refused (the project's own).
use Rattle.std.specs.Prelude.{◌≡◌, ℕ, Bool, codes, true, false, if◌then◌else◌, nat_eq, List, [], ◌∷◌, Option, Some, None, Result, Ok, Err}
use Rattle.std.specs.List.{starts_with}
use Rattle.coll_devices.specs.PhysicalLines.{without_return}
use Rattle.coll_lex.specs.Blanks.{past_blanks}
use Rattle.coll_lex.specs.EarlyEnds.{early_end}
use Rattle.coll_lex.specs.LogicalLines.{LexerState, dropped, fed, first_state, number_of, outside, pending}
use Rattle.coll_lex.specs.declared.early_ends.EarlyEnd.{EarlyEnd}
use Rattle.coll_lex.specs.declared.faults.LexFault.{LexFault}
use Rattle.coll_lex.specs.declared.tokens.Line.{Line}
use Rattle.coll_lex.specs.declared.tokens.Token.{Token}
use Rattle.coll_findings.specs.declared.line_surveys.Lines.{Lines}
use Rattle.coll_findings.specs.declared.line_surveys.Opening.{Opening}
use Rattle.coll_findings.specs.declared.line_surveys.Opening.TheVariants as opening

-- what is handed on of a text: a line of its category, with its number, what it begins with and its tokens, or one that the lexer refuses
pub data Handed : Type 0 where
  Given : (number : ℕ) → Opening → List Token → Handed
  Refused : (number : ℕ) → Opening → LexFault → Handed

-- where the lines of a text stand: the lexer, whether the category has begun, and what the logical line that is open begins with
pub record LinesState : Type 0 where
  pub lexer : LexerState
  pub begun : Bool
  pub opening : Opening

-- before the first line
abbrev pub first_lines : LinesState
first_lines = record { lexer = first_state; begun = false; opening = opening.Other }

-- where lines stand of which none is passed over
abbrev pub lines_state : Lines → LinesState
lines_state lines = record { lexer = lines.lexer; begun = lines.begun; opening = lines.opening }

-- What a physical line begins with.

abbrev pub opening_of : (line : List ℕ) → Opening
opening_of line =
    if starts_with nat_eq (past_blanks line) (codes "reorder-after") then opening.Block
    else (if starts_with nat_eq (past_blanks line) (codes "reorder-end") then opening.BlockEnd else opening.Other)

-- what the logical line of this number begins with, if one is open, or else that of the next physical line
abbrev pub opening_where : Option ℕ → Opening → (line : List ℕ) → Opening
opening_where None earlier line = opening_of (without_return line)
opening_where (Some number) earlier line = earlier

abbrev pub opening_at : LinesState → (line : List ℕ) → Opening
opening_at at line = opening_where (pending at.lexer) at.opening line

-- What a physical line leaves, and what is handed on of it.

pub record HandedOn : Type 0 where
  pub after : LinesState
  pub handed : Option Handed

-- a line before the category, by what the lexer says of it
abbrev pub by_outside : LinesState → Result (Bool × LexerState) LexFault → HandedOn
by_outside at (Ok (begins, after)) = record { after = record at { lexer = after; begun = begins }; handed = None }
by_outside at (Err f) =
    record { after = record at { lexer = dropped at.lexer }; handed = Some (Refused (number_of at.lexer) opening.Other f) }

-- a line of the category, which belongs to a logical line that begins so
abbrev pub by_fed : LinesState → Opening → Result (Option Line × LexerState) LexFault → HandedOn
by_fed at begins (Ok (None, after)) = record { after = record at { lexer = after; opening = begins }; handed = None }
by_fed at begins (Ok (Some whole, after)) =
    record { after = record at { lexer = after }; handed = Some (Given whole.number begins whole.tokens) }
by_fed at begins (Err f) =
    record { after = record at { lexer = dropped at.lexer }; handed = Some (Refused (number_of at.lexer) begins f) }

abbrev pub handed_at : LinesState → (line : List ℕ) → HandedOn
handed_at at line =
    if at.begun then by_fed at (opening_at at line) (fed at.lexer line) else by_outside at (outside at.lexer line)

-- What is handed on of all lines, up to the first that ends the category.

-- a line that ends the category, as the grammar reads its tokens
abbrev pub is_last : (ends : List Token → Bool) → Handed → Bool
is_last ends (Given number begins tokens) = ends tokens
is_last ends (Refused number begins f) = false

-- behind what was handed on of a line, if anything was
abbrev pub handed_then : (ends : List Token → Bool) → Option Handed → (later : List Handed) → List Handed
handed_then ends None later = later
handed_then ends (Some handed) later = handed ∷ (if is_last ends handed then [] else later)

unfoldable pub handed_on : (ends : List Token → Bool) → LinesState → List (List ℕ) → List Handed
handed_on ends at [] = []
handed_on ends at (line ∷ lines) = handed_then ends (handed_at at line).handed (handed_on ends (handed_at at line).after lines)

-- how the text ends, unless a line ended the category
abbrev pub end_then : (ends : List Token → Bool) → Option Handed → (later : Option EarlyEnd) → Option EarlyEnd
end_then ends None later = later
end_then ends (Some handed) later = if is_last ends handed then None else later

unfoldable pub ended_early : (ends : List Token → Bool) → LinesState → List (List ℕ) → Option EarlyEnd
ended_early ends at [] = Some (early_end at.begun at.lexer)
ended_early ends at (line ∷ lines) = end_then ends (handed_at at line).handed (ended_early ends (handed_at at line).after lines)

-- What takes them.

-- one after another they lead from one value to another, each as this says
unfoldable pub Takes : {S : Type 0} → (takes : S → Handed → S → Type 0) → List Handed → (old new : S) → Type 0
Takes takes [] old new = new ≡ old
Takes {S} takes (handed ∷ later) old new = (mid : S) × takes old handed mid × Takes takes later mid new

-- what is handed on of one physical line, if anything is, leads to this value, and ends the category or doesn't
abbrev pub TakesOne : {S : Type 0} → (takes : S → Handed → S → Type 0) → (ends : List Token → Bool) → Option Handed → (old new : S)
    → (ended : Bool) → Type 0
TakesOne takes ends None old new ended = (new ≡ old) × (ended ≡ false)
TakesOne takes ends (Some handed) old new ended = takes old handed new × (ended ≡ is_last ends handed)

-- the same of a physical line where these lines stand, which then stand where it leaves them; none is passed over, before or from here on
abbrev pub HandsOn : {S : Type 0} → (takes : S → Handed → S → Type 0) → (ends : List Token → Bool) → (at : Lines) → (line : List ℕ)
    → (after : Lines) → (old new : S) → (ended : Bool) → Type 0
HandsOn takes ends at line after old new ended =
    TakesOne takes ends (handed_at (lines_state at) line).handed old new ended
    × (lines_state after ≡ (handed_at (lines_state at) line).after) × (after.passes ≡ at.passes) × (after.passed ≡ at.passed)

-- all lines from here on lead to this value, and end so
pub record HandsOnAll {S : Type 0} (takes : S → Handed → S → Type 0) (ends : List Token → Bool) (at : LinesState)
    (lines : List (List ℕ)) (old new : S) (end : Option EarlyEnd) : Type 0 where
  pub taken : Takes takes (handed_on ends at lines) old new
  pub ended : end ≡ ended_early ends at lines
