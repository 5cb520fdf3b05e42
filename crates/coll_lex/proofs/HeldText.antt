-- The open line of a lexer is text, at the beginning of a text and after each line.
use Rattle.std.proofs.Common.{◌≡◌, ℕ, Bool, true, false, List, [], ◌∷◌, chars, IsUtf8, All, Option, Some, None, Result, Ok, Err, refl, sym, subst}
use Rattle.std.proofs.lemmas.Bool.{cond_both}
use Rattle.std.proofs.lemmas.List.Elements.{All-nil, All-cons, All-append}
use Rattle.std.proofs.lemmas.Str.{IsUtf8-from_is_utf8}
use Rattle.std.specs.Str.{is_utf8}
use Rattle.coll_devices.specs.PhysicalLines.{without_return}
use Rattle.coll_lex.specs.Marked.{is_joined}
use Rattle.coll_lex.specs.Tokens.{Stop, AtFault, AtComment, AtEnd, InSymbol, InString}
use Rattle.coll_lex.specs.Directives.{directive}
use Rattle.coll_lex.specs.LogicalLines.{OpenLine, LexerState, first_state, lines_before, extended, dropped, whole, answer_at, reading_in}
use Rattle.coll_lex.specs.LogicalLines.{directive_where, fed_as, line_fault, fed_text, unless_fault, fed, outside, state_by}
use Rattle.coll_lex.specs.Lexer.{lines_in, line_in}
use Rattle.coll_lex.specs.Names.{HoldsText, LexersHoldText}
use Rattle.coll_lex.specs.declared.tokens.Chars.{Chars}
use Rattle.coll_lex.specs.declared.tokens.Line.{Line}
use Rattle.coll_lex.specs.declared.tokens.Token.{Token}
use Rattle.coll_lex.specs.declared.logical_lines.Open.{Open}
use Rattle.coll_lex.specs.declared.faults.LexFault.{LexFault}
use Rattle.coll_lex.specs.declared.faults.LexFault.TheVariants.{NotUtf8}
use Rattle.coll_lex.proofs.OutsideLines.{outside-closed}

-- one more line of text
extended_text : (s : LexerState) (line : List ℕ) → HoldsText s → IsUtf8 (without_return line) → All IsUtf8 (extended s line).lines
extended_text s line h text = All-append IsUtf8 (lines_before s) (without_return line ∷ []) h (All-cons IsUtf8 (without_return line) [] text (All-nil IsUtf8))

-- where no line is open
nothing_open : (s : LexerState) → s.line ≡ None → HoldsText s
nothing_open s e = rw e (All-nil IsUtf8)

pub none_text : (s : LexerState) → None ≡ s.line → HoldsText s
none_text s e = nothing_open s (sym e)

-- where this line is open
pub open_text : (s : LexerState) (o : Open) → Some (line_in o) ≡ s.line → All IsUtf8 (lines_in o.lines.items) → HoldsText s
open_text s o e h = rw (← e) h

-- where the lexer stands after an answer
abbrev LeavesText : {A : Type 0} → Result (A × LexerState) LexFault → Type 0
LeavesText (Ok answer) = HoldsText answer.1
LeavesText (Err fault) = Unit {0}

-- what is true of each fault is true of an answer, where it is true of what is answered without one
unless_by : {A : Type 0} (P : Result A LexFault → Type 0) (fault : Option LexFault) (answer : Result A LexFault) → ((fault : LexFault) → P (Err fault)) → P answer → P (unless_fault fault answer)
unless_by P None answer refused h = h
unless_by P (Some fault) answer refused h = refused fault

-- the same of the answer to a line of the category, by the physical lines of its logical line
pub fed_by : (P : Result (Option Line × LexerState) LexFault → Type 0) (s : LexerState) (line : List ℕ) → HoldsText s → ((fault : LexFault) → P (Err fault))
    → ((d : Option (Result Chars LexFault)) → All IsUtf8 (extended s line).lines → P (fed_as (dropped s) (extended s line) (without_return line) d)) → P (fed s line)
unfolding fed
fed_by P s line h refused answered =
    let text = without_return line in
    let d = directive_where s.line (directive s.special text) in
    unless_by P (line_fault s.count (extended s line).bytes) (fed_text (dropped s) (extended s line) text d) refused
    (cond_both (is_utf8 text) (fed_as (dropped s) (extended s line) text d) (Err NotUtf8) P (λ e. answered d (extended_text s line h (IsUtf8-from_is_utf8 text e))) (λ _. refused NotUtf8))

-- a line of the category

whole_leaves : (next : LexerState) (number : ℕ) (tokens : List Token) → next.line ≡ None → LeavesText (whole next number tokens)
whole_leaves next number tokens e = nothing_open next e

answer_at_leaves : (next : LexerState) (o : OpenLine) (joined : Bool) (tokens : List Token) (stop : Stop) → next.line ≡ None → All IsUtf8 o.lines → LeavesText (answer_at next o joined tokens stop)
answer_at_leaves next o joined tokens (AtFault fault) e h = tt
answer_at_leaves next o joined tokens AtComment e h = whole_leaves next o.number tokens e
answer_at_leaves next o true tokens AtEnd e h = h
answer_at_leaves next o false tokens AtEnd e h = whole_leaves next o.number tokens e
answer_at_leaves next o true tokens InSymbol e h = h
answer_at_leaves next o false tokens InSymbol e h = tt
answer_at_leaves next o true tokens InString e h = h
answer_at_leaves next o false tokens InString e h = tt

fed_as_leaves : (next : LexerState) (o : OpenLine) (line : List ℕ) (d : Option (Result Chars LexFault)) → next.line ≡ None → All IsUtf8 o.lines → LeavesText (fed_as next o line d)
fed_as_leaves next o line (Some (Ok special)) e h = nothing_open next e
fed_as_leaves next o line (Some (Err fault)) e h = tt
fed_as_leaves next o line None e h =
    let r = reading_in next.special o.lines in
    answer_at_leaves next o (is_joined next.special.escape (chars line)) r.tokens r.stop e h

fed_leaves : (s : LexerState) (line : List ℕ) → HoldsText s → LeavesText (fed s line)
fed_leaves s line h = fed_by LeavesText s line h (λ fault. tt) (λ d lines. fed_as_leaves (dropped s) (extended s line) (without_return line) d refl lines)

-- the law

pub first-text : HoldsText first_state
first-text = All-nil IsUtf8

pub dropped-text : (s : LexerState) → HoldsText (dropped s)
dropped-text s = All-nil IsUtf8

pub fed-text : (s after : LexerState) (line : List ℕ) (answer : Option Line) → HoldsText s → fed s line ≡ Ok (answer, after) → HoldsText after
fed-text s after line answer h e = subst LeavesText e (fed_leaves s line h)

pub outside-text : (s after : LexerState) (line : List ℕ) (begins : Bool) → outside s line ≡ Ok (begins, after) → HoldsText after
outside-text s after line begins e = nothing_open after (outside-closed s after line begins e)

pub lexers_text : LexersHoldText
lexers_text = record { at_first = first-text; after_line = fed-text; after_outside = outside-text; after_fault = dropped-text }

-- where the lexer stands after an answer that may be a fault
pub state_by-text : (s : LexerState) (line : List ℕ) (r : Result (Option Line × LexerState) LexFault) → HoldsText s → fed s line ≡ r → HoldsText (state_by s r)
state_by-text s line (Ok (answer, after)) h e = fed-text s after line answer h e
state_by-text s line (Err fault) h e = dropped-text s
