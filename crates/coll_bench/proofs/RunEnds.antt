-- How a run ends: what its last line is, and what the end of its text writes.
use Rattle.std.proofs.Common.{◌≡◌, ℕ, Bool, true, false, List, [], ◌∷◌, ◌++◌, map, Option, Some, None, Result, Ok, Err, refl, sym, ap, ◌∙◌}
use Rattle.std.specs.Prelude.{◌==◌, if◌then◌else◌, option_map}
use Rattle.std.proofs.lemmas.Bool.{false≢true}
use Rattle.coll_lex.specs.Faults.{lex_fault_number}
use Rattle.coll_lex.specs.LogicalLines.{OpenLine, LexerState, LogicalLine, pending, number_of, first_line, fed, takes_memory, served, state_by, lines_by, line_left_open, logical_lines}
use Rattle.coll_lex.specs.declared.tokens.Line.{Line}
use Rattle.coll_lex.specs.declared.faults.LexFault.{LexFault}
use Rattle.coll_lex.specs.declared.faults.LexFault.TheVariants as lex
use Rattle.coll_lex.proofs.LineFaults.{fed-not_dangling}
use Rattle.coll_history.specs.Histories.{History}
use Rattle.coll_faults.specs.Faults.{fault_of}
use Rattle.coll_lex.specs.Faults.{ends_text}
use Rattle.coll_requests.specs.SessionLines.{opening_of, fault_parsed, parsed}
use Rattle.coll_requests.specs.Parsing.{parsed_by, parsed_in, parsed_at}
use Rattle.coll_requests.specs.Requests.{stop_of, refusals}
use Rattle.coll_requests.specs.OpenBlocks.{kept_end_faults, kept_requests}
use Rattle.coll_bench.specs.Replies.{refused_line, refused_lines, reply, history_after, answers}
use Rattle.coll_requests.specs.Taking.{stop_at}
use Rattle.coll_bench.specs.Runs.{last_line}
use Rattle.coll_bench.specs.Underway.{written_from}
use Rattle.coll_requests.specs.declared.open_blocks.OpenBlock.{OpenBlock}
use Rattle.coll_requests.specs.declared.session_lines.Opening.{Opening}
use Rattle.coll_requests.specs.declared.requests.FaultAt.{FaultAt}
use Rattle.coll_requests.proofs.LineStops.{tokens_go_on}

-- a fault after which the session goes on is none of a last line
not_last : (o : Opening) (f : LexFault) → stop_of (fault_parsed o f) ≡ None → ends_text f ≡ false
not_last o lex.LineTooLong goes = cc
not_last o lex.TooManyLines goes = cc
not_last o lex.DanglingEscape goes = refl
not_last o lex.NotUtf8 goes = refl
not_last o lex.OpenSymbol goes = refl
not_last o lex.EmptySymbol goes = refl
not_last o lex.BadName goes = refl
not_last o lex.BadCodePoint goes = refl
not_last o lex.OpenString goes = refl
not_last o lex.CharacterConstant goes = refl
not_last o lex.BadCharDirective goes = refl
not_last o lex.OutOfMemory goes = refl

last_by : (s : LexerState) (line : List ℕ) (a : Result (Option Line × LexerState) LexFault) (later : List LogicalLine) → stop_at (parsed_by true (number_of s) (opening_of (first_line s line)) a)
    ≡ None → last_line (lines_by s line a ++ later) ≡ last_line later
unfolding last_line
last_by s line (Ok (None, after)) later goes = refl
last_by s line (Ok (Some given, after)) later goes = refl
last_by s line (Err f) later goes = ap (λ (b : Bool). if b then Some (number_of s, f) else last_line later) (not_last (opening_of (first_line s line)) f goes)

-- where the session goes on, the last line comes later
pub last_on : (memory : Bool) (s : LexerState) (line : List ℕ) (c : List Bool) (ends : Bool) (later : List (List ℕ)) → stop_at (parsed_at memory s line) ≡ None
    → last_line (logical_lines (memory ∷ c) ends s (line ∷ later)) ≡ last_line (logical_lines c ends (state_by s (served memory s line)) later)
unfolding logical_lines parsed_in
last_on memory s line c ends later goes = last_by s line (served memory s line) (logical_lines c ends (state_by s (served memory s line)) later) goes

-- a fault at which the session ends, which isn't that of a text's end, is that of a last line
record LastFault (f g : LexFault) : Type 0 where
  same : f ≡ g
  last : ends_text f ≡ true

is_last_fault : (o : Opening) (f g : LexFault) → (lex_fault_number f == 9) ≡ false → stop_of (fault_parsed o f) ≡ Some g → LastFault f g
is_last_fault o lex.LineTooLong g other stops = record { same = cc; last = refl }
is_last_fault o lex.TooManyLines g other stops = record { same = cc; last = refl }
is_last_fault o lex.DanglingEscape g other stops = absurd (false≢true (sym other))
is_last_fault o lex.NotUtf8 g other stops = absurd (cc)
is_last_fault o lex.OpenSymbol g other stops = absurd (cc)
is_last_fault o lex.EmptySymbol g other stops = absurd (cc)
is_last_fault o lex.BadName g other stops = absurd (cc)
is_last_fault o lex.BadCodePoint g other stops = absurd (cc)
is_last_fault o lex.OpenString g other stops = absurd (cc)
is_last_fault o lex.CharacterConstant g other stops = absurd (cc)
is_last_fault o lex.BadCharDirective g other stops = absurd (cc)
is_last_fault o lex.OutOfMemory g other stops = absurd (cc)

-- the line at which the session ends is the last, with its number and its fault
pub record IsLastLine (s : LexerState) (lines : List LogicalLine) (f : LexFault) : Type 0 where
  pub line_is : last_line lines ≡ Some (number_of s, f)
  pub last : ends_text f ≡ true

stop_by : (s : LexerState) (line : List ℕ) (a : Result (Option Line × LexerState) LexFault) (later : List LogicalLine) (f : LexFault) → ((g : LexFault) → a ≡ Err g → (lex_fault_number g == 9) ≡ false)
    → stop_at (parsed_by true (number_of s) (opening_of (first_line s line)) a) ≡ Some f → IsLastLine s (lines_by s line a ++ later) f
unfolding last_line
stop_by s line (Ok (None, after)) later f other stops = absurd (cc)
stop_by s line (Ok (Some given, after)) later f other stops = let none = tokens_go_on true (opening_of (first_line s line)) given.tokens in absurd (cc)
stop_by s line (Err g) later f other stops =
    let l = is_last_fault (opening_of (first_line s line)) g f (other g refl) stops in
    record {
      line_is = ap (λ (b : Bool). if b then Some (number_of s, g) else last_line later) l.last ∙ ap (λ (k : LexFault). Some (number_of s, k)) l.same;
      last = ap ends_text (sym l.same) ∙ l.last;
    }

never_dangles : (memory : Bool) (s : LexerState) (line : List ℕ) (g : LexFault) → served memory s line ≡ Err g → (lex_fault_number g == 9) ≡ false
unfolding served
never_dangles true s line g e = starved_or (takes_memory s line) e
  where
    starved_or : (b : Bool) → (if b then Err lex.OutOfMemory else fed s line) ≡ Err g → (lex_fault_number g == 9) ≡ false
    starved_or true is = let same : g ≡ lex.OutOfMemory = cc in ap (λ (k : LexFault). lex_fault_number k == 9) same
    starved_or false is = fed-not_dangling s line g is
never_dangles false s line g e = fed-not_dangling s line g e

pub last_stop : (memory : Bool) (s : LexerState) (line : List ℕ) (c : List Bool) (ends : Bool) (later : List (List ℕ)) (f : LexFault) → stop_at (parsed_at memory s line) ≡ Some f
    → IsLastLine s (logical_lines (memory ∷ c) ends s (line ∷ later)) f
unfolding logical_lines parsed_in
last_stop memory s line c ends later f stops =
    stop_by s line (served memory s line) (logical_lines c ends (state_by s (served memory s line)) later) f (λ g. never_dangles memory s line g) stops

answers-refused : (h : History) (faults : List FaultAt) → answers h (refusals faults) [] ≡ refused_lines faults
unfolding answers reply history_after refused_lines
answers-refused h [] = refl
answers-refused h (at ∷ faults) = ap (λ (bytes : List ℕ). refused_line (fault_of at.fault) ++ bytes) (answers-refused h faults)

end_by : (block : Option OpenBlock) (h : History) (o : Option OpenLine) → answers h (kept_requests true block (map parsed (line_left_open o))) []
    ≡ refused_lines (kept_end_faults block (option_map (λ (o : OpenLine). o.number) o))
unfolding kept_requests
end_by block h None = answers-refused h (kept_end_faults block None)
end_by block h (Some o) = answers-refused h (kept_end_faults block (Some o.number))

-- what the end of a text writes
pub written_end : (s : LexerState) (block : Option OpenBlock) (h : History) → written_from s block h [] [] true [] ≡ refused_lines (kept_end_faults block (pending s))
unfolding written_from logical_lines
written_end s block h = end_by block h s.line

-- where the end isn't seen, nothing more is written
pub written_cut : (s : LexerState) (block : Option OpenBlock) (h : History) → written_from s block h [] [] false [] ≡ []
unfolding written_from logical_lines kept_requests answers
written_cut s block h = refl

last_end_by : (o : Option OpenLine) → last_line (line_left_open o) ≡ None
unfolding last_line
last_end_by None = refl
last_end_by (Some o) = refl

pub last_end : (s : LexerState) → last_line (logical_lines [] true s []) ≡ None
unfolding logical_lines
last_end s = last_end_by s.line

pub last_cut : (s : LexerState) → last_line (logical_lines [] false s []) ≡ None
unfolding logical_lines last_line
last_cut s = refl
