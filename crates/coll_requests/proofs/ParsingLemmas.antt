-- What is parsed of a line, by its characters and by the lexer's answer.
use Rattle.std.proofs.Common.{◌≡◌, ℕ, Bool, true, false, List, Some, None, Option, Ok, Err, refl, sym, ap, ◌∙◌}
use Rattle.std.specs.Bool.{IsTrue}
use Rattle.std.proofs.lemmas.Bool.{false≢true}
use Rattle.std.proofs.Common.{◌≢◌, inl, inr, ⊎_elim}
use Rattle.std.specs.Prelude.{◌⊎◌, IfOk, OnErr, Result, if◌then◌else◌, option_map, is_some}
use Rattle.coll_devices.specs.PhysicalLines.{without_return}
use Rattle.coll_lex.specs.LogicalLines.{OpenLine, LexerState, pending, number_of, extended, first_line, dropped, fed, outside, takes_memory, served, state_by}
use Rattle.coll_lex.specs.declared.tokens.Line.{Line}
use Rattle.coll_lex.specs.declared.faults.LexFault.{LexFault}
use Rattle.coll_lex.specs.declared.faults.LexFault.TheVariants as lex
use Rattle.coll_lex.proofs.LineSteps.{first_line-fresh, first_line-continued, fed-open}
use Rattle.coll_lex.proofs.LineEnds.{fed-number, fed-takes, fed-whole}
use Rattle.coll_lex.proofs.OutsideLines.{outside-closed}
use Rattle.coll_requests.specs.SessionLines.{opening_of, tokens_parsed, fault_parsed}
use Rattle.coll_requests.specs.Parsing.{OpensAs, parsed_by, parsed_in, Parses, no_memory, ParsesTokens}
use Rattle.coll_requests.specs.declared.session_lines.Opening.{Opening}
use Rattle.coll_requests.specs.declared.session_lines.Parsed.{Parsed}
use Rattle.coll_requests.specs.declared.session_lines.ParsedLine.{ParsedLine}

-- what is kept of the open logical line's first physical line
pub opens_as_none : (s : LexerState) (opening : Opening) → s.line ≡ None → OpensAs s opening
unfolding OpensAs
opens_as_none s opening none some = absurd (false≢true (sym (ap is_some none) ∙ some))

pub opens_as_next : (s after : LexerState) (line : List ℕ) (answer : Option Line) (opening : Opening) → fed s line ≡ Ok (answer, after) → opening ≡ opening_of (first_line s line)
    → OpensAs after opening
unfolding OpensAs
opens_as_next s after line answer opening e is some =
    ⊎_elim (λ (none : after.line ≡ None). absurd (false≢true (sym (ap is_some none) ∙ some)))
    (λ (kept : after.line ≡ Some (extended s line)) (next : List ℕ). ap opening_of (first_line-continued s after line next kept) ∙ sym is)
    (fed-open s line answer after e)

is_open : (o : Option OpenLine) (number : ℕ) → option_map (λ (o : OpenLine). o.number) o ≡ Some number → is_some o ≡ true
is_open None number e = absurd (cc)
is_open (Some o) number e = refl

-- the opening that is kept is that of the next line's logical line
pub opening_kept : (s : LexerState) (opening : Opening) (line : List ℕ) (number : ℕ) → pending s ≡ Some number → OpensAs s opening → opening ≡ opening_of (first_line s line)
unfolding OpensAs
opening_kept s opening line number open_line kept = sym (kept (is_open s.line number open_line) line)

none_pending : (o : Option OpenLine) → None ≡ option_map (λ (o : OpenLine). o.number) o → o ≡ None
none_pending None e = refl
none_pending (Some o) e = absurd (cc)

pub opening_fresh : (s : LexerState) (line text : List ℕ) (opening : Opening) → None ≡ pending s → text ≡ without_return line → opening ≡ opening_of text → opening ≡ opening_of (first_line s line)
opening_fresh s line text opening none cut is = is ∙ ap opening_of (cut ∙ sym (first_line-fresh s line (none_pending s.line none)))

-- lack of memory, or another fault
lack_or_not : (f : LexFault) → (f ≡ lex.OutOfMemory) ⊎ (f ≢ lex.OutOfMemory)
lack_or_not lex.NotUtf8 = inr (λ e. cc)
lack_or_not lex.OpenSymbol = inr (λ e. cc)
lack_or_not lex.EmptySymbol = inr (λ e. cc)
lack_or_not lex.BadName = inr (λ e. cc)
lack_or_not lex.BadCodePoint = inr (λ e. cc)
lack_or_not lex.OpenString = inr (λ e. cc)
lack_or_not lex.CharacterConstant = inr (λ e. cc)
lack_or_not lex.DanglingEscape = inr (λ e. cc)
lack_or_not lex.LineTooLong = inr (λ e. cc)
lack_or_not lex.BadCharDirective = inr (λ e. cc)
lack_or_not lex.TooManyLines = inr (λ e. cc)
lack_or_not lex.OutOfMemory = inl refl

-- the answer to a line for which memory was refused
pub served_starved : (s : LexerState) (line : List ℕ) → takes_memory s line ≡ true → served true s line ≡ Err lex.OutOfMemory
unfolding served
served_starved s line takes = ap (λ (b : Bool). if b then Err lex.OutOfMemory else fed s line) takes

-- a line of a session, by its number
abbrev pub numbered : ℕ → Parsed → ParsedLine
numbered n h = record { number = n; parsed = h }

pub parsed_starved : (commands : Bool) (s after : LexerState) (line : List ℕ) (opening : Opening) (parsed : ParsedLine) → opening ≡ opening_of (first_line s line) → after ≡ dropped s
    → parsed ≡ numbered (number_of s) (no_memory opening) → takes_memory s line ≡ true → Parses commands true s after line (Some parsed)
unfolding parsed_in
parsed_starved commands s after line opening parsed is stands was takes =
    let e = served_starved s line takes in
    record {
      parsed_is = ap Some was ∙ ap (λ (o : Opening). Some (numbered (number_of s) (no_memory o))) is ∙ ap (parsed_by commands (number_of s) (opening_of (first_line s line))) (sym e);
      stands = stands ∙ ap (state_by s) (sym e);
    }

parsed_fault : (commands : Bool) (s after : LexerState) (line : List ℕ) (opening : Opening) (f : LexFault) (parsed : ParsedLine) → opening ≡ opening_of (first_line s line) → after ≡ dropped s
    → fed s line ≡ Err f → parsed ≡ numbered (number_of s) (fault_parsed opening f) → Parses commands false s after line (Some parsed)
unfolding served parsed_in
parsed_fault commands s after line opening f parsed is stands e was = record {
  parsed_is = ap Some was ∙ ap (λ (o : Opening). Some (numbered (number_of s) (fault_parsed o f))) is ∙ ap (parsed_by commands (number_of s) (opening_of (first_line s line))) (sym e);
  stands = stands ∙ ap (state_by s) (sym e);
}

-- a line at fault
pub parses_fault : (commands : Bool) (s after : LexerState) (line : List ℕ) (opening : Opening) (f : LexFault) (parsed : ParsedLine) (number : ℕ) → opening ≡ opening_of (first_line s line)
    → number ≡ number_of s → after ≡ dropped s
    → (f ≢ lex.OutOfMemory → fed s line ≡ Err f) → (f ≡ lex.OutOfMemory → IsTrue (takes_memory s line)) → parsed ≡ numbered number (fault_parsed opening f) → (starved : Bool)
    × Parses commands starved s after line (Some parsed)
parses_fault commands s after line opening f parsed number is number_is stands e memory was =
    let at : parsed ≡ numbered (number_of s) (fault_parsed opening f) = was ∙ ap (λ (n : ℕ). numbered n (fault_parsed opening f)) number_is in
    ⊎_elim
    (λ (lack : f ≡ lex.OutOfMemory).
    (true, parsed_starved commands s after line opening parsed is stands (at ∙ ap (λ (g : LexFault). numbered (number_of s) (fault_parsed opening g)) lack) (memory lack)))
    (λ (not_lack : f ≢ lex.OutOfMemory). (false, parsed_fault commands s after line opening f parsed is stands (e not_lack) at))
    (lack_or_not f)

-- a line that ends no logical line with a token
pub parses_none : (commands : Bool) (s after : LexerState) (line : List ℕ) → fed s line ≡ Ok (None, after) → (starved : Bool) × Parses commands starved s after line None
unfolding served parsed_in
parses_none commands s after line e =
    (false, record { parsed_is = ap (parsed_by commands (number_of s) (opening_of (first_line s line))) (sym e); stands = ap (state_by s) (sym e) })

parsed_whole : (commands : Bool) (s after : LexerState) (line : List ℕ) (opening : Opening) (given : Line) (parsed : ParsedLine) → opening ≡ opening_of (first_line s line)
    → fed s line ≡ Ok (Some given, after) → parsed ≡ numbered (number_of s) (tokens_parsed commands opening given.tokens) → Parses commands false s after line (Some parsed)
unfolding served parsed_in
parsed_whole commands s after line opening given parsed is e was = record {
  parsed_is = ap Some was ∙ ap (λ (n : ℕ). Some (numbered n (tokens_parsed commands opening given.tokens))) (sym (fed-number s line given after e))
      ∙ ap (λ (o : Opening). Some (numbered given.number (tokens_parsed commands o given.tokens))) is ∙ ap (parsed_by commands (number_of s) (opening_of (first_line s line))) (sym e);
  stands = ap (state_by s) (sym e);
}

-- a line that ends a logical line, where memory may be refused for what it says
pub parses_whole : (commands : Bool) (s after : LexerState) (line : List ℕ) (opening : Opening) (given : Line) (h : Parsed) (number : ℕ) → opening ≡ opening_of (first_line s line)
    → number ≡ number_of s → fed s line ≡ Ok (Some given, after)
    → ParsesTokens commands opening given.tokens h → (memory : Bool) × Parses commands memory s after line (Some (numbered number h))
parses_whole commands s after line opening given h number is number_is e was = by_choice was.0 was.1
  where
    at : numbered number h ≡ numbered (number_of s) h
    at = ap (λ (n : ℕ). numbered n h) number_is

    by_choice : (starved : Bool) → h ≡ (if starved then no_memory opening else tokens_parsed commands opening given.tokens) → (memory : Bool)
        × Parses commands memory s after line (Some (numbered number h))
    by_choice true was =
        (true, parsed_starved commands s after line opening (numbered number h) is (fed-whole s line given after e) (at ∙ ap (numbered (number_of s)) was) (fed-takes s line given after e))
    by_choice false was = (false, parsed_whole commands s after line opening given (numbered number h) is e (at ∙ ap (numbered (number_of s)) was))

-- a line before the category leaves no logical line open
pub outside_drops : (s after : LexerState) (line : List ℕ) (r : Result Bool LexFault) → IfOk r (λ begins. outside s line ≡ Ok (begins, after)) → OnErr r (after ≡ dropped s) → after.line ≡ None
outside_drops s after line (Ok begins) ok err = outside-closed s after line begins ok
outside_drops s after line (Err fault) ok err = ap (λ (t : LexerState). t.line) err
