-- One physical line of a session is parsed and then taken: memory was refused to it once, if at all.
use Rattle.std.proofs.Common.{◌≡◌, ℕ, Bool, true, false, List, Option, Some, None, Result, Ok, Err, refl, sym, ap, ◌∙◌, subst}
use Rattle.std.specs.Prelude.{if◌then◌else◌}
use Rattle.coll_lex.specs.LogicalLines.{LexerState, number_of, first_line, fed, takes_memory, served, state_by}
use Rattle.coll_lex.specs.declared.tokens.Line.{Line}
use Rattle.coll_lex.specs.declared.faults.LexFault.{LexFault}
use Rattle.coll_lex.specs.declared.faults.LexFault.TheVariants as lex
use Rattle.coll_lex.proofs.LineEnds.{fed-number, fed-takes, fed-whole}
use Rattle.coll_requests.specs.SessionLines.{opening_of, fault_parsed}
use Rattle.coll_requests.specs.Parsing.{parsed_by, parsed_in, Parses, no_memory}
use Rattle.coll_requests.specs.Requests.{stop_of}
use Rattle.coll_requests.specs.Taking.{line_if, IsOrder, TakesParsing, requests_or_last, line_requests, line_block, Answers, TakesPhysical}
use Rattle.coll_requests.proofs.ParsingLemmas.{numbered, parsed_starved}
use Rattle.coll_requests.specs.declared.parsing.Parsing.{Parsing}
use Rattle.coll_requests.specs.declared.open_blocks.OpenBlock.{OpenBlock}
use Rattle.coll_requests.specs.declared.session_lines.Opening.{Opening}
use Rattle.coll_requests.specs.declared.session_lines.ParsedLine.{ParsedLine}
use Rattle.coll_requests.specs.declared.requests.RequestAt.{RequestAt}

-- a line that ends no logical line with a token
pub physical_none : (starved : Bool) (old new : LexerState) (line : List ℕ) (block : Option OpenBlock) → Parses true starved old new line None → (memory : Bool)
    × TakesPhysical memory old new line block block (Ok None)
unfolding line_block line_requests
physical_none starved old new line block h =
    (starved, record { stands = h.stands; answers = subst (λ (given : Option ParsedLine). Answers given block block (Ok None)) h.parsed_is (refl, refl, refl) })

-- a line at fault is no order line
fault_no_order : (opening : Opening) (f : LexFault) → IsOrder (fault_parsed opening f) → ⊥
fault_no_order opening lex.NotUtf8 order = order
fault_no_order opening lex.OpenSymbol order = order
fault_no_order opening lex.EmptySymbol order = order
fault_no_order opening lex.BadName order = order
fault_no_order opening lex.BadCodePoint order = order
fault_no_order opening lex.OpenString order = order
fault_no_order opening lex.CharacterConstant order = order
fault_no_order opening lex.DanglingEscape order = order
fault_no_order opening lex.LineTooLong order = order
fault_no_order opening lex.BadCharDirective order = order
fault_no_order opening lex.TooManyLines order = order
fault_no_order opening lex.OutOfMemory order = order

-- an order line has tokens, and the number of these
record IsWhole (number : ℕ) (r : Result (Option Line × LexerState) LexFault) (given : Line) (after : LexerState) : Type 0 where
  is : r ≡ Ok (Some given, after)
  numbers : number ≡ given.number

abbrev line_or : ParsedLine → Option ParsedLine → ParsedLine
line_or other None = other
line_or other (Some line) = line

order_whole : (n : ℕ) (opening : Opening) (r : Result (Option Line × LexerState) LexFault) (line : ParsedLine) → Some line ≡ parsed_by true n opening r → IsOrder line.parsed → (given : Line)
    × (after : LexerState) × IsWhole line.number r given after
order_whole n opening (Ok (None, after)) line e order = absurd cc
order_whole n opening (Ok (Some given, after)) line e order = (given, after, record { is = refl; numbers = ap (λ (l : Option ParsedLine). (line_or line l).number) e })
order_whole n opening (Err f) line e order = absurd (fault_no_order opening f (subst (λ (l : Option ParsedLine). IsOrder (line_or line l).parsed) e order))

chosen_ok : (b : Bool) (f : LexFault) (r : Result (Option Line × LexerState) LexFault) (x : Option Line × LexerState) → (if b then Err f else r) ≡ Ok x → r ≡ Ok x
chosen_ok true f r x e = absurd cc
chosen_ok false f r x e = e

-- an answer that is no lack of memory is the lexer's own
pub served_fed : (starved : Bool) (s : LexerState) (line : List ℕ) (x : Option Line × LexerState) → served starved s line ≡ Ok x → fed s line ≡ Ok x
unfolding served
served_fed true s line x e = chosen_ok (takes_memory s line) lex.OutOfMemory (fed s line) x e
served_fed false s line x e = e

-- an order line to which memory was refused where a block takes it is one to which it was refused from the start
refused_later : (starved : Bool) (old new : LexerState) (line : List ℕ) (h : Parsing) → Parses true starved old new line (Some h.line) → h.opening ≡ opening_of (first_line old line)
    → IsOrder h.line.parsed → Parses true true old new line (Some (line_if true h))
unfolding parsed_in
refused_later starved old new line h parses opening order =
    let w = order_whole (number_of old) (opening_of (first_line old line)) (served starved old line) h.line parses.parsed_is order in
    let given : Line = w.0 in
    let after : LexerState = w.1 in
    let e : fed old line ≡ Ok (Some given, after) = served_fed starved old line (Some given, after) w.2.is in
    let stands : new ≡ after = parses.stands ∙ ap (state_by old) w.2.is in
    parsed_starved true old new line h.opening (line_if true h) opening (stands ∙ fed-whole old line given after e)
    (ap (λ (n : ℕ). numbered n (no_memory h.opening)) (w.2.numbers ∙ fed-number old line given after e)) (fed-takes old line given after e)

-- a line that was parsed and taken
pub physical_taken : (starved refused : Bool) (old new : LexerState) (line : List ℕ) (h : Parsing) (block after : Option OpenBlock) (request : Option RequestAt)
    → Parses true starved old new line (Some h.line) → h.opening ≡ opening_of (first_line old line) → stop_of h.line.parsed ≡ None → TakesParsing refused block h after request → (memory : Bool)
    × TakesPhysical memory old new line block after (Ok request)
unfolding line_block line_requests
physical_taken starved false old new line h block after request parses opening goes_on taken = (
  starved,
  record {
    stands = parses.stands;
    answers = subst (λ (given : Option ParsedLine). Answers given block after (Ok request)) parses.parsed_is (
      goes_on,
      taken.kept,
      taken.completes ∙ ap (λ (stop : Option LexFault). requests_or_last block h.line stop) (sym goes_on),
    );
  },
)
physical_taken starved true old new line h block after request parses opening goes_on taken =
    let late : Parses true true old new line (Some (line_if true h)) = refused_later starved old new line h parses opening (taken.order refl) in
    (true, record { stands = late.stands; answers = subst (λ (given : Option ParsedLine). Answers given block after (Ok request)) late.parsed_is (refl, taken.kept, taken.completes) })
