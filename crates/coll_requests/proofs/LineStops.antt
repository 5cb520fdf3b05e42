-- Which lines end a session: none with tokens, and of those that the lexer refuses only one too long and one too many.
use Rattle.std.proofs.Common.{◌≡◌, ℕ, Bool, true, false, List, [], ◌∷◌, Option, Some, None, Result, Ok, Err, refl, sym, ap, ◌∙◌}
use Rattle.std.proofs.lemmas.Bool.{false≢true}
use Rattle.std.specs.Prelude.{◌&&◌, ◌==◌, if◌then◌else◌}
use Rattle.coll_lex.specs.Faults.{lex_fault_number, ends_text}
use Rattle.coll_lex.specs.LogicalLines.{LexerState, number_of, first_line, fed, takes_memory, served}
use Rattle.coll_lex.specs.declared.faults.LexFault.{LexFault}
use Rattle.coll_lex.specs.declared.faults.LexFault.TheVariants as lex
use Rattle.coll_lex.specs.declared.tokens.Line.{Line}
use Rattle.coll_lex.proofs.LineFaults.{fed-not_dangling}
use Rattle.coll_lex.specs.declared.tokens.Token.{Token}
use Rattle.coll_syntax.specs.DeltaLines.{delta_line}
use Rattle.coll_syntax.specs.declared.lines.DeltaLine.{DeltaLine}
use Rattle.coll_syntax.specs.declared.lines.DeltaLine.TheVariants as delta
use Rattle.coll_syntax.specs.declared.syntax_faults.SyntaxFault.{SyntaxFault}
use Rattle.coll_requests.specs.Commands.{is_command, command_of}
use Rattle.coll_requests.specs.Parsing.{parsed_by, parsed_in}
use Rattle.coll_requests.specs.SessionLines.{opening_of, command_parsed, delta_parsed, tokens_parsed, fault_parsed}
use Rattle.coll_requests.specs.Taking.{stop_at}
use Rattle.coll_requests.specs.Requests.{stop_of}
use Rattle.coll_requests.specs.declared.request_faults.RequestFault.{RequestFault}
use Rattle.coll_requests.specs.declared.session_lines.Command.{Command}
use Rattle.coll_requests.specs.declared.session_lines.Opening.{Opening}
use Rattle.coll_requests.specs.declared.session_lines.Parsed.{Parsed}

neither_stops : (b : Bool) (x y : Parsed) → stop_of x ≡ None → stop_of y ≡ None → stop_of (if b then x else y) ≡ None
neither_stops true x y p q = p
neither_stops false x y p q = q

command_goes_on : (r : Result Command RequestFault) → stop_of (command_parsed r) ≡ None
command_goes_on (Ok command) = refl
command_goes_on (Err f) = refl

delta_goes_on : (o : Opening) (r : Result DeltaLine SyntaxFault) → stop_of (delta_parsed o r) ≡ None
delta_goes_on o (Ok (delta.Symbol name)) = refl
delta_goes_on o (Ok (delta.Element name text)) = refl
delta_goes_on o (Ok (delta.Equivalence name symbol)) = refl
delta_goes_on o (Ok delta.Script) = refl
delta_goes_on o (Ok delta.Category) = refl
delta_goes_on o (Ok delta.EndCategory) = refl
delta_goes_on o (Ok delta.Copy) = refl
delta_goes_on o (Ok (delta.ReorderAfter target)) = refl
delta_goes_on o (Ok delta.ReorderEnd) = refl
delta_goes_on o (Ok (delta.SectionAfter moved after)) = refl
delta_goes_on o (Ok (delta.Order line)) = refl
delta_goes_on o (Err f) = refl

pub tokens_go_on : (commands : Bool) (o : Opening) (tokens : List Token) → stop_of (tokens_parsed commands o tokens) ≡ None
unfolding tokens_parsed
tokens_go_on commands o [] = delta_goes_on o (delta_line [])
tokens_go_on commands o (first ∷ rest) =
    neither_stops (commands && is_command first) (command_parsed (command_of first rest)) (delta_parsed o (delta_line (first ∷ rest))) (command_goes_on (command_of first rest))
    (delta_goes_on o (delta_line (first ∷ rest)))

-- a fault of a line that is handed in ends a session where it ends a text
fault_ends : (o : Opening) (f stop : LexFault) → (lex_fault_number f == 9) ≡ false → stop_of (fault_parsed o f) ≡ Some stop → ends_text stop ≡ true
fault_ends o lex.NotUtf8 stop within e = absurd cc
fault_ends o lex.OpenSymbol stop within e = absurd cc
fault_ends o lex.EmptySymbol stop within e = absurd cc
fault_ends o lex.BadName stop within e = absurd cc
fault_ends o lex.BadCodePoint stop within e = absurd cc
fault_ends o lex.OpenString stop within e = absurd cc
fault_ends o lex.CharacterConstant stop within e = absurd cc
fault_ends o lex.DanglingEscape stop within e = absurd (false≢true (sym within))
fault_ends o lex.LineTooLong stop within e = let same : lex.LineTooLong ≡ stop = cc in sym (ap ends_text same)
fault_ends o lex.BadCharDirective stop within e = absurd cc
fault_ends o lex.TooManyLines stop within e = let same : lex.TooManyLines ≡ stop = cc in sym (ap ends_text same)
fault_ends o lex.OutOfMemory stop within e = absurd cc

served-not_dangling : (starved : Bool) (s : LexerState) (line : List ℕ) (f : LexFault) → served starved s line ≡ Err f → (lex_fault_number f == 9) ≡ false
unfolding served
served-not_dangling false s line f e = fed-not_dangling s line f e
served-not_dangling true s line f e = by_choice (takes_memory s line) e
  where
    by_choice : (b : Bool) → (if b then Err lex.OutOfMemory else fed s line) ≡ Err f → (lex_fault_number f == 9) ≡ false
    by_choice true e = let same : lex.OutOfMemory ≡ f = cc in sym (ap (λ (g : LexFault). lex_fault_number g == 9) same)
    by_choice false e = fed-not_dangling s line f e

-- whatever is parsed of a line, a session ends at it only where the text does
pub parsed_ends : (commands starved : Bool) (s : LexerState) (line : List ℕ) (stop : LexFault) → stop_at (parsed_in commands starved s line) ≡ Some stop → ends_text stop ≡ true
unfolding parsed_in
parsed_ends commands starved s line stop e = by_answer (served starved s line) (λ f. served-not_dangling starved s line f) e
  where
    by_answer : (r : Result (Option Line × LexerState) LexFault) → ((f : LexFault) → r ≡ Err f → (lex_fault_number f == 9) ≡ false)
        → stop_at (parsed_by commands (number_of s) (opening_of (first_line s line)) r) ≡ Some stop → ends_text stop ≡ true
    by_answer (Ok (None, after)) within e = absurd cc
    by_answer (Ok (Some given, after)) within e =
        let both : None ≡ Some stop = sym (tokens_go_on commands (opening_of (first_line s line)) given.tokens) ∙ e in
        absurd cc
    by_answer (Err f) within e = fault_ends (opening_of (first_line s line)) f stop (within f refl) e
