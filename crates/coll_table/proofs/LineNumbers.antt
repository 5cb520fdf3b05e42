-- The numbers that the faults of a text's lines carry: those of lines that were handed in.
use Rattle.std.proofs.Common.{◌≡◌, ℕ, ◌+◌, ◌≤◌, List, Option, Some, None, Ok, refl, ap, sym, ◌∙◌, ⊎_elim, arith}
use Rattle.std.specs.Prelude.{unwrap_or, option_map}
use Rattle.coll_lex.specs.Limits.{most_lines}
use Rattle.coll_lex.specs.LogicalLines.{LexerState, OpenLine, number_of, extended, fed}
use Rattle.coll_lex.specs.declared.tokens.Line.{Line}
use Rattle.coll_lex.proofs.LineEnds.{fed-one}
use Rattle.coll_lex.proofs.LineSteps.{fed-open}
use Rattle.coll_table.specs.Loads.{IsLineWithin}

-- the line that is open, if one is, is one of those handed in
abbrev pub IsOpenWithin : LexerState → Type 0
IsOpenWithin l = (o : OpenLine) → l.line ≡ Some o → IsLineWithin o.number l.count

-- so the next line is one of these or the one behind them
pub next_within : (l : LexerState) → IsOpenWithin l → IsLineWithin (number_of l) (l.count + 1)
next_within l opens = by_line l.line refl
  where
    by_line : (left : Option OpenLine) → l.line ≡ left → IsLineWithin (unwrap_or (option_map (λ (o : OpenLine). o.number) left) (l.count + 1)) (l.count + 1)
    by_line None e = (omega arith, omega arith)
    by_line (Some o) e = let within = opens o e in (within.0, omega (arith, within.1))

-- where no line is open there is nothing to show
pub none_open : (l : LexerState) → l.line ≡ None → IsOpenWithin l
none_open l closed o is = let both : None ≡ Some o = sym closed ∙ is in absurd cc

-- what a line of the category leaves open is one of the lines handed in
pub fed_within : (l after : LexerState) (line : List ℕ) (answer : Option Line) → IsOpenWithin l → l.count ≤ most_lines → fed l line ≡ Ok (answer, after) → IsOpenWithin after
fed_within l after line answer opens few e =
    ⊎_elim (λ (none : after.line ≡ None). none_open after none)
    (λ (kept : after.line ≡ Some (extended l line)) (o : OpenLine) (is : after.line ≡ Some o).
    let within = next_within l opens in
    let one = fed-one l line answer after e few in
    let same : Some (extended l line) ≡ Some o = sym kept ∙ is in
    let number : number_of l ≡ o.number = ap (λ (x : Option OpenLine). unwrap_or (option_map (λ (o : OpenLine). o.number) x) 0) same in
    (omega (arith, within.0, number), omega (arith, within.1, number, one.1)))
    (fed-open l line answer after e)
