-- What stands at the place is the character's.
use Rattle.std.proofs.Common.{◌≡◌, ℕ, All, arith, get_or, sym, subst}
use Rattle.coll_nodes.specs.TableLayout.{collation}
use Rattle.coll_letters.specs.LetterWeights.{IsLetterRow, IsRowOf}
use Rattle.coll_letters.specs.declared.letter_weights.LetterRow.{LetterRow}
use Rattle.coll_letters.proofs.letter_weights.LetterWeights.row.Goals as goal

pub returns-then-kept-letter : goal.returns-then-kept-letter
returns-then-kept-letter c =
    let table = collation c.args._table.now in
    let weights = c.args.self.now.made.weights in
    let none : LetterRow = record { letter = 0; row = record { first = 0; code = 0 } } in
    let kept = get_or c.deref-rows.result.now c.in_ok-place.field-0 none in
    let all : All (IsLetterRow table weights) c.deref-rows.result.now = subst (All (IsLetterRow table weights)) (sym c.deref-rows.ensures.value) c.requires.rows in
    let same : kept.letter ≡ c.args.letter = c.if-kept-letter.true in
    subst (λ (letter : ℕ). IsRowOf table weights letter kept.row) same (all c.in_ok-place.field-0 none (omega (arith, c.if-place-rows.true)))
