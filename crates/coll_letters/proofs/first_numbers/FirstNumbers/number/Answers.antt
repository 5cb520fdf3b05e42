-- What stands at the place is the character's.
use Rattle.std.proofs.Common.{◌≡◌, ℕ, All, arith, get_or, sym, subst}
use Rattle.coll_nodes.specs.TableLayout.{collation}
use Rattle.coll_letters.specs.FirstNumbers.{IsFirstNumber, IsNumberOf}
use Rattle.coll_letters.specs.declared.first_numbers.FirstNumber.{FirstNumber}
use Rattle.coll_letters.proofs.NumberLemmas.{nobody}
use Rattle.coll_letters.proofs.first_numbers.FirstNumbers.number.Goals as goal

pub returns-then-kept-letter : goal.returns-then-kept-letter
returns-then-kept-letter c =
    let table = collation c.args._table.now in
    let none : FirstNumber = record { letter = 0; number = 0 } in
    let kept = get_or c.deref-numbers.result.now c.get-place.result none in
    let all : All (IsFirstNumber table) c.deref-numbers.result.now = subst (All (IsFirstNumber table)) (sym c.deref-numbers.ensures.value) c.requires.numbers in
    let same : kept.letter ≡ c.args.letter = c.if-kept-letter.true in
    subst (λ (letter : ℕ). IsNumberOf table letter kept.number) same (all c.get-place.result none (omega (arith, c.if-place-numbers.true)))

pub returns-else-kept-letter : goal.returns-else-kept-letter
returns-else-kept-letter c = nobody (collation c.args._table.now) c.args.letter

pub returns-else-place-numbers : goal.returns-else-place-numbers
returns-else-place-numbers c = nobody (collation c.args._table.now) c.args.letter
