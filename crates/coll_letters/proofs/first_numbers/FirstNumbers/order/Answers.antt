-- The first level decides.
use Rattle.std.proofs.Common.{chars, subst, sym}
use Rattle.coll_nodes.specs.TableLayout.{collation}
use Rattle.coll_letters.specs.FirstOrders.{IsFirstOrder}
use Rattle.coll_letters.specs.LetterWeights.{OrdersSo}
use Rattle.coll_letters.proofs.NumberLemmas.{first_level_decides, not_ne_equal, some_level}
use Rattle.coll_letters.proofs.first_numbers.FirstNumbers.order.Goals as goal

pub order_at-requires-clause-level : goal.order_at-requires-clause-level
order_at-requires-clause-level c = some_level (collation c.args.table.now).rules (c.requires.numbers.forward c.if-not-self.false)

pub first_order-requires-clause-level : goal.first_order-requires-clause-level
first_order-requires-clause-level c = some_level (collation c.args.table.now).rules (c.requires.numbers.forward c.if-not-self.false)

pub returns-in-Some : goal.returns-in-Some
returns-in-Some c =
    first_level_decides (collation c.args.table.now) (chars c.args.text.now) (chars c.args.other.now) c.in-Some.order (c.requires.numbers.forward c.if-not-self.false) c.in-Some.ensures.order
    (sym c.in-Some.ensures.decides)

pub returns-then-is_ne : goal.returns-then-is_ne
returns-then-is_ne c =
    first_level_decides (collation c.args.table.now) (chars c.args.text.now) (chars c.args.other.now) c.in-Some-first_order.order (c.requires.numbers.forward c.if-not-self.false)
    c.in-Some-first_order.ensures c.if-is_ne.ensures

pub returns-else-is_ne : goal.returns-else-is_ne
returns-else-is_ne c =
    let table = collation c.args.table.now in
    subst (IsFirstOrder table c.args.marks.now c.args.text.now c.args.other.now) (sym c.untold-in-Some-first_order.ensures)
    (record {
      front = c.same_front-front.ensures;
      alike = λ is. subst (OrdersSo table 0 (chars c.args.text.now) (chars c.args.other.now)) (not_ne_equal c.in-Some-first_order.order c.if-is_ne.ensures) c.in-Some-first_order.ensures;
    })
