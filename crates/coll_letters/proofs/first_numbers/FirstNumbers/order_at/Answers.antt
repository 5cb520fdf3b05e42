-- The bytes behind what both begin with are the first characters there, or one text has ended.
use Rattle.std.proofs.Common.{arith, sym}
use Rattle.coll_nodes.specs.TableLayout.{collation}
use Rattle.coll_letters.proofs.NumberLemmas.{bytes_decide, ended_greater, ended_less}
use Rattle.coll_letters.proofs.first_numbers.FirstNumbers.order_at.Goals as goal

pub returns-then-front-text-clause-order : goal.returns-then-front-text-clause-order
returns-then-front-text-clause-order c =
    ended_less (collation c.args.table.now) c.args.marks.now c.requires.marks c.requires.level c.args.front c.args.text.now c.args.other.now c.utf8.text c.utf8.other c.requires.front
    c.number_at-next.result (omega (arith, c.if-front-text.true)) (c.number_at-next.ensures c.if-next-eq0.false) c.if-next-eq0.false

pub returns-then-front-other-clause-order : goal.returns-then-front-other-clause-order
returns-then-front-other-clause-order c =
    ended_greater (collation c.args.table.now) c.args.marks.now c.requires.marks c.requires.level c.args.front c.args.text.now c.args.other.now c.utf8.text c.utf8.other c.requires.front
    c.number_at-number.result (omega (arith, c.if-front-other.true)) (c.number_at-number.ensures c.if-number-eq0.false) c.if-number-eq0.false

pub returns-then-is_ne-clause-order : goal.returns-then-is_ne-clause-order
returns-then-is_ne-clause-order c =
    bytes_decide (collation c.args.table.now) c.args.marks.now c.requires.marks c.requires.level c.args.front c.args.text.now c.args.other.now c.utf8.text c.utf8.other c.requires.front
    c.number_at-number.result c.number_at-other_number.result c.cmp-order.result (c.number_at-number.ensures c.if-number-eq0.false) c.if-number-eq0.false
    (c.number_at-other_number.ensures c.if-other_number-eq0.false) c.if-other_number-eq0.false c.cmp-order.ensures (sym c.if-is_ne.ensures)
