-- Each step decides, or leaves it to what is left.
use Rattle.std.proofs.Common.{chars, rules}
use Rattle.coll_nodes.specs.TableLayout.{collation}
use Rattle.coll_letters.proofs.LetterLemmas.{alike_on, orders_before}
use Rattle.coll_letters.proofs.first_numbers.FirstNumbers.first_order.Goals as goal

pub letters-init : goal.letters-init
letters-init c = record {
  left = search rules;
  right = search rules;
  same = c.behind_front.ensures.same 0;
}

pub letters-preserved : goal.letters-preserved
letters-preserved c = record {
  left = search rules;
  right = search rules;
  same = alike_on (collation c.args.table.now) 0 (chars c.args.text.now) (chars c.args.other.now) (chars c.letters.left.now) (chars c.letters.right.now) (chars c.behind_same.result.0.now)
      (chars c.behind_same.result.1.now) c.letters.invariant.same
      (alike_on (collation c.args.table.now) 0 (chars c.letters.left.now) (chars c.letters.right.now) (chars c.in-Later.later.now) (chars c.in-Later.others.now)
      (chars c.behind_same.result.0.now) (chars c.behind_same.result.1.now) c.in-Later.ensures.same (c.behind_same.ensures.same 0));
}

pub returns-in-Decided : goal.returns-in-Decided
returns-in-Decided c =
    orders_before (collation c.args.table.now) 0 (chars c.args.text.now) (chars c.args.other.now) (chars c.letters.left.now) (chars c.letters.right.now) c.in-Decided.order c.letters.invariant.same
    c.in-Decided.ensures
