-- The first characters of both are the same, or their numbers are looked at; or one text has ended.
use Rattle.std.proofs.Common.{chars, sym, true}
use Rattle.coll_nodes.specs.TableLayout.{collation}
use Rattle.coll_letters.proofs.LetterLemmas.{step_greater, step_less, step_same}
use Rattle.coll_letters.proofs.MarkLemmas.{stands_apart}
use Rattle.coll_letters.proofs.NumberLemmas.{numbered_text, numbers_decide, numbers_leave}
use Rattle.coll_letters.proofs.first_numbers.FirstNumbers.step.Goals as goal

pub returns-in_default : goal.returns-in_default
returns-in_default c =
    step_less (collation c.args.table.now) 0 true (chars c.args.left.now) (chars c.args.right.now) c.step_at_end.result c.in_default.ensures c.step_at_end.ensures

pub returns-in_default-split_first_char : goal.returns-in_default-split_first_char
returns-in_default-split_first_char c =
    step_greater (collation c.args.table.now) 0 true (chars c.args.left.now) (chars c.args.right.now) c.step_at_end-in_default-split_first_char.result c.in_default-split_first_char.ensures
    c.step_at_end-in_default-split_first_char.ensures

pub returns-then-is_apart : goal.returns-then-is_apart
returns-then-is_apart c =
    step_same (collation c.args.table.now) 0 (chars c.args.left.now) (chars c.args.right.now) (chars c.in-Some.later.now) (chars c.in-Some-split_first_char.others.now) c.in-Some.first
    c.in-Some-split_first_char.second c.in-Some.ensures c.in-Some-split_first_char.ensures c.if-first-second.true
    (stands_apart (collation c.args.table.now) c.args.marks.now c.requires.marks c.in-Some.first (chars c.in-Some.later.now) (c.is_apart.ensures c.if-not-is_apart.false))
    (stands_apart (collation c.args.table.now) c.args.marks.now c.requires.marks c.in-Some.first (chars c.in-Some-split_first_char.others.now) (c.is_apart-then-first-second.ensures c.if-is_apart.true))

pub returns-then-is_ne : goal.returns-then-is_ne
returns-then-is_ne c =
    let table = collation c.args.table.now in
    numbers_decide table (chars c.args.left.now) (chars c.args.right.now) (chars c.in-Some.later.now) (chars c.in-Some-split_first_char.others.now) c.number-number.result
    c.number-other_number.result c.cmp-order.result
    (numbered_text table c.in-Some.first (chars c.args.left.now) (chars c.in-Some.later.now) c.number-number.result c.in-Some.ensures
    (stands_apart (collation c.args.table.now) c.args.marks.now c.requires.marks c.in-Some.first (chars c.in-Some.later.now) (c.is_apart.ensures c.if-not-is_apart.false)) c.number-number.ensures c.if-number-eq0.false c.requires.level)
    (numbered_text table c.in-Some-split_first_char.second (chars c.args.right.now) (chars c.in-Some-split_first_char.others.now) c.number-other_number.result c.in-Some-split_first_char.ensures
    (stands_apart (collation c.args.table.now) c.args.marks.now c.requires.marks c.in-Some-split_first_char.second (chars c.in-Some-split_first_char.others.now) (c.is_apart-2.ensures c.if-not-is_apart-2.false)) c.number-other_number.ensures
    c.if-other_number-eq0.false c.requires.level)
    c.cmp-order.ensures (sym c.if-is_ne.ensures)

pub returns : goal.returns
returns c =
    let table = collation c.args.table.now in
    numbers_leave table (chars c.args.left.now) (chars c.args.right.now) (chars c.in-Some.later.now) (chars c.in-Some-split_first_char.others.now) c.number-number.result
    c.number-other_number.result c.cmp-order.result
    (numbered_text table c.in-Some.first (chars c.args.left.now) (chars c.in-Some.later.now) c.number-number.result c.in-Some.ensures
    (stands_apart (collation c.args.table.now) c.args.marks.now c.requires.marks c.in-Some.first (chars c.in-Some.later.now) (c.is_apart.ensures c.if-not-is_apart.false)) c.number-number.ensures c.if-number-eq0.false c.requires.level)
    (numbered_text table c.in-Some-split_first_char.second (chars c.args.right.now) (chars c.in-Some-split_first_char.others.now) c.number-other_number.result c.in-Some-split_first_char.ensures
    (stands_apart (collation c.args.table.now) c.args.marks.now c.requires.marks c.in-Some-split_first_char.second (chars c.in-Some-split_first_char.others.now) (c.is_apart-2.ensures c.if-not-is_apart-2.false)) c.number-other_number.ensures
    c.if-other_number-eq0.false c.requires.level)
    c.cmp-order.ensures (sym c.if-is_ne.ensures)
