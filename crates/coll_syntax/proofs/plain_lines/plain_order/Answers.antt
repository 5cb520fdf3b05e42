use Rattle.coll_syntax.proofs.PlainLineLemmas.{symbol_placed}
use Rattle.coll_syntax.proofs.plain_lines.plain_order.Goals as goal
use Rattle.std.proofs.Common.{chars}

pub returns-in-Some-2-clause-read : goal.returns-in-Some-2-clause-read
returns-in-Some-2-clause-read c =
    let next = rw c.in-Symbol.is at c.in-Some.ensures in
    let last = rw c.in-Some-2.is at c.in_ok-name-in-Symbol.ensures.over in
    let copy = rw c.in-Some-2.is at c.in_ok-name-in-Symbol.ensures.copy in
    rw (c.order_of.ensures, copy) (symbol_placed c.args.lexer.now.special c.args.text.now (chars c.in-Symbol.name.now) c.in-Some.behind.now next last).0
