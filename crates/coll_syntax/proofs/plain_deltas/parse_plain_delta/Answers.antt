-- A line says what its first token and what follows it say.
use Rattle.std.proofs.Common.{chars}
use Rattle.coll_syntax.proofs.PlainLineLemmas.{begun_by, order_char, order_named}
use Rattle.coll_syntax.proofs.plain_deltas.parse_plain_delta.Goals as goal

pub returns-in_ok-name-in-Symbol-clause-read : goal.returns-in_ok-name-in-Symbol-clause-read
returns-in_ok-name-in-Symbol-clause-read c =
    let next = rw c.in-Symbol.is at c.in-Some.ensures in
    let read = rw c.in_ok-name-in-Symbol.ensures at c.plain_order.ensures.read in
    rw (order_named c.args.lexer.now.special c.args.text.now (chars c.in-Symbol.name.now) c.in-Some.behind.now next) read

pub returns-in-Char-clause-read : goal.returns-in-Char-clause-read
returns-in-Char-clause-read c =
    let next = rw c.in-Char.is at c.in-Some.ensures in
    rw (order_char c.args.lexer.now.special c.args.text.now c.in-Char.c c.in-Some.behind.now next) c.plain_order-in-Char.ensures.read

pub returns-in-Word-clause-read : goal.returns-in-Word-clause-read
returns-in-Word-clause-read c =
    let next = rw c.in-Word.is at c.in-Some.ensures in
    rw (begun_by c.args.lexer.now.special c.args.text.now c.in-Word.word.now c.in-Some.behind.now next) c.block_limit.ensures.read
