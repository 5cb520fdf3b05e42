use Rattle.std.proofs.Common.{chars}
use Rattle.coll_syntax.proofs.PlainLineLemmas.{symbol_declared}
use Rattle.coll_syntax.proofs.plain_lines.parse_plain_line.Goals as goal

pub returns-in-Some-2-clause-read : goal.returns-in-Some-2-clause-read
returns-in-Some-2-clause-read c =
    let next = rw c.in-Some-Symbol-default.field-0-0-is at c.in-Some-Symbol-default.ensures in
    let last = rw c.in-Some-2.is at c.in_ok-name.ensures.over in
    let copy = rw c.in-Some-2.is at c.in_ok-name.ensures.copy in
    rw copy
    (symbol_declared c.args.lexer.now.special c.args.text.now c.in-Some.behind.now c.past_blank.result.now (chars c.in-Some-Symbol-default.name.now) c.in-Some-Symbol-default.rest.now c.in-Some.ensures
    c.past_blank.ensures.reads c.past_blank.ensures.ends next last).0
