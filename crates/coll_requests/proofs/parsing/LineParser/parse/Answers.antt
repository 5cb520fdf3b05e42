-- A line that is read where it stands is parsed as its tokens are.
use Rattle.std.proofs.Common.{sym, ap, ◌∙◌}
use Rattle.coll_lex.specs.LogicalLines.{LexerState, first_line}
use Rattle.coll_requests.specs.SessionLines.{opening_of}
use Rattle.coll_requests.proofs.PlainLines.{plain_parses, plain_proper, plain_starves}
use Rattle.coll_requests.proofs.parsing.LineParser.parse.Goals as goal

pub accepted-requires : goal.accepted-requires
accepted-requires c =
    let said = rw c.in-Ok-Some.field-0-is at c.in-Ok-Some.ensures.read in
    let whole = rw c.in-Ok-Some.field-0-is at c.in-Ok-Some.ensures.whole in
    plain_proper c.self.inside.lexer c.args.line.now c.in-Some.text.now c.in-Ok-Some.read c.in-Some.ensures.plain c.in-Some.ensures.alone whole said

pub returns-in-Ok-Some-clause-parsed : goal.returns-in-Ok-Some-clause-parsed
returns-in-Ok-Some-clause-parsed c =
    let said = rw c.in-Ok-Some.field-0-is at c.in-Ok-Some.ensures.read in
    let whole = rw c.in-Ok-Some.field-0-is at c.in-Ok-Some.ensures.whole in
    let begins = c.opening_at-opening.ensures ∙ ap (λ (t : LexerState). opening_of (first_line t c.args.line.now)) (sym c.self.view_is) in
    rw (c.passed.ensures.line, c.passed.ensures.passes, ← c.self.view_is)
    (plain_parses c.args.commands c.self.inside.lexer c.args.line.now c.in-Some.text.now c.in-Ok-Some.read c.opening_at-opening.result c.accepted.result c.in-Some.ensures.plain c.in-Some.ensures.alone
    whole said begins (c.accepted.ensures.parsed c.opening_at-opening.result))

pub returns-in-Err-clause-parsed : goal.returns-in-Err-clause-parsed
returns-in-Err-clause-parsed c =
    let begins = c.opening_at-opening.ensures ∙ ap (λ (t : LexerState). opening_of (first_line t c.args.line.now)) (sym c.self.view_is) in
    rw (c.passed-in-Err.ensures.line, c.passed-in-Err.ensures.passes, ← c.self.view_is)
    (plain_starves c.args.commands c.self.inside.lexer c.args.line.now c.in-Some.text.now c.opening_at-opening.result c.no_memory.result c.in-Some.ensures.plain c.in-Err.ensures.memory begins
    c.no_memory.ensures)
