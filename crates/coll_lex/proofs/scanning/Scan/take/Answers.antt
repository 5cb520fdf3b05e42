use Rattle.std.proofs.lemmas.Result.{err_from_is_err_and}
use Rattle.coll_lex.proofs.ScanLines.{literal_taken, literal_refused, literal_gathers, escape_taken, plain_taken, plain_refused, plain_gathers}
use Rattle.coll_lex.proofs.scanning.Scan.take.Goals as goal

pub returns-in_err-take_literal-clause-err : goal.returns-in_err-take_literal-clause-err
returns-in_err-take_literal-clause-err c =
    let p = err_from_is_err_and c.from_residual.result c.from_residual.ensures.1 in
    rw (p.1, p.2) (λ no. literal_refused c.args.special c.args.self.now c.args.c c.in_err-take_literal.field-0.0 c.if-self.true (c.in_err-take_literal.ensures.err no c.args.special.comment))

pub returns-in_err-take_literal-clause-memory : goal.returns-in_err-take_literal-clause-memory
returns-in_err-take_literal-clause-memory c =
    let p = err_from_is_err_and c.from_residual.result c.from_residual.ensures.1 in
    rw (p.1, p.2) (λ lack. literal_gathers c.args.special c.args.self.now c.args.c c.if-self.true (c.in_err-take_literal.ensures.memory lack c.args.special.comment))

pub returns-then-self-clause-ok : goal.returns-then-self-clause-ok
returns-then-self-clause-ok c =
    literal_taken c.args.special c.args.self.now c.take_literal.new.self c.args.c c.if-self.true (c.in_ok-take_literal.ensures.ok c.args.special.comment)

pub returns-then-c-special-clause-ok : goal.returns-then-c-special-clause-ok
returns-then-c-special-clause-ok c = escape_taken c.args.special c.args.self.now c.args.c c.if-self.false c.if-c-special.true

pub returns-in_err-take_plain-clause-err : goal.returns-in_err-take_plain-clause-err
returns-in_err-take_plain-clause-err c =
    let p = err_from_is_err_and c.from_residual-in_err-take_plain.result c.from_residual-in_err-take_plain.ensures.1 in
    rw (p.1, p.2) (λ no. plain_refused c.args.special c.args.self.now c.args.c c.in_err-take_plain.field-0.0 c.if-self.false c.if-c-special.false (c.in_err-take_plain.ensures.err no))

pub returns-in_err-take_plain-clause-memory : goal.returns-in_err-take_plain-clause-memory
returns-in_err-take_plain-clause-memory c =
    let p = err_from_is_err_and c.from_residual-in_err-take_plain.result c.from_residual-in_err-take_plain.ensures.1 in
    rw (p.1, p.2) (λ lack. plain_gathers c.args.special c.args.self.now c.args.c c.if-self.false c.if-c-special.false (c.in_err-take_plain.ensures.memory lack))

pub returns-clause-ok : goal.returns-clause-ok
returns-clause-ok c =
    plain_taken c.args.special c.args.self.now c.take_plain.new.self c.args.c c.if-self.false c.if-c-special.false c.in_ok-take_plain.ensures.ok
