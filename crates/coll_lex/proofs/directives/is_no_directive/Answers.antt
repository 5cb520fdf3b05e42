use Rattle.coll_lex.proofs.DirectiveLemmas.{bracket_first, nothing_there}
use Rattle.coll_lex.proofs.directives.is_no_directive.Goals as goal

pub returns-in_default : goal.returns-in_default
returns-in_default c = nothing_there c.args.special c.args.line.now c.in_default.ensures.cases

pub returns-then-first-eq60 : goal.returns-then-first-eq60
returns-then-first-eq60 c = bracket_first c.args.special c.args.line.now c.in-Some.field-0-1.now c.in-Some.first.now c.in-Some.ensures.cases.0 c.if-first-eq60.true
