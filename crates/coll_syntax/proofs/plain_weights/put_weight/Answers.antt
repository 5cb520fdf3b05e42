use Rattle.coll_syntax.specs.declared.weights.Weight.TheVariants.{Ignore}
use Rattle.coll_syntax.proofs.PlainWeightLemmas.{ignored_operand}
use Rattle.coll_syntax.proofs.plain_weights.put_weight.Goals as goal

pub returns-in-Some-past_keyword : goal.returns-in-Some-past_keyword
returns-in-Some-past_keyword c =
    (Ignore, ignored_operand c.args.lexer.now.special c.args.own c.args.text.now c.in-Some-past_keyword.behind.now c.in-Some-past_keyword.ensures, c.in_ok-push-2.ensures.items)
