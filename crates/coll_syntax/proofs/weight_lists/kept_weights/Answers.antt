-- Each turn takes the next operand of the list.
use Rattle.std.proofs.Common.{length, arith, rules, tests}
use Rattle.std.proofs.lemmas.Iterator.Splits.{YieldsList-from_slice_split}
use Rattle.std.proofs.lemmas.Iterator.Consumers.{YieldsList-turn, YieldsList-end}
use Rattle.std.proofs.lemmas.List.{length_push}
use Rattle.std.proofs.lemmas.Result.{err_from_is_err_and}
use Rattle.coll_syntax.specs.Operands.{is_semicolon}
use Rattle.coll_syntax.proofs.KeptReading.{kept_more, kept_fault, kept_all}
use Rattle.coll_syntax.proofs.ListReading.{stands_at}
use Rattle.coll_syntax.proofs.weight_lists.kept_weights.Goals as goal

pub loop-operand-preserved : goal.loop-operand-preserved
loop-operand-preserved c =
    let t = YieldsList-turn (YieldsList-from_slice_split _ is_semicolon c.args.tokens.now (cc) (cc) (cc) (λ x r q k. search (rules, tests))) c.loop-operand.yielded _ c.loop-operand.yielded_by _ _
    c.in-Some.operand c.in-Some.is c.next.ensures.steps in
    rw (length_push c.loop-operand.yielded c.in-Some.operand, c.in_ok-push.ensures.items)
    (kept_more c.args.own c.args.tokens.now c.loop-operand.weights.items (length c.loop-operand.yielded) c.in-Some.operand.now c.in_ok-weight.weight c.loop-operand.invariant (stands_at _ _ _ t.0 t.1)
    c.in_ok-weight.ensures.ok)

pub returns-in_err-weight-clause-err : goal.returns-in_err-weight-clause-err
returns-in_err-weight-clause-err c =
    let t = YieldsList-turn (YieldsList-from_slice_split _ is_semicolon c.args.tokens.now (cc) (cc) (cc) (λ x r q k. search (rules, tests))) c.loop-operand.yielded _ c.loop-operand.yielded_by _ _
    c.in-Some.operand c.in-Some.is c.next.ensures.steps in
    let p = err_from_is_err_and c.from_residual.result c.from_residual.ensures.1 in
    rw (p.1, p.2)
    (λ no. kept_fault c.args.own c.args.tokens.now c.loop-operand.weights.items (length c.loop-operand.yielded) c.in-Some.operand.now c.in_err-weight.field-0.0 c.loop-operand.invariant
    (stands_at _ _ _ t.0 t.1) (c.in_err-weight.ensures.err no))

pub returns-clause-ok : goal.returns-clause-ok
returns-clause-ok c =
    let t = YieldsList-end (YieldsList-from_slice_split _ is_semicolon c.args.tokens.now (cc) (cc) (cc) (λ x r q k. search (rules, tests))) c.loop-operand.yielded _ c.loop-operand.yielded_by _ _
    c.in-None.is c.next.ensures.steps in
    rw (c.new.ensures, c.shrink_to_fit.ensures.items) (kept_all c.args.own c.args.tokens.now c.loop-operand.weights.items (length c.loop-operand.yielded) c.loop-operand.invariant (omega (arith, t.1)))
