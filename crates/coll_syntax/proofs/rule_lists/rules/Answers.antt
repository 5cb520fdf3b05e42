-- Each turn takes the next operand of the list, up to the fourth.
use Rattle.std.proofs.Common.{length, arith, rules, tests, take, ◌<◌, ap, sym, ◌∙◌}
use Rattle.std.proofs.lemmas.Iterator.Splits.{YieldsList-from_slice_split}
use Rattle.std.proofs.lemmas.Iterator.Consumers.{YieldsList-turn, YieldsList-end}
use Rattle.std.proofs.lemmas.List.{length_push, take_more_set}
use Rattle.std.proofs.Math.ListN.{length-set}
use Rattle.coll_syntax.specs.Rules.{wanted_rule}
use Rattle.coll_syntax.specs.Operands.{is_semicolon}
use Rattle.coll_syntax.specs.declared.syntax_faults.SyntaxFault.TheVariants.{BadRule}
use Rattle.coll_syntax.proofs.ListReading.{stands_at, rules_more, rules_fault, rules_past, rules_all}
use Rattle.coll_syntax.proofs.rule_lists.rules.Goals as goal

pub returns-then-levels-eq-MOST_LEVELS-clause-err : goal.returns-then-levels-eq-MOST_LEVELS-clause-err
returns-then-levels-eq-MOST_LEVELS-clause-err c =
    let t = YieldsList-turn (YieldsList-from_slice_split _ is_semicolon c.args.tokens.now (cc) (cc) (cc) (λ x r q k. search (rules, tests))) c.loop-operand.yielded _ c.loop-operand.yielded_by _ _
    c.in-Some.operand c.in-Some.is c.next.ensures.steps in
    rules_past c.args.tokens.now (take c.loop-operand.levels c.loop-operand.slots) (length c.loop-operand.yielded) c.in-Some.operand.now c.loop-operand.invariant.reads (stands_at _ _ _ t.0 t.1)
    (omega arith)

pub returns-in_default-clause-err : goal.returns-in_default-clause-err
returns-in_default-clause-err c =
    let t = YieldsList-turn (YieldsList-from_slice_split _ is_semicolon c.args.tokens.now (cc) (cc) (cc) (λ x r q k. search (rules, tests))) c.loop-operand.yielded _ c.loop-operand.yielded_by _ _
    c.in-Some.operand c.in-Some.is c.next.ensures.steps in
    rules_fault c.args.tokens.now (take c.loop-operand.levels c.loop-operand.slots) (length c.loop-operand.yielded) c.in-Some.operand.now BadRule c.loop-operand.invariant.reads
    (stands_at _ _ _ t.0 t.1) (omega arith) (ap wanted_rule (sym c.operand_rule.ensures ∙ c.in_default.is))

pub loop-operand-preserved : goal.loop-operand-preserved
loop-operand-preserved c =
    let t = YieldsList-turn (YieldsList-from_slice_split _ is_semicolon c.args.tokens.now (cc) (cc) (cc) (λ x r q k. search (rules, tests))) c.loop-operand.yielded _ c.loop-operand.yielded_by _ _
    c.in-Some.operand c.in-Some.is c.next.ensures.steps in
    let room : c.loop-operand.levels < length c.loop-operand.slots = omega arith in
    record {
      reads = rw (length_push c.loop-operand.yielded c.in-Some.operand, take_more_set c.loop-operand.slots c.loop-operand.levels c.in-Some-operand_rule.rule room)
          (rules_more c.args.tokens.now (take c.loop-operand.levels c.loop-operand.slots) (length c.loop-operand.yielded) c.in-Some.operand.now c.in-Some-operand_rule.rule
          c.loop-operand.invariant.reads (stands_at _ _ _ t.0 t.1) (omega arith) (ap wanted_rule (sym c.operand_rule.ensures ∙ c.in-Some-operand_rule.is)));
      count = rw (length_push c.loop-operand.yielded c.in-Some.operand) (omega arith);
      within = omega arith;
      four = simp length-set c.loop-operand.invariant.four;
    }

pub returns-clause-ok : goal.returns-clause-ok
returns-clause-ok c =
    let t = YieldsList-end (YieldsList-from_slice_split _ is_semicolon c.args.tokens.now (cc) (cc) (cc) (λ x r q k. search (rules, tests))) c.loop-operand.yielded _ c.loop-operand.yielded_by _ _
    c.in-None.is c.next.ensures.steps in
    rw c.from_slots.ensures (rules_all c.args.tokens.now (take c.loop-operand.levels c.loop-operand.slots) (length c.loop-operand.yielded) c.loop-operand.invariant.reads (omega (arith, t.1)))
