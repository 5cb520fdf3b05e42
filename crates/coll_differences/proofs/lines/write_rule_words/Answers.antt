-- Each member is one part.
use Rattle.std.proofs.Common.{◌+◌, drop, get_or, false, ◌∙◌, rules}
use Rattle.std.proofs.lemmas.List.{drop_more}
use Rattle.coll_syntax.specs.declared.rules.Rule.{Rule}
use Rattle.coll_differences.specs.Lines.{rule_word}
use Rattle.coll_texts.proofs.PrintedParts.{written_prefix, written_more}
use Rattle.coll_differences.proofs.lines.write_rule_words.Goals as goal

pub returns-in-Err : goal.returns-in-Err
returns-in-Err g c =
    let taken = g.W.Sink.taken in
    let all = c.args.rules.now in
    let none : Rule = record { backward = false; position = false } in
    record {
      sent = written_prefix rule_word all (drop c.loop-rule.rule-index all) (drop (c.loop-rule.rule-index + 1) all) (get_or all c.loop-rule.rule-index none) (taken c.args.out.now)
          (taken c.loop-rule.out)
          (taken c.write_rule_word.new.out)
          (drop_more all c.loop-rule.rule-index none c.loop-rule-test.true) c.loop-rule.invariant.sent c.in-Err.ensures.sent;
      errors = search rules;
    }

pub loop-rule-preserved : goal.loop-rule-preserved
loop-rule-preserved g c =
    let taken = g.W.Sink.taken in
    let all = c.args.rules.now in
    let none : Rule = record { backward = false; position = false } in
    record {
      sent = written_more rule_word all (drop c.loop-rule.rule-index all) (drop (c.loop-rule.rule-index + 1) all) (get_or all c.loop-rule.rule-index none) (taken c.args.out.now)
          (taken c.loop-rule.out) (taken c.write_rule_word.new.out)
          (drop_more all c.loop-rule.rule-index none c.loop-rule-test.true) c.loop-rule.invariant.sent c.in_default.ensures.sent;
      count = c.in_default.ensures.errors ∙ c.loop-rule.invariant.count;
    }
