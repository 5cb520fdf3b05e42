-- Each member is one part.
use Rattle.std.proofs.Common.{◌+◌, drop, ◌∙◌, rules}
use Rattle.coll_explanations.specs.Explanations.{element_word}
use Rattle.coll_texts.proofs.PrintedParts.{left_begins, written_prefix, written_more}
use Rattle.coll_explanations.proofs.lines.write_each.Goals as goal

pub returns-in-Err : goal.returns-in-Err
returns-in-Err g c =
    let taken = g.W.Sink.taken in
    let all = c.args.elements.now in
    record {
      sent = written_prefix element_word all (drop c.loop-element.element-index all) (drop (c.loop-element.element-index + 1) all) c.element-item.result (taken c.args.out.now)
          (taken c.loop-element.out) (taken c.write_element.new.out)
          (left_begins all c.loop-element.element-index c.element-item.result c.loop-element-test.true c.element-item.is) c.loop-element.invariant.sent c.in-Err.ensures.sent;
      errors = search rules;
    }

pub loop-element-preserved : goal.loop-element-preserved
loop-element-preserved g c =
    let taken = g.W.Sink.taken in
    let all = c.args.elements.now in
    record {
      sent = written_more element_word all (drop c.loop-element.element-index all) (drop (c.loop-element.element-index + 1) all) c.element-item.result (taken c.args.out.now)
          (taken c.loop-element.out) (taken c.write_element.new.out)
          (left_begins all c.loop-element.element-index c.element-item.result c.loop-element-test.true c.element-item.is) c.loop-element.invariant.sent c.in_default.ensures.sent;
      count = c.in_default.ensures.errors ∙ c.loop-element.invariant.count;
    }
