-- Each copy is one part.
use Rattle.std.proofs.Common.{◌+◌, drop, ◌∙◌, rules}
use Rattle.coll_delta_texts.specs.DeltaText.{copy_bytes}
use Rattle.coll_texts.proofs.PrintedParts.{left_begins, written_prefix, written_more}
use Rattle.coll_delta_texts.proofs.delta_texts.write_copies.Goals as goal

pub returns-in-Err : goal.returns-in-Err
returns-in-Err g c =
    let taken = g.W.Sink.taken in
    let part = rw c.get.ensures.characters at c.in-Err.ensures.sent in
    record {
      sent = written_prefix copy_bytes c.args.copies.now (drop c.loop-name.name-index c.args.copies.now) (drop (c.loop-name.name-index + 1) c.args.copies.now) c.name-item.result
          (taken c.args.out.now) (taken c.loop-name.out)
          (taken c.write_copy.new.out)
          (left_begins c.args.copies.now c.loop-name.name-index c.name-item.result c.loop-name-test.true c.name-item.is) c.loop-name.invariant.sent part;
      errors = search rules;
    }

pub loop-name-preserved : goal.loop-name-preserved
loop-name-preserved g c =
    let taken = g.W.Sink.taken in
    let part = rw c.get.ensures.characters at c.in_default.ensures.sent in
    record {
      sent = written_more copy_bytes c.args.copies.now (drop c.loop-name.name-index c.args.copies.now) (drop (c.loop-name.name-index + 1) c.args.copies.now) c.name-item.result
          (taken c.args.out.now) (taken c.loop-name.out)
          (taken c.write_copy.new.out)
          (left_begins c.args.copies.now c.loop-name.name-index c.name-item.result c.loop-name-test.true c.name-item.is) c.loop-name.invariant.sent part;
      count = c.in_default.ensures.errors ∙ c.loop-name.invariant.count;
    }
