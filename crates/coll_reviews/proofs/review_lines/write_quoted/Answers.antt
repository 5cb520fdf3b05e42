-- Each character is one part.
use Rattle.std.proofs.Common.{◌+◌, drop, length, ◌∙◌, arith, rules}
use Rattle.std.specs.Str.{chars}
use Rattle.std.proofs.lemmas.Iterator.{YieldsList-from_chars}
use Rattle.std.proofs.lemmas.Iterator.Consumers.{YieldsList-turn, YieldsList-end}
use Rattle.std.proofs.lemmas.List.{length_push, drop_all}
use Rattle.coll_reviews.specs.ReviewLines.{quoted_char}
use Rattle.coll_texts.proofs.PrintedParts.{left_begins, written_prefix, written_more, written_all}
use Rattle.coll_reviews.proofs.review_lines.write_quoted.Goals as goal

pub returns-in-Err : goal.returns-in-Err
returns-in-Err g c =
    let taken = g.W.Sink.taken in
    let all = chars c.args.text.now in
    let n = length c.loop-c.yielded in
    let t = YieldsList-turn (YieldsList-from_chars c.args.text.now c.utf8.text cc) c.loop-c.yielded _ c.loop-c.yielded_by _ _ c.in-Some.c c.in-Some.is c.next.ensures.steps in
    record {
      sent = written_prefix quoted_char all (drop n all) (drop (n + 1) all) c.in-Some.c (taken c.args.out.now) (taken c.loop-c.out) (taken c.write_quoted_char.new.out)
          (left_begins all n c.in-Some.c t.0 t.1) c.loop-c.invariant.sent c.in-Err.ensures.sent;
      errors = search rules;
    }

pub loop-c-preserved : goal.loop-c-preserved
loop-c-preserved g c =
    let taken = g.W.Sink.taken in
    let all = chars c.args.text.now in
    let n = length c.loop-c.yielded in
    let t = YieldsList-turn (YieldsList-from_chars c.args.text.now c.utf8.text cc) c.loop-c.yielded _ c.loop-c.yielded_by _ _ c.in-Some.c c.in-Some.is c.next.ensures.steps in
    rw (length_push c.loop-c.yielded c.in-Some.c)
    (record {
      sent = written_more quoted_char all (drop n all) (drop (n + 1) all) c.in-Some.c (taken c.args.out.now) (taken c.loop-c.out) (taken c.write_quoted_char.new.out)
          (left_begins all n c.in-Some.c t.0 t.1) c.loop-c.invariant.sent c.in_default.ensures.sent;
      count = c.in_default.ensures.errors ∙ c.loop-c.invariant.count;
    })

pub returns : goal.returns
returns g c =
    let taken = g.W.Sink.taken in
    let all = chars c.args.text.now in
    let n = length c.loop-c.yielded in
    let t = YieldsList-end (YieldsList-from_chars c.args.text.now c.utf8.text cc) c.loop-c.yielded _ c.loop-c.yielded_by _ _ c.in-None.is c.next.ensures.steps in
    record {
      sent = written_all quoted_char all (drop n all) (taken c.args.out.now) (taken c.loop-c.out) (drop_all n all (omega (arith, t.1))) c.loop-c.invariant.sent;
      errors = search rules;
    }
