-- The first pairs that are new, up to five, or to the last.
use Rattle.std.proofs.Common.{◌-◌, ap, arith, take, drop, ◌∙◌, ℕ, rules}
use Rattle.coll_texts.proofs.PrintedParts.{written_all}
use Rattle.coll_reviews.specs.ListedWords.{newly_beside}
use Rattle.coll_reviews.specs.ReviewLines.{joined_line, most_told}
use Rattle.coll_reviews.proofs.ListedLemmas.{joined_new_at, joined_old_at, joined_stops_at, pairs_end, take_nothing}
use Rattle.coll_reviews.proofs.review_lines.write_joined.Goals as goal
use Rattle.coll_reviews.proofs.review_lines.write_joined.Goals.{then-first-second+in_default, else-first-second}

pub returns-in-Err : goal.returns-in-Err
returns-in-Err g c =
    let taken = g.W.Sink.taken in
    record {
      sent = joined_stops_at c.args.list.now c.loop-place.place _ _ c.loop-place.invariant.above c.loop-place-test.true (take most_told (newly_beside c.args.list.now)) c.loop-place.left (taken c.args.out.now) (taken c.loop-place.out) (taken c.write_pair.new.out)
          c.if-left-eq0.false c.if-first-second.true c.loop-place.invariant.sent c.in-Err.ensures.sent;
      errors = search rules;
    }

pub loop-place-preserved : goal.loop-place-preserved
loop-place-preserved g c =
    let taken = g.W.Sink.taken in
    let list = c.args.list.now in
    let place = c.loop-place.place in
    let all = take most_told (newly_beside list) in
    elim c.if-first-second.branch [
      | then-first-second+in_default w ↦ record {
        above = omega arith;
        sent = rw (w.out-is, w.left-is)
            (joined_new_at list place _ _ c.loop-place.invariant.above c.loop-place-test.true all c.loop-place.left (taken c.args.out.now)
            (taken c.loop-place.out) (taken w.write_pair.new.out) c.if-left-eq0.false w.if-first-second.true c.loop-place.invariant.sent w.in_default.ensures.sent);
        count = rw w.out-is (w.in_default.ensures.errors ∙ c.loop-place.invariant.count);
      }
      | else-first-second w ↦ record {
        above = omega arith;
        sent = rw (w.out-is, w.left-is)
            (joined_old_at list place _ _ c.loop-place.invariant.above c.loop-place-test.true all c.loop-place.left (taken c.args.out.now)
            (taken c.loop-place.out) w.if-first-second.false c.loop-place.invariant.sent);
        count = rw w.out-is c.loop-place.invariant.count;
      }
    ]

pub returns : goal.returns
returns g c =
    let taken = g.W.Sink.taken in
    let none = pairs_end c.args.list.now c.loop-place.place c.loop-place-test.false in
    record {
      sent = written_all joined_line (take most_told (newly_beside c.args.list.now)) (take c.loop-place.left (newly_beside (drop (c.loop-place.place - 1) c.args.list.now))) (taken c.args.out.now)
          (taken c.loop-place.out) (ap (take c.loop-place.left) none ∙ take_nothing c.loop-place.left) c.loop-place.invariant.sent;
      errors = search rules;
    }

pub returns-then-left-eq0 : goal.returns-then-left-eq0
returns-then-left-eq0 g c =
    let taken = g.W.Sink.taken in
    record {
      sent = written_all joined_line (take most_told (newly_beside c.args.list.now)) (take c.loop-place.left (newly_beside (drop (c.loop-place.place - 1) c.args.list.now))) (taken c.args.out.now)
          (taken c.loop-place.out) (ap (λ (n : ℕ). take n (newly_beside (drop (c.loop-place.place - 1) c.args.list.now))) c.if-left-eq0.true) c.loop-place.invariant.sent;
      errors = search rules;
    }
