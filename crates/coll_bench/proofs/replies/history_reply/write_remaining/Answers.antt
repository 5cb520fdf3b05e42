-- What was written so far and the lines of the statements that are left are the lines of all that remain.
use Rattle.std.proofs.Common.{◌≡◌, ◌≤◌, ◌+◌, ◌++◌, [], ℕ, List, drop, length, refl, sym, ap, ◌∙◌, subst, append_assoc, append-nil, arith, rules}
use Rattle.std.proofs.KnownBytes.{Appends-nil, Appends-trans}
use Rattle.coll_devices.specs.Devices.{raised}
use Rattle.coll_bench.specs.Replies.{history_line, history_lines}
use Rattle.coll_bench.proofs.ReplyLemmas.{past_more, past_stopped, past_end}
use Rattle.coll_bench.proofs.replies.history_reply.write_remaining.Goals as goal

pub loop-number-init : goal.loop-number-init
loop-number-init g c = record {
  sent = ([], refl, Appends-nil _);
  errors = refl;
  within = omega arith;
  count = c.remaining_len-count.ensures;
}

pub returns-in-Err : goal.returns-in-Err
returns-in-Err g c =
    record {
      sent = let taken = g.W.Sink.taken in
          let done = c.loop-number.invariant.sent in
          past_stopped (taken c.args.out.now) (taken c.loop-number.out) (taken c.write_history_line.new.out) c.loop-number.number c.args.session.now.history.remaining c.in-Some.statement.now done.0 _
          c.in-Some.ensures done.1 done.2 c.in-Err.ensures.sent;
      errors = subst (λ (failed : ℕ). g.W.Sink.failed c.write_history_line.new.out ≡ raised failed) c.loop-number.invariant.errors c.in-Err.ensures.errors;
    }

pub loop-number-preserved : goal.loop-number-preserved
loop-number-preserved g c =
    let taken = g.W.Sink.taken in
    let statements = c.args.session.now.history.remaining in
    let n = c.loop-number.number in
    let done = c.loop-number.invariant.sent in
    let line = history_line (n + 1) c.in-Some.statement.now in
    record {
      sent = (
        done.0 ++ line,
        past_more n statements c.in-Some.statement.now done.0 _ c.in-Some.ensures done.1 ∙ sym (append_assoc done.0 line (history_lines (n + 1 + 1) (drop (n + 1) statements))),
        Appends-trans (taken c.args.out.now) (taken c.loop-number.out) (taken c.write_history_line.new.out) done.0 line done.2 c.in_default-write_history_line.ensures.sent,
      );
      errors = c.in_default-write_history_line.ensures.errors ∙ c.loop-number.invariant.errors;
      within = omega (arith, c.loop-number-test.true);
      count = c.loop-number.invariant.count;
    }

pub returns : goal.returns
returns g c =
    record {
      sent = let statements = c.args.session.now.history.remaining in
          let n = c.loop-number.number in
          let done = c.loop-number.invariant.sent in
          let past : length statements ≤ n = omega (arith, c.loop-number-test.false, c.loop-number.invariant.count) in
          let whole = done.1 ∙ ap (λ (l : List ℕ). done.0 ++ l) (past_end n statements past) ∙ append-nil done.0 in
          rw whole done.2;
      errors = search rules;
    }
