-- The reply to a withdrawal for which another statement is refused tells that one as well.
use Rattle.std.proofs.Common.{List, ℕ, sym, ap, ◌∙◌, subst, rules}
use Rattle.coll_devices.specs.Devices.{Sends}
use Rattle.coll_history.specs.declared.history_faults.BenchFault.{BenchFault}
use Rattle.coll_bench.specs.Replies.{refused_line}
use Rattle.coll_faults.specs.declared.faults.Fault.TheVariants as fault
use Rattle.coll_bench.proofs.ReplyLemmas.{still_needed}
use Rattle.coll_bench.proofs.replies.write_bench_refused.Goals as goal

pub returns-in-StillNeeded : goal.returns-in-StillNeeded
returns-in-StillNeeded g c =
    record {
      sent = let taken = g.W.Sink.taken in
          let a = c.in-StillNeeded in
          let line = still_needed a.statement a.refusal ∙ ap (λ (b : BenchFault). refused_line (fault.Bench b)) (sym a.is) in
          subst (λ (bytes : List ℕ). Sends (taken c.args.out.now) (taken c.write_still_needed.new.out) bytes c.write_still_needed.result) line c.write_still_needed.ensures.sent;
      errors = search rules;
    }
