-- The line of a second name has its two names.
use Rattle.std.proofs.Common.{sym, subst, rules}
use Rattle.coll_devices.specs.Devices.{Sends}
use Rattle.coll_syntax.specs.declared.statements.Statement.{Statement}
use Rattle.coll_bench.specs.Replies.{history_line}
use Rattle.coll_bench.proofs.replies.history_reply.write_history_line.Goals as goal

pub returns-in-Equivalence : goal.returns-in-Equivalence
unfolding history_line
returns-in-Equivalence g c =
    record {
      sent = let taken = g.W.Sink.taken in
          subst (λ (s : Statement). Sends (taken c.args.out.now) (taken c.write_names.new.out) (history_line c.args.number s) c.write_names.result)
          (sym c.in-Equivalence.is) c.write_names.ensures.sent;
      errors = search rules;
    }
