-- Each reply is that of the definition, or the one to lack of memory; a flush leaves what was sent.
use Rattle.coll_devices.proofs.WritingLemmas.{Sends-stopped}
use Rattle.coll_bench.proofs.ReplyLemmas.{answers_statement, answers_refused, flushed, history_stays}
use Rattle.coll_bench.proofs.replies.answer.Goals as goal

pub returns-in_err-obey-in-Command-clause-answered : goal.returns-in_err-obey-in-Command-clause-answered
returns-in_err-obey-in-Command-clause-answered g c =
    let taken = g.W.Sink.taken in
    let a = c.in_err-obey-in-Command.ensures.answered in
    rw c.in-Command.is (a.0, Sends-stopped (taken c.args.out.now) (taken c.obey.new.out) _ c.from_residual.result c.from_residual.ensures.0 a.1, a.2)

pub returns-in_ok-obey-in-Command-clause-answered : goal.returns-in_ok-obey-in-Command-clause-answered
returns-in_ok-obey-in-Command-clause-answered g c =
    let taken = g.W.Sink.taken in
    let a = c.in_ok-obey-in-Command.ensures.answered in
    rw c.in-Command.is (a.0, flushed (taken c.args.out.now) (taken c.obey.new.out) (taken c.flush.new.out) _ c.flush.result a.1 c.flush.ensures.sent, a.2)

pub returns-in_err-write_outcome-in-Statement-clause-answered : goal.returns-in_err-write_outcome-in-Statement-clause-answered
returns-in_err-write_outcome-in-Statement-clause-answered g c =
    let taken = g.W.Sink.taken in
    let stopped = c.from_residual-in_err-write_outcome-in-Statement in
    rw c.in-Statement.is
    (answers_statement (taken c.args.out.now) (taken c.write_outcome.new.out) c.args.session.now.history c.statement-outcome.new.self.history _ c.statement-outcome.result stopped.result
    c.statement-outcome.ensures.accepted c.statement-outcome.ensures.count c.statement-outcome.ensures.refused
    (history_stays c.statement-outcome.result c.statement-outcome.new.self c.args.session.now c.statement-outcome.ensures.unchanged)
    (Sends-stopped (taken c.args.out.now) (taken c.write_outcome.new.out) _ stopped.result stopped.ensures.0 c.in_err-write_outcome-in-Statement.ensures.sent))

pub returns-in_ok-write_outcome-in-Statement-clause-answered : goal.returns-in_ok-write_outcome-in-Statement-clause-answered
returns-in_ok-write_outcome-in-Statement-clause-answered g c =
    let taken = g.W.Sink.taken in
    let last = c.flush-in-Statement in
    rw c.in-Statement.is
    (answers_statement (taken c.args.out.now) (taken last.new.out) c.args.session.now.history c.statement-outcome.new.self.history _ c.statement-outcome.result last.result
    c.statement-outcome.ensures.accepted c.statement-outcome.ensures.count c.statement-outcome.ensures.refused
    (history_stays c.statement-outcome.result c.statement-outcome.new.self c.args.session.now c.statement-outcome.ensures.unchanged)
    (flushed (taken c.args.out.now) (taken c.write_outcome.new.out) (taken last.new.out) _ last.result c.in_ok-write_outcome-in-Statement.ensures.sent last.ensures.sent))

pub returns-in-Refused-clause-answered : goal.returns-in-Refused-clause-answered
returns-in-Refused-clause-answered g c =
    let taken = g.W.Sink.taken in
    let sent = rw c.from.ensures at c.refuse.ensures.sent in
    rw c.in-Refused.is (answers_refused (taken c.args.out.now) (taken c.refuse.new.out) c.args.session.now.history c.in-Refused.fault c.refuse.result sent)
