-- A line is taken, and either ends the session or is answered by the history.
use Rattle.std.proofs.Common.{Ok, Err, ap, ◌∙◌}
use Rattle.coll_lex.specs.LogicalLines.{LexerState}
use Rattle.coll_devices.specs.declared.stops.WriteStop.{WriteStop}
use Rattle.coll_bench.proofs.ServingLemmas.{serves_taken, serves_failed}
use Rattle.coll_bench.proofs.serving.RunState.serve.Goals as goal

pub returns-in-Ok-answer_if-clause-served : goal.returns-in-Ok-answer_if-clause-served
returns-in-Ok-answer_if-clause-served g c =
    let taken = g.W.Sink.taken in
    serves_taken {E = WriteStop} c.args.self.now c.take.new.self c.answer_if.new.self c.args.line.now c.in-Ok.request (taken c.args.output.now) (taken c.take.new.output) (taken c.answer_if.new.output)
    (Ok c.in-Ok-answer_if.field-0)
    c.in-Ok.ensures.taken (ap taken c.in-Ok.ensures.quiet) c.answer_if.ensures.parser c.answer_if.ensures.block c.in-Ok-answer_if.ensures.answered

pub returns-in-Ok-answer_if-clause-counts : goal.returns-in-Ok-answer_if-clause-counts
returns-in-Ok-answer_if-clause-counts g c = ap (λ (x : LexerState). x.count) c.answer_if.ensures.parser ∙ c.in-Ok.ensures.counts

pub returns-in-Err-answer_if-clause-served : goal.returns-in-Err-answer_if-clause-served
returns-in-Err-answer_if-clause-served g c =
    let taken = g.W.Sink.taken in
    serves_failed c.args.self.now c.answer_if.new.self c.args.line.now (taken c.args.output.now) (taken c.answer_if.new.output) c.write_failed.result c.write_failed.ensures.fault
    (serves_taken {E = WriteStop} c.args.self.now c.take.new.self c.answer_if.new.self c.args.line.now c.in-Ok.request (taken c.args.output.now) (taken c.take.new.output)
    (taken c.answer_if.new.output) (Err c.in-Err-answer_if.stop)
    c.in-Ok.ensures.taken (ap taken c.in-Ok.ensures.quiet) c.answer_if.ensures.parser c.answer_if.ensures.block c.in-Err-answer_if.ensures.answered)
