-- A text is too long, or the output is written, or a prefix of it.
use Rattle.std.proofs.Common.{sym, ◌∙◌}
use Rattle.coll_bench.proofs.RunCases.{text_fails, output_done, output_stops}
use Rattle.coll_bench.proofs.batches.answer_batch.Goals as goal

pub returns-then-is_any_too_long-clause-run : goal.returns-then-is_any_too_long-clause-run
returns-then-is_any_too_long-clause-run g c left left_after lefts lefts_after read =
    rw c.with_no_line.ensures (text_fails c.args.batch.now left left_after lefts lefts_after (g.W.Sink.taken c.args.output.now) c.args.table.now read
    (sym c.is_any_too_long.ensures ∙ c.if-is_any_too_long.true))

pub returns-in-Ok-clause-run : goal.returns-in-Ok-clause-run
returns-in-Ok-clause-run g c left left_after lefts lefts_after read =
    let taken = g.W.Sink.taken in
    output_done c.args.batch.now left left_after lefts lefts_after (taken c.args.output.now) c.args.table.now read (taken c.write_output.new.out)
    (sym c.is_any_too_long.ensures ∙ c.if-is_any_too_long.false) c.in-Ok.ensures.sent

pub returns-in-Err-clause-run : goal.returns-in-Err-clause-run
returns-in-Err-clause-run g c left left_after lefts lefts_after read =
    let taken = g.W.Sink.taken in
    rw c.with_no_line-in-Err.ensures (output_stops c.args.batch.now left left_after lefts lefts_after (taken c.args.output.now) c.args.table.now read (taken c.write_output.new.out) c.in-Err.fault
    (sym c.is_any_too_long.ensures ∙ c.if-is_any_too_long.false) c.in-Err.ensures.sent)
