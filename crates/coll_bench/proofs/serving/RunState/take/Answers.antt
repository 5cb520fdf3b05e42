-- A line is taken, or it ends the session with its last replies.
use Rattle.std.proofs.Common.{refl}
use Rattle.coll_bench.proofs.ServingLemmas.{counts_line, serves_stop}
use Rattle.coll_bench.proofs.serving.RunState.take.Goals as goal

pub returns-in-Err-clause-taken : goal.returns-in-Err-clause-taken
returns-in-Err-clause-taken g c =
    let taken = g.W.Sink.taken in
    serves_stop c.args.self.now c.take.new.self c.take.new.block c.args.line.now c.in-Err.fault c.next_number-number.result (taken c.args.output.now) (taken c.stop.new.output) c.stop.result
    c.in-Err.ensures.taken c.next_number-number.ensures.number c.stop.ensures.ended

pub returns-in-Ok-clause-taken : goal.returns-in-Ok-clause-taken
returns-in-Ok-clause-taken g c = (c.in-Ok.ensures.taken, refl)

pub returns-in-Ok-clause-counts : goal.returns-in-Ok-clause-counts
returns-in-Ok-clause-counts g c =
    (counts_line c.args.self.now.parser c.take.new.self c.args.line.now c.args.self.now.block c.take.new.block c.in-Ok.request c.in-Ok.ensures.taken c.next_number-number.ensures.counted).counts

pub returns-in-Ok-clause-room : goal.returns-in-Ok-clause-room
returns-in-Ok-clause-room g c =
    (counts_line c.args.self.now.parser c.take.new.self c.args.line.now c.args.self.now.block c.take.new.block c.in-Ok.request c.in-Ok.ensures.taken c.next_number-number.ensures.counted).room
