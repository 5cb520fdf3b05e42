use Rattle.std.proofs.Common.{List, ℕ, subst}
use Rattle.coll_devices.specs.Devices.{Sends}
use Rattle.coll_bench.proofs.ServingLemmas.{dropped_replies}
use Rattle.coll_bench.proofs.serving.write_last.Goals as goal

pub returns-in_default-clause-sent : goal.returns-in_default-clause-sent
returns-in_default-clause-sent g c =
    let taken = g.W.Sink.taken in
    subst (λ (bytes : List ℕ). Sends (taken c.args.output.now) (taken c.write_dropped.new.output) bytes c.write_dropped.result)
    (dropped_replies c.args.block.now c.args.number c.args.fault c.in_default.not-DanglingEscape) c.write_dropped.ensures.sent
