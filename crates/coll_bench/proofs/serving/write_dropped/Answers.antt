use Rattle.std.proofs.Common.{◌++◌}
use Rattle.coll_devices.proofs.WritingLemmas.{AppendsPrefix-before, Sends-after, Sends-stopped}
use Rattle.coll_bench.specs.Replies.{refused_line}
use Rattle.coll_faults.specs.declared.faults.Fault.TheVariants.{Lex}
use Rattle.coll_bench.proofs.serving.write_dropped.Goals as goal

pub returns-in_err-refuse_if-clause-sent : goal.returns-in_err-refuse_if-clause-sent
returns-in_err-refuse_if-clause-sent g c =
    let taken = g.W.Sink.taken in
    let rest = refused_line (Lex c.args.fault) in
    let prefix = rw c.dropped_fault.ensures at c.in_err-refuse_if.ensures.sent in
    Sends-stopped (taken c.args.output.now) (taken c.refuse_if.new.output) (_ ++ rest) c.from_residual.result c.from_residual.ensures.0
    (AppendsPrefix-before (taken c.args.output.now) (taken c.refuse_if.new.output) _ rest prefix)

pub returns-clause-sent : goal.returns-clause-sent
returns-clause-sent g c =
    let taken = g.W.Sink.taken in
    let rest = refused_line (Lex c.args.fault) in
    let first = rw c.dropped_fault.ensures at c.in_ok-refuse_if.ensures.sent in
    Sends-after (taken c.args.output.now) (taken c.refuse_if.new.output) (taken c.refuse.new.out) _ rest c.refuse.result first c.refuse.ensures.sent
