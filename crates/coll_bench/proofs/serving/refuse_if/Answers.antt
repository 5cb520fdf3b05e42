use Rattle.std.proofs.Common.{List, ℕ, append-nil, sym, ap, ◌∙◌, subst}
use Rattle.std.proofs.KnownBytes.{Appends-nil}
use Rattle.coll_devices.specs.Devices.{Sends}
use Rattle.coll_faults.specs.Faults.{fault_of}
use Rattle.coll_bench.specs.Replies.{refused_line, refused_lines}
use Rattle.coll_bench.proofs.serving.refuse_if.Goals as goal

pub returns-in-Some-clause-sent : goal.returns-in-Some-clause-sent
unfolding refused_lines
returns-in-Some-clause-sent g c =
    let taken = g.W.Sink.taken in
    rw c.in-Some.is (subst (λ (bytes : List ℕ). Sends (taken c.args.output.now) (taken c.refuse.new.out) bytes c.refuse.result)
    (ap refused_line c.from.ensures ∙ sym (append-nil (refused_line (fault_of c.in-Some.at.fault)))) c.refuse.ensures.sent)

pub returns-in-None-clause-sent : goal.returns-in-None-clause-sent
unfolding refused_lines
returns-in-None-clause-sent g c = rw c.in-None.is (Appends-nil (g.W.Sink.taken c.args.output.now))
