-- The name that is written is that of the input.
use Rattle.std.proofs.Common.{◌++◌, List, ℕ, Option, ap, sym, ◌∙◌, subst}
use Rattle.std.specs.Prelude.{string_bytes}
use Rattle.coll_devices.specs.Devices.{AppendsPrefix}
use Rattle.std.specs.Io.KnownBytes.{Appends}
use Rattle.coll_bench.specs.Reports.{fault_line, name_written, behind_name}
use Rattle.coll_bench.proofs.Members.{got, got-map}
use Rattle.coll_bench.proofs.reports.write_fault.Goals as goal

pub returns-in-Ok-clause-sent : goal.returns-in-Ok-clause-sent
unfolding fault_line
returns-in-Ok-clause-sent g c =
    let taken = g.W.Sink.taken in
    let at = got-map string_bytes c.args.names.now c.args.fault.now.input c.index-names-fault.result
    (got c.args.names.now c.args.fault.now.input c.index-names-fault.result c.requires.named c.index-names-fault.is) in
    let line = ap (λ (o : Option (List ℕ)). name_written o ++ behind_name c.args.fault.now) at ∙ ap (λ (l : List ℕ). l ++ behind_name c.args.fault.now) (sym c.as_str.ensures.value) in
    subst (Appends (taken c.args.out.now) (taken c.write_named.new.out)) (sym line) c.in-Ok.ensures.sent

pub returns-in-Err-clause-sent : goal.returns-in-Err-clause-sent
unfolding fault_line
returns-in-Err-clause-sent g c =
    let taken = g.W.Sink.taken in
    let at = got-map string_bytes c.args.names.now c.args.fault.now.input c.index-names-fault.result
    (got c.args.names.now c.args.fault.now.input c.index-names-fault.result c.requires.named c.index-names-fault.is) in
    let line = ap (λ (o : Option (List ℕ)). name_written o ++ behind_name c.args.fault.now) at ∙ ap (λ (l : List ℕ). l ++ behind_name c.args.fault.now) (sym c.as_str.ensures.value) in
    subst (AppendsPrefix (taken c.args.out.now) (taken c.write_named.new.out)) (sym line) c.in-Err.ensures.sent
