-- The line at the place of the fault is taken out, or its weights.
use Rattle.std.proofs.Common.{ap, arith, set}
use Rattle.coll_syntax.specs.declared.statements.OrderLine.{OrderLine}
use Rattle.coll_surveys.proofs.MendingLemmas.{line_out, past_fault, weights_out}
use Rattle.coll_surveys.proofs.open_blocks.mend_line.Goals as goal

pub returns-then-place-len : goal.returns-then-place-len
returns-then-place-len c = past_fault c.args.fault.now c.in-Some.place c.args.lines.now.items c.in-Some.is (omega arith)

pub returns-then-are_weights_at_fault : goal.returns-then-are_weights_at_fault
returns-then-are_weights_at_fault c =
    weights_out c.args.fault.now c.in-Some.place c.args.lines.now.items _ c.index.result.now c.index_mut.result.now c.in-Some.is (omega arith) c.index.ensures c.index_mut.ensures.value (cc)
    (ap (λ (line : OrderLine). set c.args.lines.now.items c.in-Some.place line) (cc))

pub returns-else-are_weights_at_fault : goal.returns-else-are_weights_at_fault
returns-else-are_weights_at_fault c =
    line_out c.args.fault.now c.in-Some.place c.args.lines.now.items c.remove.new.self.items c.index.result.now c.in-Some.is (omega arith) c.index.ensures (cc) c.remove.ensures.items
