-- Each fault is taken out, from the last one on.
use Rattle.std.proofs.Common.{◌≡◌, List, ap, ◌∙◌}
use Rattle.std.specs.Prelude.{reverse}
use Rattle.std.specs.List.{fold}
use Rattle.std.proofs.lemmas.Iterator.Adapters.{YieldsList-from_rev_slice}
use Rattle.std.proofs.lemmas.Iterator.Consumers.{YieldsList-end}
use Rattle.coll_syntax.specs.declared.statements.OrderLine.{OrderLine}
use Rattle.coll_surveys.specs.DeltaSurveys.{without_fault, without_faults}
use Rattle.coll_surveys.proofs.MendingLemmas.{one_more}
use Rattle.coll_surveys.proofs.open_blocks.mend_lines.Goals as goal

pub loop-fault-preserved : goal.loop-fault-preserved
loop-fault-preserved c = record {
  left = one_more c.into_items-left.result.items c.loop-fault.left.items c.mend_line.new.lines.items c.loop-fault.yielded c.in-Some.fault c.loop-fault.invariant.left c.mend_line.ensures;
}

pub returns : goal.returns
returns c =
    let ended = YieldsList-end (YieldsList-from_rev_slice c.args.found.now (cc)) c.loop-fault.yielded _ c.loop-fault.yielded_by _ _ c.in-None.is c.next.ensures.steps in
    let begun : c.into_items-left.result.items ≡ c.args.lines.now = cc in
    let all : c.loop-fault.left.items ≡ without_faults c.args.lines.now c.args.found.now =
    c.loop-fault.invariant.left ∙ ap (fold without_fault c.into_items-left.result.items) ended.0 ∙ ap (λ (l : List OrderLine). fold without_fault l (reverse c.args.found.now)) begun in
    cc
