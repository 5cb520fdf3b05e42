-- A line without a fault was taken as it is, and spoils no block.
use Rattle.std.proofs.Common.{◌≡◌, None, refl, sym, subst}
use Rattle.coll_requests.specs.DeltaReading.{DeltaState, IsUnspoiled, kept_fault_under}
use Rattle.coll_requests.proofs.DeltaTaking.{taken_unless_lacking, unspoiled_after, accepted_answer}
use Rattle.coll_requests.proofs.delta_files.DeltaReader.take_accepted.Goals as goal

pub invariant_of-self-2 : goal.invariant_of-self-2
invariant_of-self-2 c =
    let i = c.self.inside in
    let taken = c.take_line-request.ensures.taken in
    let whole = taken_unless_lacking taken.0 i.block i.block c.take_line-request.new.block c.args.parsing c.take_line-request.result c.is_order-order.result c.self.invariant refl taken.1
    c.is_order-order.ensures c.if-leaves_lack.ensures in
    subst IsUnspoiled (sym whole.kept)
    (unspoiled_after i.block c.args.parsing.line c.self.invariant (subst (λ (s : DeltaState). kept_fault_under s.block c.args.parsing.line ≡ None) (sym c.self.view_is) c.requires.faultless))

pub returns-clause-ok : goal.returns-clause-ok
returns-clause-ok c =
    let i = c.self.inside in
    let s : DeltaState = record { lexer = i.parser; begun = i.begun; ended = i.ended; block = i.block; fault = i.fault } in
    let taken = c.take_line-request.ensures.taken in
    let whole = taken_unless_lacking taken.0 i.block i.block c.take_line-request.new.block c.args.parsing c.take_line-request.result c.is_order-order.result c.self.invariant refl taken.1 c.is_order-order.ensures
    c.if-leaves_lack.ensures in
    rw (← c.self.view_is) (accepted_answer s c.take_line-request.new.block c.take_line-request.result c.args.parsing _ _ whole c.statement_of.ensures.statement c.ends_category-ends.ensures)
