-- A text begins with no element that begins with another character.
use Rattle.std.proofs.Common.{arith}
use Rattle.coll_elements.proofs.ElementOrder.{none_at_start, all_begun}
use Rattle.coll_elements.proofs.element_order.last_begun_with.Goals as goal

pub returns-then-among-start-clause-last : goal.returns-then-among-start-clause-last
returns-then-among-start-clause-last c = λ rest starts.
    none_at_start _ _ _ _ _ _ _ _ _ c.requires starts c.get-start.ensures c.get-end.ensures c.count_up_to-among.ensures.behind c.if-among-start.true

pub returns-clause-last : goal.returns-clause-last
returns-clause-last c = λ rest starts.
    all_begun _ _ _ _ _ _ _ _ _ _ c.requires starts c.get-start.ensures c.get-end.ensures c.count_up_to-among.ensures.to c.count_up_to-among.ensures.behind c.last_begun.ensures

pub returns-clause-within : goal.returns-clause-within
returns-clause-within c = omega (arith, c.last_begun.ensures.within, c.count_up_to-among.ensures.to, c.get-end.ensures, (c.requires.bounded c.args.first).1)
