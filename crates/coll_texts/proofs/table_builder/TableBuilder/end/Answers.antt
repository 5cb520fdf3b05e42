-- A builder with the weights of its entries by own names is sound.
use Rattle.std.proofs.Common.{sym, subst}
use Rattle.coll_texts.specs.Building.{Parts}
use Rattle.coll_texts.specs.SoundStates.{IsSoundBuilderState}
use Rattle.coll_texts.proofs.SoundLines.{sound_own}
use Rattle.coll_texts.proofs.table_builder.TableBuilder.end.Goals as goal

pub invariant_of-self-2 : goal.invariant_of-self-2
invariant_of-self-2 c =
    let s = c.self.inside in
    subst (λ (b : Parts). IsSoundBuilderState (record { order_open = s.order_open; rules = s.rules; declared = b.declared; sections = b.sections; numbers = s.numbers.items }))
    (sym c.in_ok-give_own_weights.ensures.ok)
    (sound_own _ c.self.invariant)
