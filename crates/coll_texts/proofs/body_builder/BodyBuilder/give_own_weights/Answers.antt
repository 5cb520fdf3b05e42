-- A builder with the weights of its entries by own names.
use Rattle.coll_texts.proofs.OwnChanges.{own_builder}
use Rattle.coll_texts.proofs.body_builder.BodyBuilder.give_own_weights.Goals as goal

pub invariant_of-self-2 : goal.invariant_of-self-2
invariant_of-self-2 c = own_builder c.self.inside.body.layout c.give_own_weights.new.body.layout c.self.inside.sections_end c.self.inside.entries_end c.in_ok-give_own_weights.ensures.ok
    c.self.invariant
