use Rattle.coll_order.specs.Stored.{links_of}
use Rattle.coll_order.proofs.Calls.{sound_layout}
use Rattle.coll_order.proofs.rings.Rings.lemma_layout.Goals as goal

pub returns : goal.returns
returns c = rw (← c.self.view_is) (sound_layout (links_of c.self.inside.store) c.self.invariant.held)
