use Rattle.coll_order.specs.Stored.{links_of}
use Rattle.std.proofs.Common.{sym, ◌∙◌}
use Rattle.coll_order.proofs.Calls.{first_is}
use Rattle.coll_order.proofs.rings.Rings.first.Goals as goal

pub returns : goal.returns
returns c =
    let there = rw (← c.self.view_is) at c.requires.ring in
    rw (← c.self.view_is) (c.next.ensures ∙ sym (first_is (links_of c.self.inside.store) c.self.invariant.held c.args.ring there))
