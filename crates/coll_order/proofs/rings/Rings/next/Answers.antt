use Rattle.coll_order.specs.Stored.{links_of}
use Rattle.std.proofs.Common.{sym, ◌∙◌}
use Rattle.coll_order.specs.Laid.{rings_at}
use Rattle.coll_order.proofs.Runs.{next_is}
use Rattle.coll_order.proofs.Calls.{linked_stored}
use Rattle.coll_order.proofs.rings.Rings.next.Goals as goal

pub next-requires : goal.next-requires
next-requires c =
    let there = rw (← c.self.view_is) at c.requires.linked in
    linked_stored (links_of c.self.inside.store) c.args.node c.self.invariant.held there

pub returns : goal.returns
returns c =
    let there = rw (← c.self.view_is) at c.requires.linked in
    rw (← c.self.view_is) (c.next.ensures ∙ sym (next_is (links_of c.self.inside.store) (rings_at (links_of c.self.inside.store)) c.self.invariant.held c.args.node there))
