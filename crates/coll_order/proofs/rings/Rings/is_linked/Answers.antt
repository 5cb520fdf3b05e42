use Rattle.coll_order.specs.Stored.{links_of}
use Rattle.coll_order.proofs.Calls.{linked_where, unlinked_where}
use Rattle.std.proofs.Common.{sym}
use Rattle.coll_order.proofs.rings.Rings.is_linked.Goals as goal

pub returns-in-Some : goal.returns-in-Some
returns-in-Some c = rw (← c.self.view_is) (linked_where (links_of c.self.inside.store) c.args.node c.in-Some.found c.is_some.result c.self.invariant.held (sym c.in-Some.ensures) c.is_some.ensures)

pub returns-in-None : goal.returns-in-None
returns-in-None c = rw (← c.self.view_is) (unlinked_where (links_of c.self.inside.store) c.args.node c.self.invariant.held (sym c.in-None.ensures))
