use Rattle.coll_order.specs.Stored.{links_of}
use Rattle.coll_order.proofs.Calls.{loose_where, gone_where}
use Rattle.std.proofs.Common.{sym}
use Rattle.coll_order.proofs.rings.Rings.is_loose.Goals as goal

pub returns-in-Some : goal.returns-in-Some
returns-in-Some c = rw (← c.self.view_is) (loose_where (links_of c.self.inside.store) c.args.node c.in-Some.found c.is_none.result c.self.invariant.held (sym c.in-Some.ensures) c.is_none.ensures)

pub returns-in-None : goal.returns-in-None
returns-in-None c = rw (← c.self.view_is) (gone_where (links_of c.self.inside.store) c.args.node (sym c.in-None.ensures))
