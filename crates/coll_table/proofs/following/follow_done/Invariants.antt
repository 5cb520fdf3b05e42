-- The numbers are those of the nodes before the items that are left.
use Rattle.std.proofs.Common.{◌+◌, drop}
use Rattle.coll_nodes.specs.NodeNumbers.{entry_nodes}
use Rattle.coll_table.specs.Following.{AreNumbered}
use Rattle.coll_table.specs.Turning.{turned_back}
use Rattle.coll_table.proofs.following.follow_done.Given as goal

abbrev pub invariant-items : goal.invariant-items
invariant-items l = AreNumbered l.numbers (entry_nodes (turned_back l.fn.body.layout (drop l.item-index l.fn.items))) (1000000 + l.item-index)
