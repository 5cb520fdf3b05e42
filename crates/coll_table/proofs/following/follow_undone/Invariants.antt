-- The numbers are those of the nodes after the items that are left.
use Rattle.std.proofs.Common.{◌+◌, ◌-◌, length, take}
use Rattle.coll_nodes.specs.NodeNumbers.{entry_nodes}
use Rattle.coll_table.specs.Following.{AreNumbered}
use Rattle.coll_table.specs.Turning.{turned_on}
use Rattle.coll_table.proofs.following.follow_undone.Given as goal

abbrev pub invariant-items : goal.invariant-items
invariant-items l = AreNumbered l.numbers (entry_nodes (turned_on l.fn.body.layout (take l.at l.fn.items))) (1000000 + (length l.fn.items - l.at))
