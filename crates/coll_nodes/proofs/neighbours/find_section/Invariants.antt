-- The sections that are left stand in their ring, what was found is linked, and what is sought is sought among those that are left.
use Rattle.std.proofs.Common.{◌≡◌, true, None, IfSome, length}
use Rattle.coll_order.specs.Layout.{is_in}
use Rattle.coll_nodes.specs.NodesBeside.{before_among, section_among}
use Rattle.coll_nodes.specs.TableLayout.{nodes_in, sections_ring}
use Rattle.coll_nodes.specs.WalkStates.{StandsIfAny, left_of}
use Rattle.coll_nodes.proofs.neighbours.find_section.Given as goal

abbrev pub invariant-sections : goal.invariant-sections
invariant-sections l =
    record {
      stands : StandsIfAny l.fn.nodes.layout sections_ring l.left;
      before : IfSome l.before (λ node. is_in l.fn.nodes.layout.rings node ≡ true);
      found : section_among l.fn.nodes.layout l.fn.ring (left_of l.fn.nodes.layout sections_ring l.left)
          ≡ section_among l.fn.nodes.layout l.fn.ring (nodes_in l.fn.nodes.layout sections_ring);
      last : before_among l.fn.nodes.layout l.fn.ring l.before (left_of l.fn.nodes.layout sections_ring l.left)
          ≡ before_among l.fn.nodes.layout l.fn.ring None (nodes_in l.fn.nodes.layout sections_ring);
    }

abbrev pub decreases-sections : goal.decreases-sections
decreases-sections l = length (left_of l.fn.nodes.layout sections_ring l.left)
