-- The sections that are left stand in their ring, and what is sought is the first node of theirs.
use Rattle.std.proofs.Common.{◌≡◌, ◌∷◌, ◌++◌, List, length}
use Rattle.coll_order.specs.Lists.{first_in}
use Rattle.coll_order.specs.declared.places.NodeId.{NodeId}
use Rattle.coll_nodes.specs.NodeNumbers.{entry_nodes_of}
use Rattle.coll_nodes.specs.TableLayout.{nodes_in, sections_ring}
use Rattle.coll_nodes.specs.WalkStates.{StandsIfAny, left_of}
use Rattle.coll_nodes.proofs.neighbours.first_behind.Given as goal

abbrev pub invariant-sections : goal.invariant-sections
invariant-sections l =
    record {
      stands : StandsIfAny l.fn.nodes.layout sections_ring l.left;
      first : (prefix later : List NodeId) → nodes_in l.fn.nodes.layout sections_ring ≡ prefix ++ l.fn.section ∷ later
          → first_in (entry_nodes_of l.fn.nodes.layout (left_of l.fn.nodes.layout sections_ring l.left)) ≡ first_in (entry_nodes_of l.fn.nodes.layout later);
    }

abbrev pub decreases-sections : goal.decreases-sections
decreases-sections l = length (left_of l.fn.nodes.layout sections_ring l.left)
