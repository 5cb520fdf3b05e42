-- What is numbered, and what is left, is the whole ring.
use Rattle.std.proofs.Common.{◌≡◌, ◌+◌, length, unwrap_or}
use Rattle.coll_order.specs.declared.places.NodeId.{NodeId}
use Rattle.coll_lookups.specs.EntryNumbers.{number_at}
use Rattle.coll_nodes.specs.NodeNumbers.{last_number}
use Rattle.coll_nodes.specs.TableLayout.{nodes_in}
use Rattle.coll_nodes.specs.WalkStates.{StandsIfAny, left_of}
use Rattle.coll_nodes.proofs.numbered_rings.number_ring.Given as goal

abbrev pub invariant-entries : goal.invariant-entries
invariant-entries l =
    record {
      stands : StandsIfAny l.fn.nodes.layout l.fn.ring l.left;
      count : l.last + length (left_of l.fn.nodes.layout l.fn.ring l.left) ≡ l.fn.before + length (nodes_in l.fn.nodes.layout l.fn.ring);
      numbers : (node : NodeId) → unwrap_or (last_number l.last (left_of l.fn.nodes.layout l.fn.ring l.left) node) (number_at l.numbers node)
          ≡ unwrap_or (last_number l.fn.before (nodes_in l.fn.nodes.layout l.fn.ring) node) (number_at l.fn.numbers node);
    }

abbrev pub decreases-entries : goal.decreases-entries
decreases-entries l = length (left_of l.fn.nodes.layout l.fn.ring l.left)
