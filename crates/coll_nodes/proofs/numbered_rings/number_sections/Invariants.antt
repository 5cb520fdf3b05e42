-- What is numbered, and what is left, are all entries.
use Rattle.std.proofs.Common.{◌≡◌, ◌+◌, length, unwrap_or}
use Rattle.coll_order.specs.declared.places.NodeId.{NodeId}
use Rattle.coll_lookups.specs.EntryNumbers.{number_at}
use Rattle.coll_nodes.specs.NodeNumbers.{last_number, entry_nodes, entry_nodes_of}
use Rattle.coll_nodes.specs.TableLayout.{sections_ring}
use Rattle.coll_nodes.specs.WalkStates.{StandsIfAny, left_of}
use Rattle.coll_nodes.proofs.numbered_rings.number_sections.Given as goal

abbrev pub invariant-sections : goal.invariant-sections
invariant-sections l =
    record {
      stands : StandsIfAny l.fn.nodes.layout sections_ring l.left;
      count : l.last + length (entry_nodes_of l.fn.nodes.layout (left_of l.fn.nodes.layout sections_ring l.left)) ≡ length (entry_nodes l.fn.nodes.layout);
      numbers : (node : NodeId) → unwrap_or (last_number l.last (entry_nodes_of l.fn.nodes.layout (left_of l.fn.nodes.layout sections_ring l.left)) node) (number_at l.numbers node)
          ≡ unwrap_or (last_number 0 (entry_nodes l.fn.nodes.layout) node) (number_at l.fn.numbers node);
    }

abbrev pub decreases-sections : goal.decreases-sections
decreases-sections l = length (left_of l.fn.nodes.layout sections_ring l.left)
