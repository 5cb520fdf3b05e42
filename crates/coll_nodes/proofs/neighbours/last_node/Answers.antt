-- A ring ends behind its last node.
use Rattle.std.proofs.Common.{◌∙◌, sym}
use Rattle.coll_nodes.proofs.BesideNodes.{end_last, no_last}
use Rattle.coll_nodes.proofs.NeighbourLemmas.{linked_end}
use Rattle.coll_nodes.specs.TableLayout.{nodes_in}
use Rattle.coll_order.specs.declared.places.Place.TheVariants.{Head}
use Rattle.coll_nodes.proofs.neighbours.last_node.Goals as goal

pub returns-in-After-clause-last : goal.returns-in-After-clause-last
returns-in-After-clause-last c =
    sym (end_last (Head c.args.ring) c.args.before (nodes_in c.args.nodes.now.layout c.args.ring) c.in-After.node (sym c.end.ensures ∙ c.in-After.is) (λ same. cc))

pub returns-in-After-clause-linked : goal.returns-in-After-clause-linked
returns-in-After-clause-linked c = linked_end c.args.nodes.now.layout c.args.ring c.in-After.node (sym c.end.ensures ∙ c.in-After.is)

pub returns-in-Head-clause-last : goal.returns-in-Head-clause-last
returns-in-Head-clause-last c =
    sym (no_last c.args.ring c.in-Head.field-0 c.args.before (nodes_in c.args.nodes.now.layout c.args.ring) (sym c.end.ensures ∙ c.in-Head.is))
