-- How nodes are found and dropped, and where declarations end.
use Rattle.std.specs.Prelude.{◌≡◌, Bool, true, false, not, List, Option, Some, None, filter}
use Rattle.coll_order.specs.Lists.{has_node}
use Rattle.coll_order.specs.declared.places.NodeId.{NodeId}
use Rattle.coll_order.specs.declared.places.Place.{Place}
use Rattle.coll_nodes.specs.SoundBodies.{has_key, end_in}
use Rattle.coll_nodes.specs.TableLayout.{TableLayout, MadeNode}
use Rattle.coll_nodes.specs.declared.contents.Content.{Content}

-- the node that stands in a ring and has this key, or none where no node does
abbrev pub IsFoundBy : {Key : Type 0} → (Key → Key → Bool) → (Content → List Key) → TableLayout → Key → Option NodeId → Type 0
IsFoundBy same keys layout key None = (node : NodeId) → has_key same keys layout key node ≡ false
IsFoundBy same keys layout key (Some node) = has_key same keys layout key node ≡ true

-- the place behind the last declaration
abbrev pub end_of_declarations : TableLayout → Place
end_of_declarations layout = end_in layout 0

-- nodes without some of them
abbrev pub nodes_without : List NodeId → List MadeNode → List MadeNode
nodes_without dropped nodes = filter (λ (made : MadeNode). not (has_node dropped made.node)) nodes
