-- Lists of nodes: which nodes are the same, what stands beside a node, where a list ends, a node put in and taken out.
use Rattle.std.specs.Prelude.{◌==◌, Bool, false, List, [], ◌∷◌, Option, Some, None, if◌then◌else◌}
use Rattle.std.specs.List.{list_any}
use Rattle.coll_order.specs.declared.places.NodeId.{NodeId}
use Rattle.coll_order.specs.declared.places.Place.{Place}
use Rattle.coll_order.specs.declared.places.Place.TheVariants.{Head, After}

-- two names are those of one node
abbrev pub same_node : NodeId → NodeId → Bool
same_node a b = a.key == b.key

-- two places are the same: the head of one ring, or after one node
abbrev pub same_place : Place → Place → Bool
same_place (Head a) (Head b) = a.index == b.index
same_place (Head a) (After b) = false
same_place (After a) (Head b) = false
same_place (After a) (After b) = same_node a b

-- a node stands in a list
abbrev pub has_node : List NodeId → NodeId → Bool
has_node nodes node = list_any (same_node node) nodes

-- the first node of a list
abbrev pub first_in : List NodeId → Option NodeId
first_in [] = None
first_in (first ∷ _) = Some first

-- the node directly after one in a list
abbrev pub next_in : List NodeId → NodeId → Option NodeId
next_in [] node = None
next_in (first ∷ rest) node = if same_node node first then first_in rest else next_in rest node

-- what stands directly before a node in a list that begins after a place
abbrev pub place_in : Place → List NodeId → NodeId → Option Place
place_in start [] node = None
place_in start (first ∷ rest) node = if same_node node first then Some start else place_in (After first) rest node

-- the place behind the last node of a list that begins after a place
abbrev pub end_of : Place → List NodeId → Place
end_of start [] = start
end_of start (first ∷ rest) = end_of (After first) rest

-- a list without a node
abbrev pub without : NodeId → List NodeId → List NodeId
without node [] = []
without node (first ∷ rest) = if same_node node first then without node rest else first ∷ without node rest

-- a list that begins after a place, with a node put directly after a place, if that place is in it
abbrev pub put_after : Place → NodeId → Place → List NodeId → List NodeId
put_after place node start [] = if same_place place start then node ∷ [] else []
put_after place node start (first ∷ rest) =
    if same_place place start then node ∷ first ∷ rest else first ∷ put_after place node (After first) rest
