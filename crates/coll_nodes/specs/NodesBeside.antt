-- What stands beside a node among those of all entries, and the node of its section.
use Rattle.std.specs.Prelude.{◌==◌, ℕ, Bool, false, if◌then◌else◌, List, [], ◌∷◌, Option, Some, None}
use Rattle.std.specs.Option.{option_and_then}
use Rattle.coll_order.specs.Lists.{same_node}
use Rattle.coll_order.specs.declared.places.NodeId.{NodeId}
use Rattle.coll_order.specs.declared.places.RingId.{RingId}
use Rattle.coll_nodes.specs.Beside.{last_behind}
use Rattle.coll_nodes.specs.NodeNumbers.{entry_nodes_in}
use Rattle.coll_nodes.specs.SoundBodies.{entry_if, read_at}
use Rattle.coll_nodes.specs.TableLayout.{TableLayout, content_of}
use Rattle.coll_nodes.specs.declared.contents.Content.{Content}
use Rattle.coll_nodes.specs.declared.contents.Content.TheVariants as content
use Rattle.coll_nodes.specs.declared.entries.Entry.{Entry}

-- the node directly before one, where one may stand before all these
abbrev pub node_between : (before : Option NodeId) → List NodeId → NodeId → Option NodeId
node_between before [] node = None
node_between before (first ∷ later) node = if same_node node first then before else node_between (Some first) later node

-- the ring of the section that a node is
abbrev pub ring_if : Option Content → Option RingId
ring_if None = None
ring_if (Some (content.Declared declaration)) = None
ring_if (Some (content.Begun name ring)) = Some ring
ring_if (Some (content.Placed entry)) = None

-- the name of the section that a node is, if it has one
abbrev pub name_if : Content → Option (List ℕ)
name_if (content.Declared declaration) = None
name_if (content.Begun name ring) = name
name_if (content.Placed entry) = None

-- a ring that is asked for is this one
abbrev pub is_asked : Option RingId → Option RingId → Bool
is_asked None own = false
is_asked (Some ring) None = false
is_asked (Some ring) (Some own) = ring.index == own.index

-- the section whose entries stand in the ring that is asked for, among these
abbrev pub section_among : TableLayout → Option RingId → (sections : List NodeId) → Option NodeId
section_among layout ring [] = None
section_among layout ring (section ∷ sections) =
    if is_asked ring (ring_if (content_of layout section)) then Some section else section_among layout ring sections

-- the last node before the entries of that section; where none is asked for, or is there, the last of all
abbrev pub before_among : TableLayout → Option RingId → (before : Option NodeId) → (sections : List NodeId) → Option NodeId
before_among layout ring before [] = before
before_among layout ring before (section ∷ sections) =
    if is_asked ring (ring_if (content_of layout section)) then before
    else before_among layout ring (last_behind before (read_at (entry_nodes_in layout) layout section)) sections

-- the entry that a node of a layout is
abbrev pub node_entry : TableLayout → NodeId → Option Entry
node_entry layout node = option_and_then entry_if (content_of layout node)
