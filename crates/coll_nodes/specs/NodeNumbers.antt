-- Numbers of the nodes that are entries, by which the place of an identifier, or of a name, is found without a look at the entries
-- before it.
use Rattle.std.specs.Prelude.{◌≡◌, ℕ, suc, true, if◌then◌else◌, List, [], ◌∷◌, Option, Some, None}
use Rattle.std.specs.List.{flat_map}
use Rattle.std.specs.Option.{option_or}
use Rattle.coll_order.specs.Lists.{same_node}
use Rattle.coll_order.specs.declared.places.NodeId.{NodeId}
use Rattle.coll_syntax.specs.Identifier.{same_id}
use Rattle.coll_syntax.specs.declared.identifiers.Id.{Id}
use Rattle.coll_syntax.specs.declared.identifiers.Id.TheVariants.{Named}
use Rattle.coll_lookups.specs.EntryNumbers.{number_at}
use Rattle.coll_lookups.specs.NamePlaces.{NamePlacesValue, place_named}
use Rattle.coll_nodes.specs.Placement.{place_among}
use Rattle.coll_nodes.specs.SoundBodies.{has_key, ids_in, read_at}
use Rattle.coll_nodes.specs.Table.{joined_entries}
use Rattle.coll_nodes.specs.TableLayout.{TableLayout, nodes_in, sections_at, sections_ring}
use Rattle.coll_nodes.specs.declared.contents.Content.{Content}
use Rattle.coll_nodes.specs.declared.contents.Content.TheVariants as content

-- the nodes of the entries of the section that a node is
abbrev pub entry_nodes_in : TableLayout → Content → List NodeId
entry_nodes_in layout (content.Declared declaration) = []
entry_nodes_in layout (content.Begun name ring) = nodes_in layout ring
entry_nodes_in layout (content.Placed entry) = []

-- the nodes of the entries of these sections, in order
abbrev pub entry_nodes_of : TableLayout → (sections : List NodeId) → List NodeId
entry_nodes_of layout sections = flat_map (read_at (entry_nodes_in layout) layout) sections

-- the nodes of all entries, in order
abbrev pub entry_nodes : TableLayout → List NodeId
entry_nodes layout = entry_nodes_of layout (nodes_in layout sections_ring)

-- the number of a node, if these get numbers one after another, behind so many others
abbrev pub last_number : (before : ℕ) → List NodeId → NodeId → Option ℕ
last_number before [] node = None
last_number before (first ∷ later) node =
    option_or (last_number (suc before) later node) (if same_node node first then Some (suc before) else None)

-- numbers are those of a layout: the node of each identifier that stands in it has the place of the identifier among all entries,
-- from 1; of other nodes they say nothing
abbrev pub AreNumbersOf : List ℕ → TableLayout → Type 0
AreNumbersOf numbers layout =
    (id : Id) (node : NodeId) → has_key same_id ids_in layout id node ≡ true → place_among (joined_entries (sections_at layout)) id
    ≡ Some (number_at numbers node)

-- each name that has an entry has the place of that among all, from 1, and no other name has one
abbrev pub ArePlacesOf : NamePlacesValue → TableLayout → Type 0
ArePlacesOf places layout = (name : List ℕ) → place_named places name ≡ place_among (joined_entries (sections_at layout)) (Named name)
