-- A node that moves, stands, or gets other weights: what becomes of a layout, and when it may be.
use Rattle.std.specs.Prelude.{◌≡◌, Bool, true, false, ◌&&◌, not, if◌then◌else◌, List, Option, Some, None, map}
use Rattle.std.specs.List.{list_any}
use Rattle.coll_order.specs.Layout.{place_from, rings_with, rings_without}
use Rattle.coll_order.specs.Lists.{same_node}
use Rattle.coll_order.specs.declared.places.NodeId.{NodeId}
use Rattle.coll_order.specs.declared.places.Place.{Place}
use Rattle.coll_syntax.specs.Identifier.{same_name, same_id}
use Rattle.coll_syntax.specs.declared.weights.Weight.{Weight}
use Rattle.coll_nodes.specs.Bodies.{IsLooseNode, without_link}
use Rattle.coll_nodes.specs.SoundBodies.{IsPlaceIn, IsEntryPlace, has_key, names_in, texts_in}
use Rattle.coll_nodes.specs.SoundBodies.{section_names_in, rings_in, ids_in, same_ring}
use Rattle.coll_nodes.specs.Table.{has_text, is_declared, is_placed_in, name_of, text_of}
use Rattle.coll_nodes.specs.TableLayout.{TableLayout, MadeNode, content_of, declared_at, sections_at}
use Rattle.coll_nodes.specs.declared.contents.Content.{Content}
use Rattle.coll_nodes.specs.declared.contents.Content.TheVariants as content

-- Rings.

-- the rings with a node taken out, and put directly after a place, if there is one
abbrev pub relinked : List (List NodeId) → NodeId → Option Place → List (List NodeId)
relinked rings node None = rings_without node rings
relinked rings node (Some place) = rings_with place node 0 (rings_without node rings)

-- the rings after an item whose node goes to a place; one that gets no place leaves its node where it stands
abbrev pub moved_rings : (gets : Option Place) → List (List NodeId) → NodeId → (to : Option Place) → List (List NodeId)
moved_rings None rings node to = rings
moved_rings (Some place) rings node to = relinked rings node to

-- Weights.

-- what a node is, with other weights, if some are given and it is an entry
abbrev pub weighed : Option (List Weight) → Content → Content
weighed None node = node
weighed (Some weights) (content.Declared declaration) = content.Declared declaration
weighed (Some weights) (content.Begun name ring) = content.Begun name ring
weighed (Some weights) (content.Placed entry) = content.Placed (record entry { weights = weights })

-- the nodes, with other weights for one of them
abbrev pub weighed_nodes : NodeId → Option (List Weight) → List MadeNode → List MadeNode
weighed_nodes node weights nodes =
    map (λ (made : MadeNode). if same_node node made.node then record made { content = weighed weights made.content } else made) nodes

-- the weights of a node that is an entry, and else those that were to go to it
abbrev pub weights_or : List Weight → Option Content → List Weight
weights_or weights None = weights
weights_or weights (Some (content.Declared declaration)) = weights
weights_or weights (Some (content.Begun name ring)) = weights
weights_or weights (Some (content.Placed entry)) = entry.weights

-- the weights that a node gives in exchange for those that go to it, if any do
abbrev pub exchanged : Option (List Weight) → Option Content → Option (List Weight)
exchanged None it = None
exchanged (Some weights) it = Some (weights_or weights it)

-- Where a node may stand.

-- a node stands directly after a place; without one, it is loose
abbrev pub IsAt : TableLayout → NodeId → Option Place → Type 0
IsAt layout node None = IsLooseNode layout node
IsAt layout node (Some place) = place_from 0 layout.rings node ≡ Some place

-- none of these keys is that of a node that stands in a ring
abbrev pub AreNew : {Key : Type 0} → (Key → Key → Bool) → (Content → List Key) → TableLayout → Content → Type 0
AreNew {Key} same keys layout node = (key : Key) (other : NodeId) → list_any (same key) (keys node) ≡ true
    → has_key same keys layout key other ≡ false

-- nothing that stands in a ring has a key of this node
pub record IsApart (layout : TableLayout) (node : Content) : Type 0 where
  pub names : AreNew same_name names_in layout node
  pub texts : AreNew same_name texts_in layout node
  pub sections : AreNew same_name section_names_in layout node
  pub rings : AreNew same_ring rings_in layout node
  pub ids : AreNew same_id ids_in layout node

-- so it is with a node that may be loose, as a test on what the table has
abbrev pub is_free : TableLayout → Content → Bool
is_free layout (content.Declared new) = not (is_declared (declared_at layout) (name_of new)) && not (has_text (declared_at layout) (text_of new))
is_free layout (content.Begun name ring) = true
is_free layout (content.Placed entry) = not (is_placed_in (sections_at layout) entry.id)

-- a place is in a list of such nodes: that of the declarations, that of the sections, or that of a section's entries
abbrev pub IsPlaceFor : TableLayout → Place → Content → Type 0
IsPlaceFor layout place (content.Declared declaration) = IsPlaceIn layout 0 place
IsPlaceFor layout place (content.Begun name ring) = IsPlaceIn layout 1 place
IsPlaceFor layout place (content.Placed entry) = IsEntryPlace layout place

-- a node may be loose: a section never is
abbrev pub MayBeLoose : Content → Type 0
MayBeLoose (content.Declared declaration) = Unit {0}
MayBeLoose (content.Begun name ring) = ⊥
MayBeLoose (content.Placed entry) = Unit {0}

-- what this node is may be put directly after a place; or, without one, be loose
abbrev pub MayStand : TableLayout → Option Place → Content → Type 0
MayStand layout None node = MayBeLoose node
MayStand layout (Some place) node = IsPlaceFor layout place node × IsApart layout node

-- a node that stands nowhere may be put directly after a place; or, without one, stay loose
abbrev pub Suits : TableLayout → NodeId → Option Place → Type 0
Suits layout node to = (it : Content) × (content_of layout node ≡ Some it) × MayStand layout to it

-- a node goes from one place to another, or from and to standing nowhere
pub record CanGo (layout : TableLayout) (node : NodeId) (from to : Option Place) : Type 0 where
  pub stands : IsAt layout node from
  pub here : Suits (without_link layout node) node from
  pub there : Suits (without_link layout node) node to
