-- Nodes in rings, and what each node is: how a layout is read from the tags of nodes, and what each call makes of it.
use Rattle.std.specs.Prelude.{◌≡◌, ℕ, ◌<◌, true, false, cond, List, [], ◌∷◌, ◌++◌, Option, Some, None, IsSome, length, slice_index_or}
use Rattle.std.specs.Ordering.{nat_cmp}
use Rattle.std.specs.FinMap as finmap
use Rattle.coll_order.specs.Layout.{Layout, is_in, rings_with, rings_without}
use Rattle.coll_order.specs.Lists.{same_node}
use Rattle.coll_order.specs.Sound.{StandOnce}
use Rattle.coll_order.specs.declared.places.NodeId.{NodeId}
use Rattle.coll_order.specs.declared.places.RingId.{RingId}
use Rattle.coll_order.specs.declared.places.Place.{Place}
use Rattle.coll_order.specs.declared.places.Place.TheVariants.{Head, After}
use Rattle.coll_nodes.specs.declared.contents.Content.{Content}
use Rattle.coll_nodes.specs.declared.contents.Content.TheVariants as content
use Rattle.coll_syntax.specs.declared.rules.Rule.{Rule}
use Rattle.coll_nodes.specs.TableLayout.{TableLayout, TableValue, MadeNode, content_of}

-- the body of a table as contracts see it: its layout, and the number of ring steps taken
pub record BodyValue : Type 0 where
  pub layout : TableLayout
  pub steps : ℕ

-- no rings, no nodes, and no step taken
abbrev pub empty_body : BodyValue
empty_body = record { layout = record { rings = []; nodes = [] }; steps = 0 }

-- the content of a tag
abbrev pub slot_of : List (Option Content) → (tag : ℕ) → Option Content
slot_of slots tag = slice_index_or slots tag None

-- the node of a key, if it has a content
abbrev pub made_with : (key : ℕ) → Option Content → List MadeNode
made_with key None = []
made_with key (Some content) = record { node = record { key = key }; content = content } ∷ []

-- the nodes with these keys and tags
abbrev pub made_from : List (Option Content) → List (ℕ × ℕ) → List MadeNode
made_from slots [] = []
made_from slots (tag ∷ tags) = made_with tag.0 (slot_of slots tag.1) ++ made_from slots tags

-- the layout of rings and of the contents of their nodes, which stand in the order of their keys
abbrev pub layout_with : Layout → List (Option Content) → TableLayout
layout_with layout slots = record { rings = layout.rings; nodes = made_from slots (finmap.entries layout.tags) }

-- each node's tag has a content, no tag is that of two nodes, and each content is that of a node
pub record AreMade (tags : finmap.FinMap nat_cmp ℕ) (slots : List (Option Content)) : Type 0 where
  pub lead : (key tag : ℕ) → finmap.get tags key ≡ Some tag → IsSome (slot_of slots tag)
  pub once : (a b tag : ℕ) → finmap.get tags a ≡ Some tag → finmap.get tags b ≡ Some tag → a ≡ b
  pub owned : (tag : ℕ) → IsSome (slot_of slots tag) → (key : ℕ) × (finmap.get tags key ≡ Some tag)

-- a node is there, and stands in no ring
pub record IsLooseNode (layout : TableLayout) (node : NodeId) : Type 0 where
  pub made : IsSome (content_of layout node)
  pub apart : is_in layout.rings node ≡ false

-- a node may be put after a place: the head of a ring that is there, or a node of a ring
abbrev pub IsPlaceAmong : List (List NodeId) → Place → Type 0
IsPlaceAmong rings (Head ring) = ring.index < length rings
IsPlaceAmong rings (After node) = is_in rings node ≡ true

-- no node stands twice, and each that stands in a ring is there
pub record IsLaidOut (layout : TableLayout) : Type 0 where
  pub once : StandOnce layout.rings
  pub made : (node : NodeId) → is_in layout.rings node ≡ true → IsSome (content_of layout node)

-- a node that was not there has a content now, and all others have theirs
pub record Makes (old new : TableLayout) (node : NodeId) (content : Content) : Type 0 where
  pub fresh : content_of old node ≡ None
  pub contents : (other : NodeId) → content_of new other ≡ cond (same_node other node) (Some content) (content_of old other)

-- a section's node that was not there is made, and a ring of no nodes for its entries
pub record MakesSection (old new : TableLayout) (name : Option (List ℕ)) (made : NodeId × RingId) : Type 0 where
  pub node : Makes old new made.0 (content.Begun name made.1)
  pub apart : is_in old.rings made.0 ≡ false
  pub ring : made.1.index ≡ length old.rings
  pub rings : new.rings ≡ old.rings ++ [] ∷ []

-- a layout with a node put directly after a place
abbrev pub with_link : TableLayout → NodeId → Place → TableLayout
with_link layout node place = record layout { rings = rings_with place node 0 layout.rings }

-- a layout with a node taken out of its ring
abbrev pub without_link : TableLayout → NodeId → TableLayout
without_link layout node = record layout { rings = rings_without node layout.rings }

-- a table of these rules and this body
abbrev pub value_of : List Rule → BodyValue → TableValue
value_of rules body = record { rules = rules; layout = body.layout; steps = body.steps }
