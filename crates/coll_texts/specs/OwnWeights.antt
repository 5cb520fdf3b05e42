-- Weights that are exchanged for those by own names, one entry's node after another.
use Rattle.std.specs.Prelude.{◌≡◌, ℕ, Bool, true, false, List, [], ◌∷◌, Option, Some, All}
use Rattle.std.specs.List.{list_any}
use Rattle.coll_order.specs.Layout.{is_in}
use Rattle.coll_order.specs.Lists.{same_node}
use Rattle.coll_order.specs.declared.places.NodeId.{NodeId}
use Rattle.coll_order.specs.declared.places.RingId.{RingId}
use Rattle.coll_nodes.specs.Moving.{weighed_nodes}
use Rattle.coll_nodes.specs.OwnNames.{own_weights, own_entry, own_sections}
use Rattle.coll_nodes.specs.TableLayout.{TableLayout, MadeNode, content_of, declared_at, sections_at}
use Rattle.coll_nodes.specs.declared.contents.Content.TheVariants as content
use Rattle.coll_nodes.specs.declared.declarations.Declaration.{Declaration}
use Rattle.coll_nodes.specs.declared.declarations.Declaration.TheVariants.{Symbol, Element, Equivalence}
use Rattle.coll_nodes.specs.declared.entries.Entry.{Entry}
use Rattle.coll_texts.specs.declared.own_weights.Change.{Change}

-- a declaration is of a second name
abbrev pub is_equivalence : Declaration → Bool
is_equivalence (Symbol name) = false
is_equivalence (Element name text) = false
is_equivalence (Equivalence name symbol) = true

-- the same stands where it stood and is declared, and the sections are what they were, with the weights of their entries by
-- own names
pub record HasOwnWeights (old new : TableLayout) : Type 0 where
  pub rings : new.rings ≡ old.rings
  pub begun : (node : NodeId) (name : Option (List ℕ)) (ring : RingId) → is_in old.rings node ≡ true
      → content_of old node ≡ Some (content.Begun name ring) → content_of new node ≡ Some (content.Begun name ring)
  pub declared : declared_at new ≡ declared_at old
  pub sections : sections_at new ≡ own_sections (declared_at old) (sections_at old)

-- a node that stands in a ring is this entry
abbrev pub StandsIn : TableLayout → Entry → Type 0
StandsIn layout entry = (node : NodeId) × (is_in layout.rings node ≡ true) × (content_of layout node ≡ Some (content.Placed entry))

-- the node of an entry, which stands in a ring, and the entry's weights by own names
pub record IsChangeOf (layout : TableLayout) (entry : Entry) (change : Change) : Type 0 where
  pub stands : is_in layout.rings change.node ≡ true
  pub is : content_of layout change.node ≡ Some (content.Placed entry)
  pub own : change.weights ≡ own_weights (declared_at layout) entry.weights

-- the node of some entry, and that entry's weights by own names
abbrev pub IsChange : TableLayout → Change → Type 0
IsChange layout change = (entry : Entry) × IsChangeOf layout entry change

-- one of these changes is of a node
abbrev pub is_changed : List Change → NodeId → Bool
is_changed changes node = list_any (λ (change : Change). same_node node change.node) changes

-- these changes give all entries their weights by own names: an entry without a change has them
pub record AreChanges (layout : TableLayout) (changes : List Change) : Type 0 where
  pub each : All (IsChange layout) changes
  pub others : (node : NodeId) (entry : Entry) → is_in layout.rings node ≡ true → content_of layout node ≡ Some (content.Placed entry)
      → is_changed changes node ≡ false → own_entry (declared_at layout) entry ≡ entry

-- nodes, with other weights for some of them, one after another
abbrev pub changed_nodes : List Change → List MadeNode → List MadeNode
changed_nodes [] nodes = nodes
changed_nodes (first ∷ later) nodes = changed_nodes later (weighed_nodes first.node (Some first.weights) nodes)
