-- Walks: what is left of a ring from a node on, and what a step leaves.
use Rattle.std.proofs.Common.{◌≡◌, ◌<◌, ℕ, suc, Bool, true, false, ◌||◌, cond, List, [], ◌∷◌, ◌++◌, Option, Some, None, length, map, sym, ap, subst, ◌∙◌, refl, arith}
use Rattle.std.specs.List.{flat_map}
use Rattle.std.specs.Iterator.{MakesProgress, item_count}
use Rattle.std.proofs.lemmas.List.{append_assoc}
use Rattle.coll_order.specs.Lists.{same_node, has_node, first_in}
use Rattle.coll_order.specs.Layout.{is_in}
use Rattle.coll_order.specs.Sound.{AreDistinct}
use Rattle.coll_order.specs.declared.places.NodeId.{NodeId}
use Rattle.coll_order.specs.declared.places.RingId.{RingId}
use Rattle.coll_order.proofs.ListLemmas.{neither}
use Rattle.coll_order.proofs.Sameness.{by_test, not_both, same_node_is, same_node_itself, other_node_turned}
use Rattle.coll_order.proofs.RingLemmas.{distinct_ring, is_in_ring}
use Rattle.coll_nodes.specs.Bodies.{IsLaidOut}
use Rattle.coll_nodes.specs.TableLayout.{TableLayout, content_of, nodes_in, entries_in, sections_ring, declarations_ring, sections_at, declared_at, entry_in, section_in, declaration_in, if_any}
use Rattle.coll_nodes.specs.Walks.{VisitedSection, VisitedEntry, visited}
use Rattle.coll_nodes.specs.WalkStates.{ComesNext, from_node, left_of, StandsIfAny, AreDeclared, ArePlaced, AreNamed, AreSections, IsSectionNode}
use Rattle.coll_nodes.specs.WalkStates.{HasSections, HasDeclarations, contents_of, visited_left, IsOnWay, declared_left, IsOnWayDeclared}
use Rattle.coll_nodes.specs.declared.declarations.Declaration.{Declaration}
use Rattle.coll_nodes.specs.declared.entries.Entry.{Entry}
use Rattle.coll_nodes.specs.declared.contents.Content.TheVariants.{Declared, Begun, Placed}

-- a list is cut at a node of it
pub cut_at : (nodes : List NodeId) (node : NodeId) → has_node nodes node ≡ true → (prefix : List NodeId) × (rest : List NodeId) × (nodes ≡ prefix ++ node ∷ rest) × (from_node nodes node ≡ node ∷ rest)
cut_at [] node there = not_both there refl
cut_at (first ∷ nodes) node there =
    by_test (λ b. same_node node first ≡ b → (prefix : List NodeId) × (rest : List NodeId) × (first ∷ nodes ≡ prefix ++ node ∷ rest) × (cond b (first ∷ nodes) (from_node nodes node) ≡ node ∷ rest))
    (same_node node first)
    (λ on e. let same = ap (λ n. n ∷ nodes) (sym (same_node_is node first on)) in ([], nodes, same, same))
    (λ off e. let later = cut_at nodes node (sym (ap (λ b. b || has_node nodes node) off) ∙ there) in
    (first ∷ later.0, later.1, ap (λ ns. first ∷ ns) later.2, later.3)) refl

-- from a node on, a list in which each stands once has it and what follows it
pub from_here : (prefix rest : List NodeId) (node : NodeId) → AreDistinct (prefix ++ node ∷ rest) → from_node (prefix ++ node ∷ rest) node ≡ node ∷ rest
from_here [] rest node d = ap (λ b. cond b (node ∷ rest) (from_node rest node)) (same_node_itself node)
from_here (first ∷ prefix) rest node d =
    ap (λ b. cond b (first ∷ (prefix ++ node ∷ rest)) (from_node (prefix ++ node ∷ rest) node)) (other_node_turned first node (apart prefix d.0)) ∙ from_here prefix rest node d.1 where
      apart : (prefix : List NodeId) → has_node (prefix ++ node ∷ rest) first ≡ false → same_node first node ≡ false
      apart [] e = (neither (same_node first node) _ e).0
      apart (x ∷ prefix) e = apart prefix (neither (same_node first x) _ e).1

-- a list has what stands between two parts of it
has_here : (prefix rest : List NodeId) (node : NodeId) → has_node (prefix ++ node ∷ rest) node ≡ true
has_here [] rest node = ap (λ b. b || has_node rest node) (same_node_itself node)
has_here (first ∷ prefix) rest node = either (same_node node first) _ (has_here prefix rest node) where
  either : (a b : Bool) → b ≡ true → (a || b) ≡ true
  either true b e = refl
  either false b e = e

-- of a whole ring all nodes are left
pub left_first : (layout : TableLayout) (ring : RingId) → left_of layout ring (first_in (nodes_in layout ring)) ≡ nodes_in layout ring
left_first layout ring = whole (nodes_in layout ring) where
  whole : (nodes : List NodeId) → left_of (record layout { rings = nodes ∷ [] }) (record { index = 0 }) (first_in nodes) ≡ nodes
  whole [] = refl
  whole (first ∷ nodes) = ap (λ b. cond b (first ∷ nodes) (from_node nodes first)) (same_node_itself first)

pub stands_first : (layout : TableLayout) (ring : RingId) → StandsIfAny layout ring (first_in (nodes_in layout ring))
stands_first layout ring = whole (nodes_in layout ring) where
  whole : (nodes : List NodeId) → StandsIfAny (record layout { rings = nodes ∷ [] }) (record { index = 0 }) (first_in nodes)
  whole [] = tt
  whole (first ∷ nodes) = ap (λ b. b || has_node nodes first) (same_node_itself first)

-- a node that stands in a ring is linked
pub stands_linked : (layout : TableLayout) (ring : RingId) (node : NodeId) → has_node (nodes_in layout ring) node ≡ true → is_in layout.rings node ≡ true
stands_linked layout ring node there = is_in_ring layout.rings ring.index node there

module _ (layout : TableLayout) (ring : RingId) (node : NodeId) (next : Option NodeId) (laid : IsLaidOut layout) (there : has_node (nodes_in layout ring) node ≡ true)
    (comes : ComesNext layout.rings node next) where
  -- what is left from a node on is the node, and what is left from the next on
  pub left_next : left_of layout ring (Some node) ≡ node ∷ left_of layout ring next
  left_next =
      let cut = cut_at (nodes_in layout ring) node there in
      cut.3 ∙ ap (λ rest. node ∷ rest) (sym (ap (left_of layout ring) (comes ring.index cut.0 cut.1 cut.2) ∙ behind cut.0 cut.1 cut.2)) where
        behind : (prefix rest : List NodeId) → nodes_in layout ring ≡ prefix ++ node ∷ rest → left_of layout ring (first_in rest) ≡ rest
        behind prefix [] e = refl
        behind prefix (first ∷ rest) e =
            let whole : nodes_in layout ring ≡ (prefix ++ node ∷ []) ++ first ∷ rest = e ∙ sym (append_assoc prefix (node ∷ []) (first ∷ rest)) in
            ap (λ nodes. from_node nodes first) whole ∙ from_here (prefix ++ node ∷ []) rest first (subst AreDistinct whole (distinct_ring layout.rings ring.index laid.once))

  -- and the next stands there too
  pub stands_next : StandsIfAny layout ring next
  stands_next =
      let cut = cut_at (nodes_in layout ring) node there in
      subst (StandsIfAny layout ring) (sym (comes ring.index cut.0 cut.1 cut.2)) (behind cut.0 cut.1 cut.2) where
        behind : (prefix rest : List NodeId) → nodes_in layout ring ≡ prefix ++ node ∷ rest → StandsIfAny layout ring (first_in rest)
        behind prefix [] e = tt
        behind prefix (first ∷ rest) e =
            let whole : nodes_in layout ring ≡ (prefix ++ node ∷ []) ++ first ∷ rest = e ∙ sym (append_assoc prefix (node ∷ []) (first ∷ rest)) in
            ap (λ nodes. has_node nodes first) whole ∙ has_here (prefix ++ node ∷ []) rest first

-- behind a step fewer are left
pub fewer_left : (layout : TableLayout) (ring : RingId) (left : Option NodeId) (node : NodeId) (next : Option NodeId) → IsLaidOut layout → left ≡ Some node → StandsIfAny layout ring left
    → ComesNext layout.rings node next → length (left_of layout ring next) < length (left_of layout ring left)
fewer_left layout ring left node next laid is stands comes =
    let there : has_node (nodes_in layout ring) node ≡ true = subst (StandsIfAny layout ring) is stands in
    let more : length (left_of layout ring left) ≡ suc (length (left_of layout ring next)) = ap length (ap (left_of layout ring) is ∙ left_next layout ring node next laid there comes) in
    omega (arith, more)

module _ (layout : TableLayout) (ring : RingId) (node : NodeId) where
  module _ (section : Option NodeId) (on : IsOnWay layout ring (Some node) section) where
    -- the next entry is one
    pub entry_is : (entry : Entry) × (content_of layout node ≡ Some (Placed entry))
    entry_is = let cut = cut_at (nodes_in layout ring) node on.entry_there in (subst (ArePlaced layout) cut.3 on.entries).0

    module _ (next : Option NodeId) (comes : ComesNext layout.rings node next) where
      -- behind an entry a walk goes on in its ring
      pub on_entry : IsOnWay layout ring next section
      on_entry = record {
        laid = on.laid;
        entry_there = stands_next layout ring node next on.laid on.entry_there comes;
        section_there = on.section_there;
        entries = (subst (ArePlaced layout) (left_next layout ring node next on.laid on.entry_there comes) on.entries).1;
        sections = on.sections;
      }

      -- and met is the entry
      pub visited_entry : (entry : Entry) → content_of layout node ≡ Some (Placed entry) → visited_left layout ring (Some node) section ≡ VisitedEntry entry ∷ visited_left layout ring next section
      visited_entry entry is =
          let sections = visited (flat_map (section_in layout) (contents_of layout (left_of layout sections_ring section))) in
          ap (λ nodes. map VisitedEntry (flat_map entry_in (contents_of layout nodes)) ++ sections) (left_next layout ring node next on.laid on.entry_there comes)
          ∙ ap (λ content. map VisitedEntry (flat_map entry_in (if_any content ++ contents_of layout (left_of layout ring next))) ++ sections) is

-- two readings of one node agree
same_ring : (layout : TableLayout) (node : NodeId) (a b : Option (List ℕ)) (p q : RingId) → content_of layout node ≡ Some (Begun a p) → content_of layout node ≡ Some (Begun b q) → q ≡ p
same_ring layout node a b p q e f = ring_in (sym f ∙ e) where
  ring_in : Some (Begun b q) ≡ Some (Begun a p) → q ≡ p
  ring_in e = cc

-- the section that a node is, and its entries
section_visited : (layout : TableLayout) (node : NodeId) (nodes : List NodeId) (name : Option (List ℕ)) (ring : RingId) → content_of layout node ≡ Some (Begun name ring)
    → flat_map (section_in layout) (contents_of layout (node ∷ nodes)) ≡ record { name = name; entries = entries_in layout ring } ∷ flat_map (section_in layout) (contents_of layout nodes)
section_visited layout node nodes name ring is = ap (λ content. flat_map (section_in layout) (if_any content ++ contents_of layout nodes)) is

module _ (layout : TableLayout) (ring : RingId) (node : NodeId) (on : IsOnWay layout ring None (Some node)) where
  -- the next section is one
  pub section_is : (name : List ℕ) × IsSectionNode layout node (Some name)
  section_is = let cut = cut_at (nodes_in layout sections_ring) node on.section_there in (subst (AreNamed layout) cut.3 on.sections).0

  module _ (name : List ℕ) (entries : RingId) (is : content_of layout node ≡ Some (Begun (Some name) entries)) where
    -- its ring is one
    pub ring_is : entries.index < length layout.rings
    ring_is = subst (λ r. r.index < length layout.rings) (same_ring layout node _ _ _ _ is section_is.1.1) section_is.1.2

    module _ (next : Option NodeId) (comes : ComesNext layout.rings node next) (first : Option NodeId) (begins : first ≡ first_in (nodes_in layout entries)) where
      -- behind the name of a section a walk goes on with its entries
      pub on_section : IsOnWay layout entries first next
      on_section = record {
        laid = on.laid;
        entry_there = subst (StandsIfAny layout entries) (sym begins) (stands_first layout entries);
        section_there = stands_next layout sections_ring node next on.laid on.section_there comes;
        entries = subst (ArePlaced layout) (sym (ap (left_of layout entries) begins ∙ left_first layout entries))
            (subst (λ r. ArePlaced layout (nodes_in layout r)) (same_ring layout node _ _ _ _ is section_is.1.1) section_is.1.3);
        sections = (subst (AreNamed layout) (left_next layout sections_ring node next on.laid on.section_there comes) on.sections).1;
      }

      -- and met is the name
      pub visited_section : visited_left layout ring None (Some node) ≡ VisitedSection name ∷ visited_left layout entries first next
      visited_section =
          ap (λ nodes. visited (flat_map (section_in layout) (contents_of layout nodes))) (left_next layout sections_ring node next on.laid on.section_there comes)
          ∙ (ap visited (section_visited layout node (left_of layout sections_ring next) (Some name) entries is)
          ∙ ap (λ nodes. VisitedSection name
          ∷ (map VisitedEntry (flat_map entry_in (contents_of layout nodes)) ++ visited (flat_map (section_in layout) (contents_of layout (left_of layout sections_ring next)))))
          (sym (ap (left_of layout entries) begins ∙ left_first layout entries)))

module _ (layout : TableLayout) (laid : IsLaidOut layout) (has : HasSections layout) (node : NodeId) (stands : first_in (nodes_in layout sections_ring) ≡ Some node) where
  -- the first section stands in its ring
  first_there : has_node (nodes_in layout sections_ring) node ≡ true
  first_there = subst (StandsIfAny layout sections_ring) stands (stands_first layout sections_ring)

  first_left : left_of layout sections_ring (Some node) ≡ nodes_in layout sections_ring
  first_left = sym (ap (left_of layout sections_ring) stands) ∙ left_first layout sections_ring

  module _ (entries : RingId) (is : content_of layout node ≡ Some (Begun None entries)) (next : Option NodeId) (comes : ComesNext layout.rings node next) (first : Option NodeId)
      (begins : first ≡ first_in (nodes_in layout entries)) where
    -- all sections: the first, and those behind it
    all_sections : nodes_in layout sections_ring ≡ node ∷ left_of layout sections_ring next
    all_sections = sym first_left ∙ left_next layout sections_ring node next laid first_there comes

    -- a walk begins in the first section
    pub on_first : IsOnWay layout entries first next
    on_first =
        let sections : AreSections layout (node ∷ left_of layout sections_ring next) = subst (AreSections layout) all_sections has.sections in
        record {
          laid = laid;
          entry_there = subst (StandsIfAny layout entries) (sym begins) (stands_first layout entries);
          section_there = stands_next layout sections_ring node next laid first_there comes;
          entries = subst (ArePlaced layout) (sym (ap (left_of layout entries) begins ∙ left_first layout entries))
              (subst (λ r. ArePlaced layout (nodes_in layout r)) (same_ring layout node _ _ _ _ is sections.0.1) sections.0.3);
          sections = sections.1;
        }

    -- and meets all sections
    pub visited_first : visited_left layout entries first next ≡ visited (sections_at layout)
    unfolding sections_at
    visited_first =
        ap (λ nodes. map VisitedEntry (flat_map entry_in (contents_of layout nodes)) ++ visited (flat_map (section_in layout) (contents_of layout (left_of layout sections_ring next))))
        (ap (left_of layout entries) begins ∙ left_first layout entries)
        ∙ sym (ap (λ nodes. visited (flat_map (section_in layout) (contents_of layout nodes))) all_sections
        ∙ ap visited (section_visited layout node (left_of layout sections_ring next) None entries is))

module _ (layout : TableLayout) (node : NodeId) (on : IsOnWayDeclared layout (Some node)) where
  -- the next declaration is one
  pub declaration_is : (declaration : Declaration) × (content_of layout node ≡ Some (Declared declaration))
  declaration_is = let cut = cut_at (nodes_in layout declarations_ring) node on.there in (subst (AreDeclared layout) cut.3 on.declared).0

  module _ (next : Option NodeId) (comes : ComesNext layout.rings node next) where
    pub on_declared : IsOnWayDeclared layout next
    on_declared = record {
      laid = on.laid;
      there = stands_next layout declarations_ring node next on.laid on.there comes;
      declared = (subst (AreDeclared layout) (left_next layout declarations_ring node next on.laid on.there comes) on.declared).1;
    }

    pub visited_declared : (declaration : Declaration) → content_of layout node ≡ Some (Declared declaration) → declared_left layout (Some node) ≡ declaration ∷ declared_left layout next
    visited_declared declaration is =
        ap (λ nodes. flat_map declaration_in (contents_of layout nodes)) (left_next layout declarations_ring node next on.laid on.there comes)
        ∙ ap (λ content. flat_map declaration_in (if_any content ++ contents_of layout (left_of layout declarations_ring next))) is

-- a walk through declarations begins with the first
module _ (layout : TableLayout) (next : Option NodeId) (begins : next ≡ first_in (nodes_in layout declarations_ring)) where
  pub on_first_declared : IsLaidOut layout → HasDeclarations layout → IsOnWayDeclared layout next
  on_first_declared laid has = record {
    laid = laid;
    there = subst (StandsIfAny layout declarations_ring) (sym begins) (stands_first layout declarations_ring);
    declared = subst (AreDeclared layout) (sym (ap (left_of layout declarations_ring) begins ∙ left_first layout declarations_ring)) has.declared;
  }

  pub visited_first_declared : declared_left layout next ≡ declared_at layout
  unfolding declared_at
  visited_first_declared = ap (λ nodes. flat_map declaration_in (contents_of layout nodes)) (ap (left_of layout declarations_ring) begins ∙ left_first layout declarations_ring)

-- a call that gives one item leaves fewer
pub goes_on : {A B : Type 0} (r : A) (s t : List B) (x : B) → s ≡ x ∷ t → MakesProgress (λ _. Unit {0}) (item_count (λ left. left)) s (Some r) t
goes_on r s t x e = let shorter = ap length e in record { on = λ _. (tt, tt, omega (arith, shorter)); keeps = tt; rests = λ _. tt }

-- a walk stands at the node that it has
pub at_entry : (layout : TableLayout) (ring : RingId) (entry section : Option NodeId) (node : NodeId) → entry ≡ Some node → IsOnWay layout ring entry section → IsOnWay layout ring (Some node) section
at_entry layout ring entry section node e on = subst (λ entry. IsOnWay layout ring entry section) e on

pub at_section : (layout : TableLayout) (ring : RingId) (entry section : Option NodeId) (node : NodeId) → entry ≡ None → section ≡ Some node → IsOnWay layout ring entry section
    → IsOnWay layout ring None (Some node)
at_section layout ring entry section node e f on = subst (λ section. IsOnWay layout ring None section) f (subst (λ entry. IsOnWay layout ring entry section) e on)

pub at_declaration : (layout : TableLayout) (next : Option NodeId) (node : NodeId) → next ≡ Some node → IsOnWayDeclared layout next → IsOnWayDeclared layout (Some node)
at_declaration layout next node e on = subst (IsOnWayDeclared layout) e on
