-- What stands in the rings of a table's body is what walks meet there.
use Rattle.std.proofs.Common.{◌≡◌, ◌≤◌, ◌<◌, ◌-◌, ◌∙◌, ◌++◌, ℕ, suc, true, List, [], ◌∷◌, Option, Some, length, All, ap, subst, arith}
use Rattle.std.specs.List.{flat_map}
use Rattle.std.proofs.lemmas.List.Elements.{All-head, All-tail}
use Rattle.coll_order.specs.Lists.{has_node}
use Rattle.coll_order.specs.declared.places.NodeId.{NodeId}
use Rattle.coll_order.specs.declared.places.RingId.{RingId}
use Rattle.coll_order.proofs.ListLemmas.{or_first, or_second}
use Rattle.coll_order.proofs.Sameness.{same_node_itself}
use Rattle.coll_nodes.specs.SoundBodies.{IsShaped, IsDeclaration, IsSection, IsEntry, HaveNames, FirstAloneUnnamed, ring_at}
use Rattle.coll_nodes.specs.Table.{Section}
use Rattle.coll_nodes.specs.TableLayout.{TableLayout, content_of, nodes_in, entries_in, section_in, if_any, sections_at}
use Rattle.coll_nodes.specs.WellFormed.{IsNamed, FirstIsUnnamed}
use Rattle.coll_nodes.specs.WalkStates.{AreDeclared, ArePlaced, AreNamed, AreSections, HasSections, HasDeclarations, contents_of}
use Rattle.coll_nodes.specs.declared.contents.Content.TheVariants.{Begun}
use Rattle.coll_nodes.proofs.LayoutReads.{declaration_is, entry_is, section_is}

-- each node of a list, one after another
pub members : {P : NodeId → Type 0} (node : NodeId) (nodes : List NodeId) → ((other : NodeId) → has_node (node ∷ nodes) other ≡ true → P other)
    → P node × ((other : NodeId) → has_node nodes other ≡ true → P other)
members node nodes each = (each node (or_first _ _ (same_node_itself node)), λ other there. each other (or_second _ _ there))

-- names that are proper are names
have_names : (sections : List Section) → All IsNamed sections → HaveNames sections
have_names [] named = tt
have_names (section ∷ later) named = let here = All-head IsNamed section later named in ((here.0, here.1), have_names later (All-tail IsNamed section later named))

-- the first section of a table alone has no name
pub first_alone : (sections : List Section) → FirstIsUnnamed sections → FirstAloneUnnamed sections
first_alone [] unnamed = unnamed
first_alone (first ∷ later) unnamed = (unnamed.0, have_names later unnamed.1)

module _ (layout : TableLayout) where
  are_declared : (nodes : List NodeId) → ((node : NodeId) → has_node nodes node ≡ true → IsDeclaration (content_of layout node)) → AreDeclared layout nodes
  are_declared [] each = tt
  are_declared (node ∷ nodes) each =
      let parts = members {P = λ n. IsDeclaration (content_of layout n)} node nodes each in
      (declaration_is (content_of layout node) parts.0, are_declared nodes parts.1)

  are_placed : (nodes : List NodeId) → ((node : NodeId) → has_node nodes node ≡ true → IsEntry (content_of layout node)) → ArePlaced layout nodes
  are_placed [] each = tt
  are_placed (node ∷ nodes) each =
      let parts = members {P = λ n. IsEntry (content_of layout n)} node nodes each in
      (entry_is (content_of layout node) parts.0, are_placed nodes parts.1)

  module _ (shaped : IsShaped layout) where
    -- a section's ring has entries
    entries_placed : (index : ℕ) → 2 ≤ index → ArePlaced layout (ring_at layout index)
    entries_placed index far =
        let further : suc (suc (index - 2)) ≡ index = omega (arith, far) in
        subst (λ i. ArePlaced layout (ring_at layout i)) further (are_placed (ring_at layout (suc (suc (index - 2)))) (λ node there. (shaped.placed (index - 2) node there).0))

    -- a node that is a section, and the section that it is
    section_node : (node : NodeId) → IsSection (length layout.rings) (content_of layout node)
        → (name : Option (List ℕ)) × (ring : RingId) × (content_of layout node ≡ Some (Begun name ring)) × (ring.index < length layout.rings) × ArePlaced layout (nodes_in layout ring)
    section_node node is = let known = section_is (length layout.rings) (content_of layout node) is in (known.0, known.1, known.2, known.4, entries_placed known.1.index known.3)

    are_named : (nodes : List NodeId) → ((node : NodeId) → has_node nodes node ≡ true → IsSection (length layout.rings) (content_of layout node))
        → HaveNames (flat_map (section_in layout) (contents_of layout nodes)) → AreNamed layout nodes
    are_named [] each named = tt
    are_named (node ∷ nodes) each named =
        let parts = members {P = λ n. IsSection (length layout.rings) (content_of layout n)} node nodes each in
        let is = section_node node parts.0 in
        let later = flat_map (section_in layout) (contents_of layout nodes) in
        let first : Section = record { name = is.0; entries = entries_in layout is.1 } in
        let both : HaveNames (first ∷ later) = subst (λ content. HaveNames (flat_map (section_in layout) (if_any content ++ contents_of layout nodes))) is.2 named in
        let name = both.0 in
        ((name.0, (is.1, is.2 ∙ ap (λ n. Some (Begun n is.1)) name.1, is.3, is.4)), are_named nodes parts.1 both.1)

    are_sections : (nodes : List NodeId) → ((node : NodeId) → has_node nodes node ≡ true → IsSection (length layout.rings) (content_of layout node))
        → FirstAloneUnnamed (flat_map (section_in layout) (contents_of layout nodes)) → AreSections layout nodes
    are_sections [] each unnamed = unnamed
    are_sections (node ∷ nodes) each unnamed =
        let parts = members {P = λ n. IsSection (length layout.rings) (content_of layout n)} node nodes each in
        let is = section_node node parts.0 in
        let later = flat_map (section_in layout) (contents_of layout nodes) in
        let first : Section = record { name = is.0; entries = entries_in layout is.1 } in
        let both : FirstAloneUnnamed (first ∷ later) = subst (λ content. FirstAloneUnnamed (flat_map (section_in layout) (if_any content ++ contents_of layout nodes))) is.2 unnamed in
        ((is.1, is.2 ∙ ap (λ n. Some (Begun n is.1)) both.0, is.3, is.4), are_named nodes parts.1 both.1)

    -- a table's body has declarations
    pub has_declarations : HasDeclarations layout
    has_declarations = record { ring = omega (arith, shaped.two); declared = are_declared (ring_at layout 0) shaped.declared }

    -- and sections, where the first has no name and the others have
    pub has_sections : FirstAloneUnnamed (sections_at layout) → HasSections layout
    unfolding sections_at
    has_sections unnamed = record { ring = omega (arith, shaped.two); sections = are_sections (ring_at layout 1) shaped.begun unnamed }
