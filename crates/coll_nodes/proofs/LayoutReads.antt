-- A table read from a layout: its lists, one node after the other, and where the nodes with a key stand.
use Rattle.std.proofs.Common.{◌≡◌, ℕ, zero, suc, ◌<◌, ◌≤◌, Bool, true, false, ◌&&◌, ◌||◌, is_some, List, [], ◌∷◌, Option, Some, None, length, map, flat_map, sym, ap, subst, ◌∙◌, refl}
use Rattle.std.specs.List.{list_any}
use Rattle.std.proofs.lemmas.List.{append-nil}
use Rattle.std.proofs.lemmas.Bool.Decides.{Decides-eqb}
use Rattle.coll_order.specs.Layout.{is_in}
use Rattle.coll_order.specs.Lists.{has_node}
use Rattle.coll_order.specs.declared.places.NodeId.{NodeId}
use Rattle.coll_order.specs.declared.places.RingId.{RingId}
use Rattle.coll_order.proofs.Sameness.{by_test, not_both}
use Rattle.coll_order.proofs.RingLemmas.{in_some, is_in_ring}
use Rattle.coll_nodes.specs.SoundBodies.{read_at, ring_at, has_key, rings_in, same_ring, names_in, texts_in, section_names_in, IsDeclaration, IsSection, IsEntry, IsOwned, IsShaped, Finds}
use Rattle.coll_nodes.specs.Table.{Section, names_of, texts_of, section_names, joined_entries, name_of, text_of, named}
use Rattle.coll_nodes.specs.TableLayout.{TableLayout, content_of, if_any, declaration_in, entry_in, section_in, entries_in, declared_at, sections_at}
use Rattle.coll_nodes.specs.declared.contents.Content.{Content}
use Rattle.coll_nodes.specs.declared.contents.Content.TheVariants as content
use Rattle.coll_nodes.specs.declared.declarations.Declaration.{Declaration}
use Rattle.coll_nodes.specs.declared.entries.Entry.{Entry}
use Rattle.coll_nodes.proofs.NodeLists.{read_twice, map_read, same_read, any_from, any_to}

-- a node that is a section is one
pub section_is : (rings : ℕ) (found : Option Content) → IsSection rings found
    → (name : Option (List ℕ)) × (ring : RingId) × (found ≡ Some (content.Begun name ring)) × (2 ≤ ring.index) × (ring.index < rings)
section_is rings None is = absurd is
section_is rings (Some (content.Declared declaration)) is = absurd is
section_is rings (Some (content.Begun name ring)) is = (name, ring, refl, is.0, is.1)
section_is rings (Some (content.Placed entry)) is = absurd is

-- a node that is an entry is one
pub entry_is : (found : Option Content) → IsEntry found → (entry : Entry) × (found ≡ Some (content.Placed entry))
entry_is None is = absurd is
entry_is (Some (content.Declared declaration)) is = absurd is
entry_is (Some (content.Begun name ring)) is = absurd is
entry_is (Some (content.Placed entry)) is = (entry, refl)

-- a node that is a declaration is one
pub declaration_is : (found : Option Content) → IsDeclaration found → (declaration : Declaration) × (found ≡ Some (content.Declared declaration))
declaration_is None is = absurd is
declaration_is (Some (content.Declared declaration)) is = (declaration, refl)
declaration_is (Some (content.Begun name ring)) is = absurd is
declaration_is (Some (content.Placed entry)) is = absurd is

-- each of two tests that are true together is true
pub both_true : (a b : Bool) → (a && b) ≡ true → (a ≡ true) × (b ≡ true)
both_true true b e = (refl, e)
both_true false b e = not_both e refl

-- two tests that are true are true together
pub and_true : {a b : Bool} → a ≡ true → b ≡ true → (a && b) ≡ true
and_true p q = rw p q

-- what is read of a node that one knows
pub read_known : {X : Type 0} (keys : Content → List X) (layout : TableLayout) (node : NodeId) (node_content : Content) → content_of layout node ≡ Some node_content
    → read_at keys layout node ≡ keys node_content
read_known keys layout node node_content is = ap (λ found. flat_map keys (if_any found)) is ∙ append-nil (keys node_content)

module _ (layout : TableLayout) where
  -- the declarations, one node after the other
  pub declared_read : declared_at layout ≡ flat_map (read_at declaration_in layout) (ring_at layout 0)
  unfolding declared_at
  declared_read = read_twice declaration_in (λ node. if_any (content_of layout node)) (ring_at layout 0)

  -- the sections
  pub sections_read : sections_at layout ≡ flat_map (read_at (section_in layout) layout) (ring_at layout 1)
  unfolding sections_at
  sections_read = read_twice (section_in layout) (λ node. if_any (content_of layout node)) (ring_at layout 1)

  -- the entries of a ring
  pub entries_read : (ring : RingId) → entries_in layout ring ≡ flat_map (read_at entry_in layout) (ring_at layout ring.index)
  entries_read ring = read_twice entry_in (λ node. if_any (content_of layout node)) (ring_at layout ring.index)

  -- the entries of the section that a node is
  abbrev pub joined_at : NodeId → List Entry
  joined_at node = flat_map (λ (section : Section). section.entries) (read_at (section_in layout) layout node)

  -- the entries of all sections
  pub joined_read : joined_entries (sections_at layout) ≡ flat_map joined_at (ring_at layout 1)
  joined_read = ap joined_entries sections_read ∙ read_twice (λ (section : Section). section.entries) (read_at (section_in layout) layout) (ring_at layout 1)

  -- those of a node that one knows
  pub joined_known : (node : NodeId) (name : Option (List ℕ)) (ring : RingId) → content_of layout node ≡ Some (content.Begun name ring) → joined_at node ≡ entries_in layout ring
  joined_known node name ring is = ap (λ sections. flat_map (λ (section : Section). section.entries) sections) (read_known (section_in layout) layout node (content.Begun name ring) is)
      ∙ append-nil (entries_in layout ring)

  -- the names that are declared
  pub names_read : names_of (declared_at layout) ≡ flat_map (read_at names_in layout) (ring_at layout 0)
  names_read = ap names_of declared_read ∙ (map_read name_of (read_at declaration_in layout) (ring_at layout 0)
      ∙ same_read (read_at names_in layout) (λ node. map name_of (read_at declaration_in layout node)) (ring_at layout 0)
      (λ node there. map_read name_of declaration_in (if_any (content_of layout node))))

  -- the strings of the collating elements
  pub texts_read : texts_of (declared_at layout) ≡ flat_map (read_at texts_in layout) (ring_at layout 0)
  texts_read = ap texts_of declared_read ∙ (read_twice text_of (read_at declaration_in layout) (ring_at layout 0)
      ∙ same_read (read_at texts_in layout) (λ node. flat_map text_of (read_at declaration_in layout node)) (ring_at layout 0)
      (λ node there. read_twice text_of declaration_in (if_any (content_of layout node))))

  -- the names of the sections
  pub section_names_read : section_names (sections_at layout) ≡ flat_map (read_at section_names_in layout) (ring_at layout 1)
  section_names_read = ap section_names sections_read ∙ (read_twice (λ (section : Section). named section.name) (read_at (section_in layout) layout) (ring_at layout 1)
      ∙ same_read (read_at section_names_in layout) (λ node. section_names (read_at (section_in layout) layout node)) (ring_at layout 1) (λ node there. of_content (content_of layout node))) where
        of_content : (found : Option Content) → section_names (flat_map (section_in layout) (if_any found)) ≡ flat_map section_names_in (if_any found)
        of_content None = refl
        of_content (Some (content.Declared declaration)) = refl
        of_content (Some (content.Begun name ring)) = refl
        of_content (Some (content.Placed entry)) = refl

  -- a node of a ring stands in the rings
  pub in_rings : (index : ℕ) (node : NodeId) → has_node (ring_at layout index) node ≡ true → is_in layout.rings node ≡ true
  in_rings index node there = is_in_ring layout.rings index node there

  -- nothing is read of a node that has none
  pub nothing_read : {Key : Type 0} (p : Key → Bool) (keys : Content → List Key) (node : NodeId) (node_content : Content) {X : Type 0} → content_of layout node ≡ Some node_content → keys node_content ≡ []
      → list_any p (read_at keys layout node) ≡ true → X
  nothing_read p keys node node_content is none there = not_both (sym (ap (list_any p) (read_known keys layout node node_content is ∙ none)) ∙ there) refl

  module _ {Key : Type 0} (same : Key → Key → Bool) (keys : Content → List Key) where
    -- a key that only declarations have is that of a node of their ring
    pub declared_covers : IsShaped layout → ((name : Option (List ℕ)) (ring : RingId) → keys (content.Begun name ring) ≡ []) → ((entry : Entry) → keys (content.Placed entry) ≡ [])
        → (key : Key) (node : NodeId) → has_key same keys layout key node ≡ true → has_node (ring_at layout 0) node ≡ true
    declared_covers shaped begun placed key node there =
        let parts = both_true _ _ there in
        let at = in_some layout.rings node parts.0 in
        go at.0 at.1 parts.1 where
          go : (index : ℕ) → has_node (ring_at layout index) node ≡ true → list_any (same key) (read_at keys layout node) ≡ true → has_node (ring_at layout 0) node ≡ true
          go zero at has = at
          go (suc zero) at has = let is =
              section_is (length layout.rings) (content_of layout node) (shaped.begun node at) in nothing_read (same key) keys node (content.Begun is.0 is.1) is.2 (begun is.0 is.1) has
          go (suc (suc index)) at has = let is = entry_is (content_of layout node) (shaped.placed index node at).0 in nothing_read (same key) keys node (content.Placed is.0) is.1 (placed is.0) has

    -- one that only sections have is that of a node of theirs
    pub begun_covers : IsShaped layout → ((declaration : Declaration) → keys (content.Declared declaration) ≡ []) → ((entry : Entry) → keys (content.Placed entry) ≡ [])
        → (key : Key) (node : NodeId) → has_key same keys layout key node ≡ true → has_node (ring_at layout 1) node ≡ true
    begun_covers shaped declared placed key node there =
        let parts = both_true _ _ there in
        let at = in_some layout.rings node parts.0 in
        go at.0 at.1 parts.1 where
          go : (index : ℕ) → has_node (ring_at layout index) node ≡ true → list_any (same key) (read_at keys layout node) ≡ true → has_node (ring_at layout 1) node ≡ true
          go zero at has = let is = declaration_is (content_of layout node) (shaped.declared node at) in nothing_read (same key) keys node (content.Declared is.0) is.1 (declared is.0) has
          go (suc zero) at has = at
          go (suc (suc index)) at has = let is = entry_is (content_of layout node) (shaped.placed index node at).0 in nothing_read (same key) keys node (content.Placed is.0) is.1 (placed is.0) has

    -- a key is read of these nodes where it is found
    pub found_in : (find : Key → Option NodeId) (nodes : List NodeId) → Finds same keys layout find → ((node : NodeId) → has_node nodes node ≡ true → is_in layout.rings node ≡ true)
        → ((key : Key) (node : NodeId) → has_key same keys layout key node ≡ true → has_node nodes node ≡ true)
        → (key : Key) → list_any (same key) (flat_map (read_at keys layout) nodes) ≡ is_some (find key)
    found_in find nodes sound linked covers key =
        elim (find key) as (λ found. find key ≡ found → list_any (same key) (flat_map (read_at keys layout) nodes) ≡ is_some found) [
          | None ↦ λ none. by_test (λ b. list_any (same key) (flat_map (read_at keys layout) nodes) ≡ b → b ≡ false) (list_any (same key) (flat_map (read_at keys layout) nodes))
              (λ on e. let at = any_from (same key) (read_at keys layout) nodes e in
              let found = sound.finds key at.0 (and_true (linked at.0 at.1) at.2) in cc)
              (λ off e. refl) refl
          | Some node ↦ λ is. let has = sound.leads key node is in any_to (same key) (read_at keys layout) nodes node (covers key node has) (both_true _ _ has).1
        ] refl

  module _ (shaped : IsShaped layout) where
    -- a section's node that is in the ring of the sections
    pub section_at : (node : NodeId) → has_node (ring_at layout 1) node ≡ true
        → (name : Option (List ℕ)) × (ring : RingId) × (content_of layout node ≡ Some (content.Begun name ring)) × (2 ≤ ring.index) × (ring.index < length layout.rings)
    section_at node there = section_is (length layout.rings) (content_of layout node) (shaped.begun node there)

    -- an entry stands in a section where a node is one
    pub placed_from : (p : Entry → Bool) → list_any p (joined_entries (sections_at layout)) ≡ true → (node : NodeId) × (is_in layout.rings node ≡ true)
        × (list_any p (read_at entry_in layout node) ≡ true)
    placed_from p there =
        let section = any_from p joined_at (ring_at layout 1) (sym (ap (list_any p) joined_read) ∙ there) in
        let is = section_at section.0 section.1 in
        let entry = any_from p (read_at entry_in layout) (ring_at layout is.1.index) (sym (ap (list_any p) (joined_known section.0 is.0 is.1 is.2 ∙ entries_read is.1)) ∙ section.2) in
        (entry.0, in_rings is.1.index entry.0 entry.1, entry.2)

    -- a section has the ring of an entry's node
    pub owner_at : (index : ℕ) → (section : NodeId) → has_key same_ring rings_in layout (record { index = index }) section ≡ true
        → (has_node (ring_at layout 1) section ≡ true) × ((name : Option (List ℕ)) × (ring : RingId) × (content_of layout section ≡ Some (content.Begun name ring)) × (ring.index ≡ index)
        × (2 ≤ ring.index) × (ring.index < length layout.rings))
    owner_at index section has =
        let there = begun_covers same_ring rings_in shaped (λ declaration. refl) (λ entry. refl) (record { index = index }) section has in
        let is = section_at section there in
        let one : list_any (same_ring (record { index = index })) (is.1 ∷ []) ≡ true =
        sym (ap (list_any (same_ring (record { index = index }))) (read_known rings_in layout section (content.Begun is.0 is.1) is.2)) ∙ (both_true _ _ has).1 in
        (there, (is.0, is.1, is.2, sym ((Decides-eqb index is.1.index).0 (only _ one)), is.3, is.4)) where
          only : (b : Bool) → (b || false) ≡ true → b ≡ true
          only true e = refl
          only false e = e

    -- a section's ring is none of the first two
    pub owned_high : (index : ℕ) → IsOwned layout index → 2 ≤ index
    owned_high index owned = let is = (owner_at index owned.0 owned.1).1 in subst (λ k. 2 ≤ k) is.3 is.4

    -- it is one of the rings
    pub owned_low : (index : ℕ) (section : NodeId) → has_key same_ring rings_in layout (record { index = index }) section ≡ true → index < length layout.rings
    owned_low index section owns = let is = (owner_at index section owns).1 in subst (λ k. k < length layout.rings) is.3 is.5

    -- a node is an entry where one stands in a section
    pub placed_to : (p : Entry → Bool) (node : NodeId) → is_in layout.rings node ≡ true → list_any p (read_at entry_in layout node) ≡ true → list_any p (joined_entries (sections_at layout)) ≡ true
    placed_to p node linked has =
        let at = in_some layout.rings node linked in
        go at.0 at.1 where
          go : (index : ℕ) → has_node (ring_at layout index) node ≡ true → list_any p (joined_entries (sections_at layout)) ≡ true
          go zero at = let is = declaration_is (content_of layout node) (shaped.declared node at) in nothing_read p entry_in node (content.Declared is.0) is.1 refl has
          go (suc zero) at = let is = section_at node at in nothing_read p entry_in node (content.Begun is.0 is.1) is.2 refl has
          go (suc (suc index)) at =
              let owned = (shaped.placed index node at).1 in
              let owner = owner_at (suc (suc index)) owned.0 owned.1 in
              let ring = owner.1.1 in
              let here : has_node (ring_at layout ring.index) node ≡ true = ap (λ k. has_node (ring_at layout k) node) owner.1.3 ∙ at in
              ap (list_any p) joined_read ∙ any_to p joined_at (ring_at layout 1) owned.0 owner.0
              (ap (list_any p) (joined_known owned.0 owner.1.0 ring owner.1.2 ∙ entries_read ring) ∙ any_to p (read_at entry_in layout) (ring_at layout ring.index) node here has)
