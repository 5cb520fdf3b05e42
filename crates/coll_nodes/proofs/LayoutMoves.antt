-- Layouts of the same nodes in other rings, or with other entries: what the table is then; and the node that is found by an
-- identifier.
use Rattle.std.proofs.Common.{◌≡◌, ℕ, zero, suc, ◌<◌, Bool, true, false, ◌||◌, List, [], ◌∷◌, Option, Some, None, length, map, flat_map, get_or, sym, ap, ◌∙◌, refl}
use Rattle.std.specs.List.{list_any}
use Rattle.coll_order.specs.Layout.{is_in, rings_without}
use Rattle.coll_order.specs.Lists.{same_node, has_node, without}
use Rattle.coll_order.specs.declared.places.NodeId.{NodeId}
use Rattle.coll_order.specs.declared.places.RingId.{RingId}
use Rattle.coll_order.proofs.Sameness.{by_test, not_both, same_node_is, same_node_itself}
use Rattle.coll_order.proofs.RingLemmas.{in_some}
use Rattle.coll_syntax.specs.Identifier.{same_id, has_id}
use Rattle.coll_syntax.specs.declared.identifiers.Id.{Id}
use Rattle.coll_nodes.proofs.BodyReads.{some_same}
use Rattle.coll_nodes.proofs.EntryMoves.{Tells}
use Rattle.coll_nodes.proofs.LayoutReads.{declaration_is, read_known, both_true, and_true, declared_read, sections_read, section_at}
use Rattle.coll_nodes.proofs.NodeLists.{map_read, same_read}
use Rattle.coll_nodes.specs.SoundBodies.{read_at, ring_at, ids_in, IsShaped, IsOwned, Finds}
use Rattle.coll_nodes.specs.Table.{Section, ids_of}
use Rattle.coll_nodes.specs.TableLayout.{TableLayout, content_of, if_any, declaration_in, entry_in, section_in, entries_in, declared_at, sections_at}
use Rattle.coll_nodes.specs.declared.contents.Content.{Content}
use Rattle.coll_nodes.specs.declared.contents.Content.TheVariants as content
use Rattle.coll_nodes.specs.declared.entries.Entry.{Entry}

-- the identifiers of the entries of a node are its keys
pub ids_read : (found : Option Content) → ids_of (flat_map entry_in (if_any found)) ≡ flat_map ids_in (if_any found)
ids_read None = refl
ids_read (Some (content.Declared declaration)) = refl
ids_read (Some (content.Begun name ring)) = refl
ids_read (Some (content.Placed entry)) = refl

-- no section is an entry
no_section : (entry : Entry) (name : Option (List ℕ)) (ring : RingId) {X : Type 0} → Some (content.Placed entry) ≡ Some (content.Begun name ring) → X
no_section entry name ring e = absurd (differ e) where
  differ : Some (content.Placed entry) ≡ Some (content.Begun name ring) → ⊥
  differ e = cc

-- no declaration is an entry
no_declaration : (entry : Entry) (declaration : _) {X : Type 0} → Some (content.Placed entry) ≡ Some (content.Declared declaration) → X
no_declaration entry declaration e = absurd (differ e) where
  differ : Some (content.Placed entry) ≡ Some (content.Declared declaration) → ⊥
  differ e = cc

-- sections with other entries, changed once more
pub changed_twice : (first second : List Entry → List Entry) (sections : List Section)
    → map (λ (section : Section). record section { entries = second (first section.entries) }) sections
    ≡ map (λ (section : Section). record section { entries = second section.entries }) (map (λ (section : Section). record section { entries = first section.entries }) sections)
changed_twice first second [] = refl
changed_twice first second (section ∷ sections) = ap (λ ss. record section { entries = second (first section.entries) } ∷ ss) (changed_twice first second sections)

-- where the same nodes are sections, and the entries of each are changed, so are the sections
pub sections_changed : (old new : TableLayout) (change : List Entry → List Entry) → IsShaped old → ring_at new 1 ≡ ring_at old 1
    → ((other : NodeId) → has_node (ring_at old 1) other ≡ true → content_of new other ≡ content_of old other)
    → ((ring : RingId) → ring.index < length old.rings → entries_in new ring ≡ change (entries_in old ring))
    → sections_at new ≡ map (λ (section : Section). record section { entries = change section.entries }) (sections_at old)
sections_changed old new change shaped ring same entries =
    let altered : Section → Section = λ section. record section { entries = change section.entries } in
    sections_read new
    ∙ (ap (flat_map (read_at (section_in new) new)) ring
    ∙ (same_read (λ other. map altered (read_at (section_in old) old other)) (read_at (section_in new) new) (ring_at old 1) (λ other there.
    let is = section_at old shaped other there in
    read_known (section_in new) new other (content.Begun is.0 is.1) (same other there ∙ is.2)
    ∙ (ap (λ es. record { name = is.0; entries = es } ∷ []) (entries is.1 is.4)
    ∙ sym (ap (map altered) (read_known (section_in old) old other (content.Begun is.0 is.1) is.2))))
    ∙ sym (ap (map altered) (sections_read old) ∙ map_read altered (read_at (section_in old) old) (ring_at old 1))))

-- where the same nodes are declarations, the same is declared
pub declared_stays : (old new : TableLayout) → ring_at new 0 ≡ ring_at old 0 → ((other : NodeId) → has_node (ring_at old 0) other ≡ true → content_of new other ≡ content_of old other)
    → declared_at new ≡ declared_at old
declared_stays old new ring same =
    declared_read new ∙ (ap (flat_map (read_at declaration_in new)) ring
    ∙ (same_read (read_at declaration_in old) (read_at declaration_in new) (ring_at old 0) (λ other there. ap (λ found. flat_map declaration_in (if_any found)) (same other there))
    ∙ sym (declared_read old)))

-- a ring without a node
pub get_without : (node : NodeId) (rings : List (List NodeId)) (index : ℕ) → get_or (rings_without node rings) index [] ≡ without node (get_or rings index [])
get_without node [] index = refl
get_without node (nodes ∷ rings) zero = refl
get_without node (nodes ∷ rings) (suc index) = get_without node rings index

-- a node that is found by an identifier
module _ (layout : TableLayout) (shaped : IsShaped layout) (find : Id → Option NodeId) (id : Id) (node : NodeId) (sound : Finds same_id ids_in layout find) (found : find id ≡ Some node) where
  -- it stands in a ring
  pub found_linked : is_in layout.rings node ≡ true
  found_linked = (both_true _ _ (sound.leads id node found)).0

  -- it is an entry of the identifier
  pub found_entry : (entry : Entry) × (content_of layout node ≡ Some (content.Placed entry)) × (same_id id entry.id ≡ true)
  found_entry = by (content_of layout node) refl (both_true _ _ (sound.leads id node found)).1 where
    by : (known : Option Content) → content_of layout node ≡ known → list_any (same_id id) (flat_map ids_in (if_any known)) ≡ true
        → (entry : Entry) × (content_of layout node ≡ Some (content.Placed entry)) × (same_id id entry.id ≡ true)
    by None is has = not_both has refl
    by (Some (content.Declared declaration)) is has = not_both has refl
    by (Some (content.Begun name ring)) is has = not_both has refl
    by (Some (content.Placed entry)) is has = (entry, is, only (same_id id entry.id) has) where
      only : (b : Bool) → (b || false) ≡ true → b ≡ true
      only true e = refl
      only false e = e

  -- it is none of the declarations and the sections
  pub not_declared : has_node (ring_at layout 0) node ≡ false
  not_declared = by_test (λ b. has_node (ring_at layout 0) node ≡ b → b ≡ false) (has_node (ring_at layout 0) node)
      (λ on t. let is = declaration_is (content_of layout node) (shaped.declared node t) in no_declaration found_entry.0 is.0 (sym found_entry.1 ∙ is.1)) (λ off t. refl) refl

  pub not_begun : has_node (ring_at layout 1) node ≡ false
  not_begun = by_test (λ b. has_node (ring_at layout 1) node ≡ b → b ≡ false) (has_node (ring_at layout 1) node)
      (λ on t. let is = section_at layout shaped node t in no_section found_entry.0 is.0 is.1 (sym found_entry.1 ∙ is.2)) (λ off t. refl) refl

  -- it stands in a section's ring
  pub found_ring : (index : ℕ) × (has_node (ring_at layout index) node ≡ true) × IsOwned layout index
  found_ring = let at = in_some layout.rings node found_linked in go at.0 at.1 where
    go : (index : ℕ) → has_node (ring_at layout index) node ≡ true → (index : ℕ) × (has_node (ring_at layout index) node ≡ true) × IsOwned layout index
    go zero at = not_both at not_declared
    go (suc zero) at = not_both at not_begun
    go (suc (suc index)) at = (suc (suc index), at, (shaped.placed index node at).1)

  -- it has the entry of the identifier, and no other node has one
  pub found_tells : (other : NodeId) → is_in layout.rings other ≡ true → Tells (read_at entry_in layout) id node other
  found_tells other linked = record {
    here = λ on. (found_entry.0, ap (read_at entry_in layout) (sym (same_node_is node other on)) ∙ read_known entry_in layout node (content.Placed found_entry.0) found_entry.1, found_entry.2);
    off = λ apart. by_test (λ b. has_id (ids_of (read_at entry_in layout other)) id ≡ b → b ≡ false) (has_id (ids_of (read_at entry_in layout other)) id)
        (λ on t.
        let has : list_any (same_id id) (read_at ids_in layout other) ≡ true = sym (ap (λ ids. has_id ids id) (ids_read (content_of layout other))) ∙ t in
        let same : node ≡ other = some_same (sym found ∙ sound.finds id other (and_true linked has)) in
        not_both (ap (same_node node) (sym same) ∙ same_node_itself node) apart)
        (λ off t. refl) refl;
  }
