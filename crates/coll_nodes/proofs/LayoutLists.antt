-- A node more in a layout: what the lists of the table are then.
use Rattle.std.proofs.Common.{◌≡◌, ℕ, suc, ◌<◌, ◌≤◌, true, false, List, [], ◌∷◌, Option, Some, length, eqb, flat_map, sym, ap, subst, ◌∙◌, refl, arith}
use Rattle.std.specs.List.{list_any}
use Rattle.coll_order.specs.Layout.{head_of, is_in}
use Rattle.coll_order.specs.Lists.{same_node, has_node, put_after}
use Rattle.coll_order.specs.Sound.{StandOnce}
use Rattle.coll_order.specs.declared.places.NodeId.{NodeId}
use Rattle.coll_order.specs.declared.places.RingId.{RingId}
use Rattle.coll_order.specs.declared.places.Place.{Place}
use Rattle.std.proofs.lemmas.Bool.Decides.{Decides-eqb}
use Rattle.coll_order.proofs.ListLemmas.{or_first}
use Rattle.coll_order.proofs.Sameness.{not_both, same_node_itself}
use Rattle.coll_order.proofs.RingLemmas.{distinct_ring}
use Rattle.coll_nodes.specs.SoundBodies.{read_at, ring_at, has_key, rings_in, same_ring, IsShaped, IsPlaceIn, Adds}
use Rattle.coll_nodes.specs.Table.{Section, joined_entries}
use Rattle.coll_nodes.specs.TableLayout.{TableLayout, content_of, declaration_in, entry_in, section_in, entries_in, declared_at, sections_at}
use Rattle.coll_nodes.specs.declared.contents.Content.{Content}
use Rattle.coll_nodes.specs.declared.contents.Content.TheVariants as content
use Rattle.coll_nodes.specs.declared.declarations.Declaration.{Declaration}
use Rattle.coll_nodes.specs.declared.entries.Entry.{Entry}
use Rattle.coll_nodes.proofs.LayoutReads.{read_known, declared_read, sections_read, entries_read, joined_at, joined_read, joined_known, section_at, owner_at, in_rings, and_true}
use Rattle.coll_nodes.proofs.LayoutSteps.{member_differs, content_itself, content_other, ring_put, ring_other, absent, read_other, read_itself}
use Rattle.coll_nodes.proofs.NodeLists.{same_read, longer, longer_put, same_put, same_length}

-- a section's node has the section's ring as its key
pub ring_key : (layout : TableLayout) (node : NodeId) (name : Option (List ℕ)) (ring : RingId) → is_in layout.rings node ≡ true → content_of layout node ≡ Some (content.Begun name ring)
    → has_key same_ring rings_in layout ring node ≡ true
ring_key layout node name ring linked is = and_true linked (ap (list_any (same_ring ring)) (read_known rings_in layout node (content.Begun name ring) is) ∙ itself ring) where
  itself : (ring : RingId) → list_any (same_ring ring) (ring ∷ []) ≡ true
  itself ring = or_first (eqb ring.index ring.index) false ((Decides-eqb ring.index ring.index).1 refl)

module _ (old new : TableLayout) (node : NodeId) (node_content : Content) (place : Place) (index : ℕ)
    (adds : Adds old new node node_content place) (at : IsPlaceIn old index place) (once : StandOnce old.rings) (shaped : IsShaped old) where
  -- a node of a ring is another
  pub other_in : (ring : ℕ) (other : NodeId) → has_node (ring_at old ring) other ≡ true → same_node other node ≡ false
  other_in ring other there = member_differs (ring_at old ring) other node there (absent old new node node_content place index adds at once ring)

  -- of the nodes of a ring the same is read
  pub reads_in : {X : Type 0} (keys : Content → List X) (ring : ℕ) (other : NodeId) → has_node (ring_at old ring) other ≡ true → read_at keys new other ≡ read_at keys old other
  reads_in keys ring other there = read_other old new node node_content place index adds at once keys other (other_in ring other there)

  -- another ring reads the same
  ring_same : {X : Type 0} (keys : Content → List X) (ring : ℕ) → (index ≡ ring → ⊥) → flat_map (read_at keys new) (ring_at new ring) ≡ flat_map (read_at keys old) (ring_at old ring)
  ring_same keys ring differ = ap (flat_map (read_at keys new)) (ring_other old new node node_content place index adds at once ring differ)
      ∙ same_read (read_at keys old) (read_at keys new) (ring_at old ring) (reads_in keys ring)

  -- a ring that the node isn't put in has the entries that it had
  pub entries_same : (ring : RingId) → (index ≡ ring.index → ⊥) → entries_in new ring ≡ entries_in old ring
  entries_same ring differ = entries_read new ring ∙ (ring_same entry_in ring.index differ ∙ sym (entries_read old ring))

  -- a node that is no declaration changes none
  pub declared_same : (index ≡ 0 → ⊥) → declared_at new ≡ declared_at old
  declared_same differ = declared_read new ∙ (ring_same declaration_in 0 differ ∙ sym (declared_read old))

  -- a section whose ring the node isn't put in is as it was
  pub section_same : (other : NodeId) → has_node (ring_at old 1) other ≡ true
      → ((name : Option (List ℕ)) (ring : RingId) → content_of old other ≡ Some (content.Begun name ring) → index ≡ ring.index → ⊥)
      → read_at (section_in new) new other ≡ read_at (section_in old) old other
  section_same other there apart =
      let is = section_at old shaped other there in
      let still : content_of new other ≡ Some (content.Begun is.0 is.1) = content_other old new node node_content place index adds at once other (other_in 1 other there) ∙ is.2 in
      read_known (section_in new) new other (content.Begun is.0 is.1) still ∙ (ap (λ (entries : List Entry). record { name = is.0; entries = entries } ∷ []) (entries_same is.1 (apart is.0 is.1 is.2))
      ∙ sym (read_known (section_in old) old other (content.Begun is.0 is.1) is.2))

  -- a section's ring is none of the first two
  pub past_two : (other : NodeId) → has_node (ring_at old 1) other ≡ true → (first : ℕ) → first < 2 → (name : Option (List ℕ)) (ring : RingId) → content_of old other ≡ Some (content.Begun name ring)
      → first ≡ ring.index → ⊥
  past_two other there first below name ring is same =
      let own = section_at old shaped other there in
      let it : own.1.index ≡ ring.index = ap number (sym own.2 ∙ is) in
      let high = own.3 in
      omega (arith, it, same, high, below) where
        number : Option Content → ℕ
        number (Some (content.Begun name ring)) = ring.index
        number _ = 0

  -- a declaration changes no section
  pub sections_same : index ≡ 0 → sections_at new ≡ sections_at old
  sections_same is = sections_read new ∙ (ap (flat_map (read_at (section_in new) new)) (ring_other old new node node_content place index adds at once 1 (λ one. absurd (omega (arith, is, one))))
      ∙ (same_read (read_at (section_in old) old) (read_at (section_in new) new) (ring_at old 1)
      (λ other there. section_same other there (λ name ring known same. past_two other there 0 (omega arith) name ring known (sym is ∙ same))) ∙ sym (sections_read old)))

  -- a declaration more
  pub declared_longer : index ≡ 0 → length (declaration_in node_content) ≡ 1 → length (declared_at new) ≡ suc (length (declared_at old))
  declared_longer is one =
      ap (λ (xs : List Declaration). length xs) (declared_read new)
      ∙ (ap (λ nodes. length (flat_map (read_at declaration_in new) nodes))
      (subst (λ k. ring_at new k ≡ put_after place node (head_of k) (ring_at old k)) is (ring_put old new node node_content place index adds at once))
      ∙ (longer_put (read_at declaration_in old) (read_at declaration_in new) place (head_of 0) node (ring_at old 0) (subst (λ k. IsPlaceIn old k place) is at).on
      (ap (λ (xs : List Declaration). length xs) (read_itself old new node node_content place index adds at once declaration_in) ∙ one) (reads_in declaration_in 0)
      ∙ ap (λ (xs : List Declaration). suc (length xs)) (sym (declared_read old))))

  -- a section more
  pub sections_longer : index ≡ 1 → (name : Option (List ℕ)) (ring : RingId) → node_content ≡ content.Begun name ring → length (sections_at new) ≡ suc (length (sections_at old))
  sections_longer is name ring begins =
      ap (λ (xs : List Section). length xs) (sections_read new)
      ∙ (ap (λ nodes. length (flat_map (read_at (section_in new) new) nodes))
      (subst (λ k. ring_at new k ≡ put_after place node (head_of k) (ring_at old k)) is (ring_put old new node node_content place index adds at once))
      ∙ (longer_put (read_at (section_in old) old) (read_at (section_in new) new) place (head_of 1) node (ring_at old 1) (subst (λ k. IsPlaceIn old k place) is at).on
      (ap (λ (xs : List Section). length xs) (read_known (section_in new) new node (content.Begun name ring) (content_itself old new node node_content place index adds at once ∙ ap Some begins)))
      (λ other there. section_same other there (λ name ring known same. past_two other there 1 (omega arith) name ring known (sym is ∙ same)))
      ∙ ap (λ (xs : List Section). suc (length xs)) (sym (sections_read old))))

  -- of the same section the same is joined
  joined_same : (other : NodeId) → read_at (section_in new) new other ≡ read_at (section_in old) old other → joined_at new other ≡ joined_at old other
  joined_same other same = ap (λ sections. flat_map (λ (section : Section). section.entries) sections) same

  -- a section that begins brings no entry, where its ring has no nodes
  pub entries_begun : index ≡ 1 → (name : Option (List ℕ)) (ring : RingId) → node_content ≡ content.Begun name ring → entries_in new ring ≡ []
      → joined_entries (sections_at new) ≡ joined_entries (sections_at old)
  entries_begun is name ring begins none =
      joined_read new ∙ (ap (flat_map (joined_at new)) (subst (λ k. ring_at new k ≡ put_after place node (head_of k) (ring_at old k)) is (ring_put old new node node_content place index adds at once))
      ∙ (same_put (joined_at old) (joined_at new) place (head_of 1) node (ring_at old 1)
      (joined_known new node name ring (content_itself old new node node_content place index adds at once ∙ ap Some begins) ∙ none)
      (λ other there. joined_same other (section_same other there (λ name ring known same. past_two other there 1 (omega arith) name ring known (sym is ∙ same))))
      ∙ sym (joined_read old)))

  -- an entry begins no section
  pub as_many_sections : 2 ≤ index → length (sections_at new) ≡ length (sections_at old)
  as_many_sections high =
      ap (λ (xs : List Section). length xs) (sections_read new)
      ∙ (ap (λ nodes. length (flat_map (read_at (section_in new) new) nodes)) (ring_other old new node node_content place index adds at once 1 (λ one. absurd (omega (arith, high, one))))
      ∙ (same_length (read_at (section_in old) old) (read_at (section_in new) new) (ring_at old 1) (λ other there.
      let is = section_at old shaped other there in
      let still : content_of new other ≡ Some (content.Begun is.0 is.1) = content_other old new node node_content place index adds at once other (other_in 1 other there) ∙ is.2 in
      ap (λ (xs : List Section). length xs) (read_known (section_in new) new other (content.Begun is.0 is.1) still)
      ∙ sym (ap (λ (xs : List Section). length xs) (read_known (section_in old) old other (content.Begun is.0 is.1) is.2)))
      ∙ ap (λ (xs : List Section). length xs) (sym (sections_read old))))

  -- a section that isn't the ring's has another ring
  pub other_ring : (owner : NodeId) → has_key same_ring rings_in old (record { index = index }) owner ≡ true → (other : NodeId) → has_node (ring_at old 1) other ≡ true → same_node other owner ≡ false
      → (name : Option (List ℕ)) (ring : RingId) → content_of old other ≡ Some (content.Begun name ring) → index ≡ ring.index → ⊥
  other_ring owner owns other there differ name ring is same =
      let here : RingId = record { index = index } in
      let key : has_key same_ring rings_in old here other ≡ true =
      subst (λ k. has_key same_ring rings_in old (record { index = k }) other ≡ true) (sym same) (ring_key old other name ring (in_rings old 1 other there) is) in
      not_both (subst (λ n. same_node n owner ≡ true) (shaped.own here owner other owns key) (same_node_itself owner)) differ

  -- the ring has one entry more
  ring_longer : length (entry_in node_content) ≡ 1 → (ring : RingId) → ring.index ≡ index → length (entries_in new ring) ≡ suc (length (entries_in old ring))
  ring_longer one ring is =
      ap (λ (xs : List Entry). length xs) (entries_read new ring)
      ∙ (ap (λ nodes. length (flat_map (read_at entry_in new) nodes))
      (subst (λ k. ring_at new k ≡ put_after place node (head_of k) (ring_at old k)) (sym is) (ring_put old new node node_content place index adds at once))
      ∙ (longer_put (read_at entry_in old) (read_at entry_in new) place (head_of ring.index) node (ring_at old ring.index) (subst (λ k. IsPlaceIn old k place) (sym is) at).on
      (ap (λ (xs : List Entry). length xs) (read_itself old new node node_content place index adds at once entry_in) ∙ one) (reads_in entry_in ring.index)
      ∙ ap (λ (xs : List Entry). suc (length xs)) (sym (entries_read old ring))))

  -- an entry more
  pub entries_longer : (owner : NodeId) → has_key same_ring rings_in old (record { index = index }) owner ≡ true → length (entry_in node_content) ≡ 1
      → length (joined_entries (sections_at new)) ≡ suc (length (joined_entries (sections_at old)))
  entries_longer owner owns one =
      let is = owner_at old shaped index owner owns in
      let own = section_at old shaped owner is.0 in
      let ring = is.1.1 in
      let high : 2 ≤ ring.index = is.1.4 in
      let still : content_of new owner ≡ Some (content.Begun is.1.0 ring) = content_other old new node node_content place index adds at once owner (other_in 1 owner is.0) ∙ is.1.2 in
      ap (λ (xs : List Entry). length xs) (joined_read new)
      ∙ (ap (λ nodes. length (flat_map (joined_at new) nodes)) (ring_other old new node node_content place index adds at once 1 (λ e. let it = is.1.3 in absurd (omega (arith, it, high, e))))
      ∙ (longer (joined_at old) (joined_at new) owner (ring_at old 1) (distinct_ring old.rings 1 once) is.0
      (ap (λ (xs : List Entry). length xs) (joined_known new owner is.1.0 ring still)
      ∙ (ring_longer one ring is.1.3 ∙ ap (λ (xs : List Entry). suc (length xs)) (sym (joined_known old owner is.1.0 ring is.1.2))))
      (λ other there differ. joined_same other (section_same other there (other_ring owner owns other there differ)))
      ∙ ap (λ (xs : List Entry). suc (length xs)) (sym (joined_read old))))
