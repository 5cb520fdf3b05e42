-- A body with a loose node put in is sound.
use Rattle.std.proofs.Common.{◌≡◌, ℕ, zero, suc, ◌+◌, ◌≤◌, Bool, true, false, List, [], ◌∷◌, Option, Some, None, length, flat_map, sym, ap, subst, ◌∙◌, refl, arith}
use Rattle.std.specs.List.{list_any}
use Rattle.std.proofs.lemmas.Bool.Decides.{Decides-eqb}
use Rattle.coll_order.specs.Layout.{is_in}
use Rattle.coll_order.specs.Lists.{same_node, has_node}
use Rattle.coll_order.specs.Sound.{StandOnce}
use Rattle.coll_order.specs.declared.places.NodeId.{NodeId}
use Rattle.coll_order.specs.declared.places.RingId.{RingId}
use Rattle.coll_order.specs.declared.places.Place.{Place}
use Rattle.coll_order.proofs.ListLemmas.{or_first}
use Rattle.coll_order.proofs.RingLemmas.{length_rings_with}
use Rattle.coll_order.proofs.Sameness.{not_both, same_node_itself}
use Rattle.coll_syntax.specs.Identifier.{same_name, same_id}
use Rattle.coll_nodes.specs.Bodies.{with_link}
use Rattle.coll_nodes.specs.BodyInvariant.{HasItsRing, IsReserved, IsSoundBody}
use Rattle.coll_nodes.specs.Counting.{counts_at, counts_with}
use Rattle.coll_nodes.specs.KeyedNodes.{FindsAll, KeepsKeys, SetsKeys}
use Rattle.coll_lookups.specs.NodeLookUps.{node_named, node_with}
use Rattle.coll_nodes.specs.SoundBodies.{read_at, ring_at, names_in, texts_in, section_names_in, rings_in, ids_in, same_ring, IsEntry, IsOwned, IsPlaceIn, IsShaped, Finds, Adds}
use Rattle.coll_nodes.specs.Table.{Section, joined_entries}
use Rattle.coll_nodes.specs.TableLayout.{TableLayout, MadeNode, content_of, declarations_ring, entry_in, entries_in, sections_ring}
use Rattle.coll_nodes.specs.Moving.{AreNew, IsApart, IsPlaceFor}
use Rattle.coll_nodes.specs.declared.contents.Content.{Content}
use Rattle.coll_nodes.specs.declared.contents.Content.TheVariants as content
use Rattle.coll_nodes.specs.declared.counts.Counts.{Counts}
use Rattle.coll_nodes.specs.declared.declarations.Declaration.{Declaration}
use Rattle.coll_nodes.specs.declared.entries.Entry.{Entry}
use Rattle.coll_nodes.specs.declared.node_keys.NodeKeys.{NodeKeys}
use Rattle.coll_nodes.proofs.AlikeLayouts.{AreAlike, names_stay, texts_stay, section_names_stay, rings_stay, ids_stay, key_alike, owned_alike, shaped_alike, found_alike, counts_alike, same_counts}
use Rattle.coll_nodes.proofs.ChangedNodes.{bare, bare_alike, adds_bare}
use Rattle.coll_nodes.proofs.KeyedNodes.{all_kept, keys_stay}
use Rattle.coll_nodes.proofs.LayoutLists.{declared_same, sections_same, declared_longer, sections_longer, entries_begun, as_many_sections, entries_longer}
use Rattle.coll_nodes.proofs.LayoutReads.{owned_high, entries_read}
use Rattle.coll_nodes.proofs.LayoutSteps.{finds_more, shaped_more, ring_other}

-- one more is the next number
more : (n m : ℕ) → m ≡ suc n → m ≡ n + 1
more n m e = omega (arith, e)

-- a list that has no node is empty
none_there : (nodes : List NodeId) → ((node : NodeId) → has_node nodes node ≡ true → ⊥) → nodes ≡ []
none_there [] none = refl
none_there (first ∷ rest) none = absurd (none first (or_first (same_node first first) _ (same_node_itself first)))

-- a node of a section's ring is an entry, and the ring is a section's
pub placed_in : (layout : TableLayout) → IsShaped layout → (index : ℕ) → 2 ≤ index → (node : NodeId) → has_node (ring_at layout index) node ≡ true → IsEntry (content_of layout node)
    × IsOwned layout index
placed_in layout shaped zero high node there = absurd (omega (arith, high))
placed_in layout shaped (suc zero) high node there = absurd (omega (arith, high))
placed_in layout shaped (suc (suc index)) high node there = shaped.placed index node there

-- what a layout is with a node put in
pub record IsPut (old new : TableLayout) (it : Content) : Type 0 where
  pub shaped : IsShaped new
  pub counted : counts_at new ≡ counts_with it (counts_at old)

module _ (old new : TableLayout) (node : NodeId) (place : Place) (once : StandOnce old.rings) (shaped : IsShaped old) where
  -- a declaration
  pub put_declared : (declaration : Declaration) → Adds old new node (content.Declared declaration) place → IsPlaceIn old 0 place → IsPut old new (content.Declared declaration)
  put_declared declaration adds at =
      let same = sections_same old new node (content.Declared declaration) place 0 adds at once shaped refl in
      record {
        shaped = shaped_more old new node (content.Declared declaration) place 0 adds at once shaped
            (λ e. tt) (λ e. absurd (omega (arith, e))) (λ ring e. absurd (omega (arith, e))) (λ ring other e has. not_both e refl);
        counted = same_counts _ _ _ _ _ _
            (more _ _ (declared_longer old new node (content.Declared declaration) place 0 adds at once shaped refl refl))
            (ap (λ (xs : List Section). length xs) same)
            (ap (λ xs. length (joined_entries xs)) same);
      }

  -- a section, whose ring no section has
  pub put_begun : (name : Option (List ℕ)) (ring : RingId) → Adds old new node (content.Begun name ring) place → IsPlaceIn old 1 place → HasItsRing (length old.rings) (content.Begun name ring)
      → AreNew same_ring rings_in old (content.Begun name ring) → IsPut old new (content.Begun name ring)
  put_begun name ring adds at its free =
      let own : list_any (same_ring ring) (ring ∷ []) ≡ true = or_first (same_ring ring ring) false ((Decides-eqb ring.index ring.index).1 refl) in
      let bounds = its ring own in
      let high = bounds.0 in
      let empty : ring_at old ring.index ≡ [] = none_there (ring_at old ring.index) (λ other there.
      let owner = (placed_in old shaped ring.index high other there).1 in
      not_both owner.1 (free ring owner.0 own)) in
      let none : entries_in new ring ≡ [] = entries_read new ring
      ∙ ap (flat_map (read_at entry_in new)) (ring_other old new node (content.Begun name ring) place 1 adds at once ring.index (λ e. absurd (omega (arith, e, high))) ∙ empty) in
      record {
        shaped = shaped_more old new node (content.Begun name ring) place 1 adds at once shaped
            (λ e. absurd (omega (arith, e))) (λ e. bounds) (λ ring e. absurd (omega (arith, e))) (λ other_ring other e has. not_both has (free other_ring other e));
        counted = same_counts _ _ _ _ _ _
            (ap (λ (xs : List Declaration). length xs) (declared_same old new node (content.Begun name ring) place 1 adds at once shaped (λ e. omega (arith, e))))
            (more _ _ (sections_longer old new node (content.Begun name ring) place 1 adds at once shaped refl name ring refl))
            (ap (λ (xs : List Entry). length xs) (entries_begun old new node (content.Begun name ring) place 1 adds at once shaped refl name ring refl none));
      }

  -- an entry
  pub put_placed : (entry : Entry) → Adds old new node (content.Placed entry) place → (index : ℕ) → IsPlaceIn old index place → IsOwned old index → IsPut old new (content.Placed entry)
  put_placed entry adds index at owned =
      let high = owned_high old shaped index owned in
      record {
        shaped = shaped_more old new node (content.Placed entry) place index adds at once shaped
            (λ e. absurd (omega (arith, high, e))) (λ e. absurd (omega (arith, high, e))) (λ ring e. (tt, subst (λ k. IsOwned old k) e owned)) (λ ring other e has. not_both e refl);
        counted = same_counts _ _ _ _ _ _
            (ap (λ (xs : List Declaration). length xs) (declared_same old new node (content.Placed entry) place index adds at once shaped (λ e. omega (arith, high, e))))
            (as_many_sections old new node (content.Placed entry) place index adds at once shaped high)
            (more _ _ (entries_longer old new node (content.Placed entry) place index adds at once shaped owned.0 owned.1 refl));
      }

  -- whatever it is
  pub put_any : (it : Content) → Adds old new node it place → IsPlaceFor old place it → HasItsRing (length old.rings) it → IsApart old it → IsPut old new it
  put_any (content.Declared declaration) adds fits its apart = put_declared declaration adds fits
  put_any (content.Begun name ring) adds fits its apart = put_begun name ring adds fits its apart.rings
  put_any (content.Placed entry) adds fits its apart = put_placed entry adds fits.0 fits.1 fits.2

-- the ring of a place
pub ring_for : (layout : TableLayout) (place : Place) (it : Content) → IsPlaceFor layout place it → (index : ℕ) × IsPlaceIn layout index place
ring_for layout place (content.Declared declaration) fits = (0, fits)
ring_for layout place (content.Begun name ring) fits = (1, fits)
ring_for layout place (content.Placed entry) fits = (fits.0, fits.1)

-- a key that no node has is not found
fresh_key : {Key : Type 0} (layout : TableLayout) (it : Content) (same : Key → Key → Bool) (keys : Content → List Key) (find : Key → Option NodeId) → Finds same keys layout find
    → AreNew same keys layout it
    → (key : Key) → list_any (same key) (keys it) ≡ true → find key ≡ None
fresh_key layout it same keys find sound free key has = elim (find key) as (λ found. find key ≡ found → found ≡ None) [
  | None ↦ λ e. refl
  | Some other ↦ λ e. not_both (sound.leads key other e) (free key other has)
] refl

-- the look-ups find a node that was put in, where its keys lead to it
pub found_put : (old new : TableLayout) (node : NodeId) (it : Content) (place : Place) (index : ℕ) (keys keys_new : NodeKeys) → Adds old new node it place → IsPlaceIn old index place
    → StandOnce old.rings → IsApart old it
    → FindsAll old keys → SetsKeys keys keys_new it (Some node) → FindsAll new keys_new
found_put old new node it place index keys keys_new adds at once apart found sets = record {
  names = finds_more old new node it place index adds at once same_name names_in (node_named keys.names) (node_named keys_new.names) found.names sets.names
      (fresh_key old it same_name names_in _ found.names apart.names);
  texts = finds_more old new node it place index adds at once same_name texts_in (node_named keys.texts) (node_named keys_new.texts) found.texts sets.texts
      (fresh_key old it same_name texts_in _ found.texts apart.texts);
  sections = finds_more old new node it place index adds at once same_name section_names_in (node_named keys.sections) (node_named keys_new.sections) found.sections sets.sections
      (fresh_key old it same_name section_names_in _ found.sections apart.sections);
  ids = finds_more old new node it place index adds at once same_id ids_in (node_with keys.placed) (node_with keys_new.placed) found.ids sets.ids
      (fresh_key old it same_id ids_in _ found.ids apart.ids);
}

module _ (layout : TableLayout) (nodes : List MadeNode) (alike : AreAlike layout nodes) where
  abbrev small : TableLayout
  small = record layout { nodes = nodes }

  -- a place is one for the same nodes
  pub fits_alike : (place : Place) (it : Content) → IsPlaceFor layout place it → IsPlaceFor small place it
  fits_alike place (content.Declared declaration) fits = record { ring = fits.ring; on = fits.on }
  fits_alike place (content.Begun name ring) fits = record { ring = fits.ring; on = fits.on }
  fits_alike place (content.Placed entry) fits = (fits.0, record { ring = fits.1.ring; on = fits.1.on }, owned_alike layout nodes alike fits.0 fits.2)

  -- a node has no key of another
  pub apart_alike : (it : Content) → IsApart layout it → IsApart small it
  apart_alike it apart = record {
    names = λ key other has. key_alike layout nodes alike same_name names_in names_stay key other ∙ apart.names key other has;
    texts = λ key other has. key_alike layout nodes alike same_name texts_in texts_stay key other ∙ apart.texts key other has;
    sections = λ key other has. key_alike layout nodes alike same_name section_names_in section_names_stay key other ∙ apart.sections key other has;
    rings = λ key other has. key_alike layout nodes alike same_ring rings_in rings_stay key other ∙ apart.rings key other has;
    ids = λ key other has. key_alike layout nodes alike same_id ids_in ids_stay key other ∙ apart.ids key other has;
  }

-- what is reserved stays so where nodes are linked otherwise
pub reserved_linked : (layout : TableLayout) (rings : List (List NodeId)) (keys keys_new : NodeKeys) → length rings ≡ length layout.rings → KeepsKeys keys keys_new → IsReserved layout keys
    → IsReserved (record layout { rings = rings }) keys_new
reserved_linked layout rings keys keys_new same kept reserved = record {
  keys_of = λ node it is. keys_stay keys keys_new it kept (reserved.keys_of node it is);
  ring_of = λ node it is. subst (λ n. HasItsRing n it) (sym same) (reserved.ring_of node it is);
}

-- a body is sound with a node put in, where the look-ups found what stood before, and now have the keys of all nodes
pub linked_sound : (layout : TableLayout) (node : NodeId) (it : Content) (place : Place) (declarations sections : RingId) (keys keys_new : NodeKeys) (counts counts_new : Counts)
    → declarations ≡ declarations_ring → sections ≡ sections_ring → IsShaped layout → FindsAll layout keys → IsReserved layout keys_new → counts ≡ counts_at layout
    → StandOnce layout.rings → content_of layout node ≡ Some it → is_in layout.rings node ≡ false → IsPlaceFor layout place it → IsApart layout it
    → SetsKeys keys keys_new it (Some node) → counts_new ≡ counts_with it counts
    → IsSoundBody (with_link layout node place) declarations sections keys_new counts_new
linked_sound layout node it place declarations sections keys keys_new counts counts_new first second shaped_was found reserved counted_was once is loose fits apart sets counted =
    let alike = bare_alike layout node loose in
    let nodes = (bare layout node).nodes in
    let old = bare layout node in
    let new = with_link layout node place in
    let adds = adds_bare new layout.rings node it place is loose refl in
    let shaped = shaped_alike layout nodes alike shaped_was in
    let fits_old = fits_alike layout nodes alike place it fits in
    let apart_old = apart_alike layout nodes alike it apart in
    let put = put_any old new node place once shaped it adds fits_old (reserved.ring_of node it is) apart_old in
    let at = ring_for old place it fits_old in
    record {
      declarations = first;
      begun = second;
      shaped = put.shaped;
      found = found_put old new node it place at.0 keys keys_new adds at.1 once apart_old (found_alike layout nodes alike keys found) sets;
      reserved = reserved_linked layout new.rings keys_new keys_new (length_rings_with place node 0 layout.rings) (all_kept keys_new) reserved;
      counted = counted ∙ (ap (counts_with it) (counted_was ∙ sym (counts_alike layout nodes alike shaped_was)) ∙ sym put.counted);
    }

-- what is reserved stays so where all keys are kept
pub reserved_kept : (layout : TableLayout) (keys keys_new : NodeKeys) → KeepsKeys keys keys_new → IsReserved layout keys → IsReserved layout keys_new
reserved_kept layout keys keys_new kept reserved = record {
  keys_of = λ node it is. keys_stay keys keys_new it kept (reserved.keys_of node it is);
  ring_of = reserved.ring_of;
}

-- the body is sound
pub put_sound : (layout : TableLayout) (node : NodeId) (it : Content) (place : Place) (declarations sections : RingId) (keys keys_new : NodeKeys) (counts counts_new : Counts)
    → IsSoundBody layout declarations sections keys counts → StandOnce layout.rings → content_of layout node ≡ Some it → is_in layout.rings node ≡ false → IsPlaceFor layout place it
    → IsApart layout it
    → SetsKeys keys keys_new it (Some node) → KeepsKeys keys keys_new → counts_new ≡ counts_with it counts
    → IsSoundBody (with_link layout node place) declarations sections keys_new counts_new
put_sound layout node it place declarations sections keys keys_new counts counts_new sound once is loose fits apart sets kept counted =
    linked_sound layout node it place declarations sections keys keys_new counts counts_new sound.declarations sound.begun sound.shaped sound.found
    (reserved_kept layout keys keys_new kept sound.reserved) sound.counted once is loose fits apart sets counted
