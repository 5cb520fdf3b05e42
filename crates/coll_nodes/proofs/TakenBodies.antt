-- A body with a node taken out is sound.
use Rattle.std.proofs.Common.{◌≡◌, ℕ, zero, suc, ◌+◌, ◌<◌, ◌≤◌, Bool, true, false, cond, List, [], ◌∷◌, Option, Some, None, length, get_or, sym, ap, subst, ◌∙◌, refl, arith}
use Rattle.std.specs.List.{list_any}
use Rattle.coll_order.specs.Layout.{head_of, is_in, place_from, rings_with, rings_without}
use Rattle.coll_order.specs.Lists.{same_node, has_node}
use Rattle.coll_order.specs.Sound.{StandOnce}
use Rattle.coll_order.specs.declared.places.NodeId.{NodeId}
use Rattle.coll_order.specs.declared.places.RingId.{RingId}
use Rattle.coll_order.specs.declared.places.Place.{Place}
use Rattle.coll_order.proofs.ListLemmas.{is_in_without, is_in_without_itself, has_without_itself}
use Rattle.coll_order.proofs.RingLemmas.{length_rings_without, rings_put_back, in_some}
use Rattle.coll_order.proofs.Sameness.{by_test, not_both, same_node_is, same_node_itself}
use Rattle.coll_syntax.specs.Identifier.{same_name, same_id}
use Rattle.coll_nodes.specs.Bodies.{without_link}
use Rattle.coll_nodes.specs.BodyInvariant.{IsSoundBody}
use Rattle.coll_nodes.specs.Counting.{counts_at, counts_with, HasOneOf}
use Rattle.coll_nodes.specs.KeyedNodes.{FindsAll, KeepsKeys, SetsKeys}
use Rattle.coll_lookups.specs.NodeLookUps.{node_named, node_with}
use Rattle.coll_nodes.specs.SoundBodies.{read_at, ring_at, has_key, names_in, texts_in, section_names_in, rings_in, ids_in, same_ring}
use Rattle.coll_nodes.specs.SoundBodies.{is_place_of, IsDeclaration, IsSection, IsEntry, IsOwned, IsPlaceIn, IsShaped, Finds, Adds}
use Rattle.coll_nodes.specs.TableLayout.{TableLayout, content_of}
use Rattle.coll_nodes.specs.Moving.{MayBeLoose, Suits}
use Rattle.coll_nodes.specs.declared.contents.Content.{Content}
use Rattle.coll_nodes.specs.declared.contents.Content.TheVariants as content
use Rattle.coll_nodes.specs.declared.counts.Counts.{Counts}
use Rattle.coll_nodes.specs.declared.declarations.Declaration.{Declaration}
use Rattle.coll_nodes.specs.declared.entries.Entry.{Entry}
use Rattle.coll_nodes.specs.declared.node_keys.NodeKeys.{NodeKeys}
use Rattle.coll_nodes.proofs.AlikeLayouts.{owned_alike, shaped_alike, counts_alike, same_counts}
use Rattle.coll_nodes.proofs.BodyReads.{some_same}
use Rattle.coll_nodes.proofs.ChangedNodes.{bare, bare_alike, adds_bare}
use Rattle.coll_nodes.proofs.LayoutMoves.{get_without}
use Rattle.coll_nodes.proofs.LayoutReads.{read_known, both_true, and_true}
use Rattle.coll_nodes.proofs.LayoutSteps.{from_zero}
use Rattle.coll_nodes.proofs.LinkedBodies.{IsPut, put_declared, put_placed, reserved_linked}
use Rattle.coll_nodes.proofs.RingPlaces.{get_put_other, stood, stood_in, once_without}

-- a ring that has a node is there
pub ring_there : (rings : List (List NodeId)) (index : ℕ) (node : NodeId) → has_node (get_or rings index []) node ≡ true → index < length rings
ring_there [] index node there = not_both there refl
ring_there (nodes ∷ rings) zero node there = omega arith
ring_there (nodes ∷ rings) (suc index) node there = let later = ring_there rings index node there in omega (arith, later)

-- what may be loose has no ring
pub loose_ringless : (it : Content) → MayBeLoose it → rings_in it ≡ []
loose_ringless (content.Declared declaration) may = refl
loose_ringless (content.Begun name ring) may = absurd may
loose_ringless (content.Placed entry) may = refl

-- what may stand nowhere may be loose
pub may_be_loose : (layout : TableLayout) (node : NodeId) (it : Content) → content_of layout node ≡ Some it → Suits layout node None → MayBeLoose it
may_be_loose layout node it is suits =
    let found : Some suits.0 ≡ Some it = sym suits.1 ∙ is in
    let same : suits.0 ≡ it = cc in
    subst (λ (other : Content). MayBeLoose other) same suits.2

-- one less is the number before
less : (n m : ℕ) → n + 1 ≡ m + 1 → n ≡ m
less n m e = omega (arith, e)

module _ (old : TableLayout) (node : NodeId) (it : Content) (known : content_of old node ≡ Some it) where
  abbrev mid : TableLayout
  mid = without_link old node

  -- who has a key still is another, and had it
  pub key_had : {Key : Type 0} (same : Key → Key → Bool) (keys : Content → List Key) (key : Key) (other : NodeId) → has_key same keys mid key other ≡ true → (same_node other node ≡ false)
      × (has_key same keys old key other ≡ true)
  key_had same keys key other has =
      let parts = both_true _ _ has in
      let was = stood_in node other old.rings parts.0 in
      (was.0, and_true was.1 parts.1)

  -- another has the keys that it had
  pub key_kept : {Key : Type 0} (same : Key → Key → Bool) (keys : Content → List Key) (key : Key) (other : NodeId) → same_node other node ≡ false → has_key same keys old key other ≡ true
      → has_key same keys mid key other ≡ true
  key_kept same keys key other differ has = let parts = both_true _ _ has in and_true (is_in_without node other old.rings differ ∙ parts.0) parts.1

  -- a look-up in which the node's keys lead nowhere, and that is else as it was, finds what stands there
  finds_less : {Key : Type 0} (same : Key → Key → Bool) (keys : Content → List Key) (find find_new : Key → Option NodeId) → is_in old.rings node ≡ true → Finds same keys old find
      → ((key : Key) → find_new key ≡ cond (list_any (same key) (keys it)) None (find key)) → Finds same keys mid find_new
  finds_less same keys find find_new linked sound sets = record {
    leads = λ key other. λ e. by_test (λ b. list_any (same key) (keys it) ≡ b → cond b None (find key) ≡ Some other → has_key same keys mid key other ≡ true) (list_any (same key) (keys it))
        (λ on t e. cc)
        (λ off t e.
        let has = sound.leads key other e in
        let differ : same_node other node ≡ false = by_test (λ b. same_node other node ≡ b → b ≡ false) (same_node other node)
        (λ is _. not_both (sym (ap (list_any (same key)) (ap (read_at keys old) (same_node_is other node is) ∙ read_known keys old node it known)) ∙ (both_true _ _ has).1) off) (λ apart _. refl)
        refl in
        key_kept same keys key other differ has) refl (sym (sets key) ∙ e);
    finds = λ key other. λ has.
        let had = key_had same keys key other has in
        let found = sound.finds key other had.1 in
        let other_key : list_any (same key) (keys it) ≡ false = by_test (λ b. list_any (same key) (keys it) ≡ b → b ≡ false) (list_any (same key) (keys it))
        (λ on t.
        let mine : find key ≡ Some node = sound.finds key node (and_true linked (ap (list_any (same key)) (read_known keys old node it known) ∙ t)) in
        let same_one : other ≡ node = some_same (sym found ∙ mine) in
        not_both (ap (λ n. same_node n node) same_one ∙ same_node_itself node) had.0) (λ off t. refl) refl in
        sets key ∙ (ap (λ b. cond b None (find key)) other_key ∙ found);
  }

  pub found_taken : (keys keys_new : NodeKeys) → is_in old.rings node ≡ true → FindsAll old keys → SetsKeys keys keys_new it None → FindsAll mid keys_new
  found_taken keys keys_new linked found sets = record {
    names = finds_less same_name names_in (node_named keys.names) (node_named keys_new.names) linked found.names sets.names;
    texts = finds_less same_name texts_in (node_named keys.texts) (node_named keys_new.texts) linked found.texts sets.texts;
    sections = finds_less same_name section_names_in (node_named keys.sections) (node_named keys_new.sections) linked found.sections sets.sections;
    ids = finds_less same_id ids_in (node_with keys.placed) (node_with keys_new.placed) linked found.ids sets.ids;
  }

  -- another stands in the ring where it stood
  pub stood_at : (index : ℕ) (other : NodeId) → has_node (ring_at mid index) other ≡ true → has_node (ring_at old index) other ≡ true
  stood_at index other there = (stood node other (ring_at old index) (sym (ap (λ nodes. has_node nodes other) (get_without node old.rings index)) ∙ there)).1

  module _ (ringless : rings_in it ≡ []) (shaped : IsShaped old) where
    -- a ring that had a section has it still
    pub owned_taken : (index : ℕ) → IsOwned old index → IsOwned mid index
    owned_taken index owned =
        let ring : RingId = record { index = index } in
        let differ : same_node owned.0 node ≡ false = by_test (λ b. same_node owned.0 node ≡ b → b ≡ false) (same_node owned.0 node)
        (λ on _. not_both (sym (ap (list_any (same_ring ring)) (ap (read_at rings_in old) (same_node_is owned.0 node on) ∙ (read_known rings_in old node it known ∙ ringless)))
        ∙ (both_true _ _ owned.1).1) refl) (λ off _. refl) refl in
        (owned.0, key_kept same_ring rings_in ring owned.0 differ owned.1)

    -- the layout is one of a table still
    pub shaped_taken : IsShaped mid
    shaped_taken = record {
      two = subst (λ n. 2 ≤ n) (sym (length_rings_without node old.rings)) shaped.two;
      declared = λ other there. shaped.declared other (stood_at 0 other there);
      begun = λ other there. subst (λ n. IsSection n (content_of old other)) (sym (length_rings_without node old.rings)) (shaped.begun other (stood_at 1 other there));
      placed = λ index other there. let was = shaped.placed index other (stood_at (suc (suc index)) other there) in (was.0, owned_taken (suc (suc index)) was.1);
      own = λ ring a b. λ p q. shaped.own ring a b (key_had same_ring rings_in ring a p).1 (key_had same_ring rings_in ring b q).1;
    }

    -- so is the one without the node's content
    pub shaped_bare : IsShaped (bare mid node)
    shaped_bare = shaped_alike mid (bare mid node).nodes (bare_alike mid node (is_in_without_itself node old.rings)) shaped_taken

  module _ (place : Place) (at : place_from 0 old.rings node ≡ Some place) (once : StandOnce old.rings) where
    -- the rings, with the node put back
    pub back : old.rings ≡ rings_with place node 0 (rings_without node old.rings)
    back = sym (rings_put_back place node 0 old.rings at once)

    -- the node was added to the layout without it
    pub added : Adds (bare mid node) old node it place
    added = adds_bare old (rings_without node old.rings) node it place known (is_in_without_itself node old.rings) back

    -- the place is in the ring where the node stood
    pub place_at : (index : ℕ) → has_node (ring_at old index) node ≡ true → IsPlaceIn (bare mid node) index place
    place_at index there = record {
      ring = subst (λ n. index < n) (sym (length_rings_without node old.rings)) (ring_there old.rings index node there);
      on = by_test (λ b. is_place_of place (head_of index) (ring_at mid index) ≡ b → b ≡ true) (is_place_of place (head_of index) (ring_at mid index))
          (λ on _. refl)
          (λ off _.
          let stays : ring_at old index ≡ ring_at mid index = ap (λ rings. get_or rings index []) back
          ∙ get_put_other place node 0 index (rings_without node old.rings) (ap (λ k. is_place_of place (head_of k) (ring_at mid index)) (from_zero index) ∙ off) in
          not_both (sym (ap (λ nodes. has_node nodes node) (stays ∙ get_without node old.rings index)) ∙ there) (has_without_itself node (ring_at old index))) refl;
    }

-- a declaration stands in the ring of the declarations
pub declared_ring : (layout : TableLayout) (node : NodeId) (declaration : Declaration) → IsShaped layout → content_of layout node ≡ Some (content.Declared declaration) → (index : ℕ)
    → has_node (ring_at layout index) node ≡ true → index ≡ 0
declared_ring layout node declaration shaped is zero there = refl
declared_ring layout node declaration shaped is (suc zero) there = absurd (subst (λ found. IsSection (length layout.rings) found) is (shaped.begun node there))
declared_ring layout node declaration shaped is (suc (suc index)) there = absurd (subst (λ found. IsEntry found) is (shaped.placed index node there).0)

-- a section in that of the sections
pub begun_ring : (layout : TableLayout) (node : NodeId) (name : Option (List ℕ)) (ring : RingId) → IsShaped layout → content_of layout node ≡ Some (content.Begun name ring) → (index : ℕ)
    → has_node (ring_at layout index) node ≡ true → index ≡ 1
begun_ring layout node name ring shaped is zero there = absurd (subst (λ found. IsDeclaration found) is (shaped.declared node there))
begun_ring layout node name ring shaped is (suc zero) there = refl
begun_ring layout node name ring shaped is (suc (suc index)) there = absurd (subst (λ found. IsEntry found) is (shaped.placed index node there).0)

-- an entry in that of a section
pub placed_ring : (layout : TableLayout) (node : NodeId) (entry : Entry) → IsShaped layout → content_of layout node ≡ Some (content.Placed entry) → (index : ℕ)
    → has_node (ring_at layout index) node ≡ true → IsOwned layout index
placed_ring layout node entry shaped is zero there = absurd (subst (λ found. IsDeclaration found) is (shaped.declared node there))
placed_ring layout node entry shaped is (suc zero) there = absurd (subst (λ found. IsSection (length layout.rings) found) is (shaped.begun node there))
placed_ring layout node entry shaped is (suc (suc index)) there = (shaped.placed index node there).1

-- the layout with a node has one more than that without it
pub put_back : (old : TableLayout) (node : NodeId) (it : Content) (place : Place) → content_of old node ≡ Some it → place_from 0 old.rings node ≡ Some place → StandOnce old.rings → IsShaped old
    → is_in old.rings node ≡ true → MayBeLoose it
    → IsPut (bare (without_link old node) node) old it
put_back old node (content.Declared declaration) place known at once shaped linked may =
    let stands = in_some old.rings node linked in
    let it : Content = content.Declared declaration in
    put_declared (bare (without_link old node) node) old node place (once_without node old.rings once) (shaped_bare old node it known refl shaped) declaration (added old node it known place at once)
    (subst (λ k. IsPlaceIn (bare (without_link old node) node) k place) (declared_ring old node declaration shaped known stands.0 stands.1)
    (place_at old node it known place at once stands.0 stands.1))
put_back old node (content.Begun name ring) place known at once shaped linked may = absurd may
put_back old node (content.Placed entry) place known at once shaped linked may =
    let stands = in_some old.rings node linked in
    let it : Content = content.Placed entry in
    let mid = without_link old node in
    let alike = bare_alike mid node (is_in_without_itself node old.rings) in
    let owned = owned_taken old node it known refl shaped stands.0 (placed_ring old node entry shaped known stands.0 stands.1) in
    put_placed (bare mid node) old node place (once_without node old.rings once) (shaped_bare old node it known refl shaped) entry (added old node it known place at once)
    stands.0 (place_at old node it known place at once stands.0 stands.1) (owned_alike mid (bare mid node).nodes alike stands.0 owned)

-- the counts without a node are as many as those with it, but for that one
pub counts_taken : (old : TableLayout) (node : NodeId) (it : Content) (place : Place) → content_of old node ≡ Some it → place_from 0 old.rings node ≡ Some place → StandOnce old.rings → IsShaped old
    → is_in old.rings node ≡ true → MayBeLoose it
    → counts_at old ≡ counts_with it (counts_at (without_link old node))
counts_taken old node it place known at once shaped linked may =
    let mid = without_link old node in
    (put_back old node it place known at once shaped linked may).counted
    ∙ ap (counts_with it) (counts_alike mid (bare mid node).nodes (bare_alike mid node (is_in_without_itself node old.rings)) (shaped_taken old node it known (loose_ringless it may) shaped))

-- one more of two counts is one more of the same
pub same_count : (it : Content) (a b : Counts) → counts_with it a ≡ counts_with it b → a ≡ b
same_count (content.Declared declaration) a b e = same_counts _ _ _ _ _ _ (less _ _ (ap (λ (c : Counts). c.declarations) e)) (ap (λ (c : Counts). c.sections) e) (ap (λ (c : Counts). c.entries) e)
same_count (content.Begun name ring) a b e = same_counts _ _ _ _ _ _ (ap (λ (c : Counts). c.declarations) e) (less _ _ (ap (λ (c : Counts). c.sections) e)) (ap (λ (c : Counts). c.entries) e)
same_count (content.Placed entry) a b e = same_counts _ _ _ _ _ _ (ap (λ (c : Counts). c.declarations) e) (ap (λ (c : Counts). c.sections) e) (less _ _ (ap (λ (c : Counts). c.entries) e))

-- where a node stands, there is one of its kind
pub one_there : (it : Content) (counts less : Counts) → counts ≡ counts_with it less → HasOneOf it counts
one_there (content.Declared declaration) counts less e = let n = ap (λ (c : Counts). c.declarations) e in omega (arith, n)
one_there (content.Begun name ring) counts less e = let n = ap (λ (c : Counts). c.sections) e in omega (arith, n)
one_there (content.Placed entry) counts less e = let n = ap (λ (c : Counts). c.entries) e in omega (arith, n)

-- the body is sound
pub taken_sound : (old : TableLayout) (node : NodeId) (it : Content) (place : Place) (declarations sections : RingId) (keys keys_new : NodeKeys) (counts counts_new : Counts)
    → IsSoundBody old declarations sections keys counts → StandOnce old.rings → content_of old node ≡ Some it → place_from 0 old.rings node ≡ Some place → is_in old.rings node ≡ true → MayBeLoose it
    → SetsKeys keys keys_new it None → KeepsKeys keys keys_new → counts ≡ counts_with it counts_new
    → IsSoundBody (without_link old node) declarations sections keys_new counts_new
taken_sound old node it place declarations sections keys keys_new counts counts_new sound once known at linked may sets kept counted = record {
  declarations = sound.declarations;
  begun = sound.begun;
  shaped = shaped_taken old node it known (loose_ringless it may) sound.shaped;
  found = found_taken old node it known keys keys_new linked sound.found sets;
  reserved = reserved_linked old (rings_without node old.rings) keys keys_new (length_rings_without node old.rings) kept sound.reserved;
  counted = same_count it counts_new (counts_at (without_link old node)) (sym counted ∙ (sound.counted ∙ counts_taken old node it place known at once sound.shaped linked may));
}
