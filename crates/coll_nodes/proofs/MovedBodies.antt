-- A body with a node moved is sound.
use Rattle.std.proofs.Common.{◌≡◌, ℕ, suc, ◌+◌, ◌≤◌, Bool, true, false, ◌&&◌, ◌||◌, cond, List, [], ◌∷◌, Option, Some, length, flat_map, sym, ap, subst, ◌∙◌, refl, arith}
use Rattle.std.specs.List.{list_any}
use Rattle.std.proofs.lemmas.List.{length-append}
use Rattle.coll_order.specs.Layout.{head_of, is_in, place_from, rings_with, rings_without}
use Rattle.coll_order.specs.Lists.{same_node, same_place, has_node, put_after}
use Rattle.coll_order.specs.Sound.{StandOnce}
use Rattle.coll_order.specs.declared.places.NodeId.{NodeId}
use Rattle.coll_order.specs.declared.places.RingId.{RingId}
use Rattle.coll_order.specs.declared.places.Place.{Place}
use Rattle.coll_order.specs.declared.places.Place.TheVariants.{After}
use Rattle.coll_order.proofs.ListLemmas.{is_in_without_itself}
use Rattle.coll_order.proofs.RingLemmas.{length_rings_with, length_rings_without, in_some}
use Rattle.coll_order.proofs.Sameness.{by_test, not_both, same_node_is}
use Rattle.coll_syntax.specs.Identifier.{same_name, same_id}
use Rattle.coll_nodes.specs.Bodies.{with_link, without_link}
use Rattle.coll_nodes.specs.BodyInvariant.{IsSoundBody}
use Rattle.coll_nodes.specs.Counting.{counts_at}
use Rattle.coll_nodes.specs.KeyedNodes.{FindsAll}
use Rattle.coll_nodes.specs.SoundBodies.{read_at, ring_at, has_key, names_in, texts_in, section_names_in, rings_in, ids_in, same_ring, is_place_of, IsSection, IsPlaceIn, IsShaped, Finds, Adds}
use Rattle.coll_nodes.specs.Table.{Section}
use Rattle.coll_nodes.specs.TableLayout.{TableLayout, content_of, declaration_in, entry_in, section_in, entries_in}
use Rattle.coll_nodes.specs.Moving.{IsPlaceFor}
use Rattle.coll_nodes.specs.declared.contents.Content.{Content}
use Rattle.coll_nodes.specs.declared.contents.Content.TheVariants as content
use Rattle.coll_nodes.specs.declared.counts.Counts.{Counts}
use Rattle.coll_nodes.specs.declared.declarations.Declaration.{Declaration}
use Rattle.coll_nodes.specs.declared.entries.Entry.{Entry}
use Rattle.coll_nodes.specs.declared.node_keys.NodeKeys.{NodeKeys}
use Rattle.coll_nodes.proofs.AlikeLayouts.{same_counts}
use Rattle.coll_nodes.proofs.ChangedNodes.{bare, bare_alike, adds_bare}
use Rattle.coll_nodes.proofs.KeyedNodes.{all_kept}
use Rattle.coll_nodes.proofs.LayoutReads.{declared_read, sections_read, entries_read, joined_at, joined_read, joined_known, read_known, section_at}
use Rattle.coll_nodes.proofs.LayoutSteps.{in_itself, in_other, ring_put, ring_other, has_other, stands_in}
use Rattle.coll_nodes.proofs.LinkedBodies.{put_declared, put_placed, fits_alike, reserved_linked, ring_for}
use Rattle.coll_nodes.proofs.NodeLists.{same_read, same_length}
use Rattle.coll_nodes.proofs.RingPlaces.{once_without}
use Rattle.coll_nodes.proofs.TakenBodies.{shaped_bare, added, place_at, begun_ring, put_back}

-- a list with a node put in is longer by what is read of the node
length_put : {X : Type 0} (f : NodeId → List X) (place start : Place) (node : NodeId) (nodes : List NodeId) → is_place_of place start nodes ≡ true
    → length (flat_map f (put_after place node start nodes)) ≡ length (f node) + length (flat_map f nodes)
length_put f place start node [] on =
    by_test (λ b. (b || false) ≡ true → length (flat_map f (cond b (node ∷ []) [])) ≡ length (f node) + 0) (same_place place start)
    (λ here e. length-append (f node) []) (λ off e. not_both e refl) on
length_put f place start node (first ∷ rest) on =
    by_test (λ b. (b || is_place_of place (After first) rest) ≡ true → length (flat_map f (cond b (node ∷ first ∷ rest) (first ∷ put_after place node (After first) rest)))
    ≡ length (f node) + length (flat_map f (first ∷ rest))) (same_place place start)
    (λ here e. length-append (f node) (flat_map f (first ∷ rest)))
    (λ off e.
    let later = length_put f place (After first) node rest e in
    let now = length-append (f first) (flat_map f (put_after place node (After first) rest)) in
    let was = length-append (f first) (flat_map f rest) in
    omega (arith, later, now, was)) on

module _ (old : TableLayout) (node : NodeId) (it : Content) (from place : Place) (known : content_of old node ≡ Some it) (at : place_from 0 old.rings node ≡ Some from) (once : StandOnce old.rings)
    (linked : is_in old.rings node ≡ true) (fits : IsPlaceFor (without_link old node) place it) where
  abbrev mid : TableLayout
  mid = without_link old node

  abbrev small : TableLayout
  small = bare mid node

  abbrev new : TableLayout
  new = with_link mid node place

  once_small : StandOnce small.rings
  once_small = once_without node old.rings once

  -- the node's new place, among the nodes without it
  fits_small : IsPlaceFor small place it
  fits_small = fits_alike mid small.nodes (bare_alike mid node (is_in_without_itself node old.rings)) place it fits

  abbrev to : (index : ℕ) × IsPlaceIn small index place
  to = ring_for small place it fits_small

  -- it was added there
  adds : Adds small new node it place
  adds = adds_bare new (rings_without node old.rings) node it place known (is_in_without_itself node old.rings) refl

  was_added : Adds small old node it from
  was_added = added old node it known from at once

  -- it stood in this ring
  abbrev stands : (index : ℕ) × (has_node (ring_at old index) node ≡ true)
  stands = in_some old.rings node linked

  was_at : IsPlaceIn small stands.0 from
  was_at = place_at old node it known from at once stands.0 stands.1

  -- each node stands in a ring where it stood in one
  moved_in : (other : NodeId) → is_in new.rings other ≡ is_in old.rings other
  moved_in other = by_test (λ b. same_node other node ≡ b → is_in new.rings other ≡ is_in old.rings other) (same_node other node)
      (λ on _.
      let is = same_node_is other node on in
      ap (is_in new.rings) is ∙ (in_itself small new node it place to.0 adds to.1 once_small ∙ sym (ap (is_in old.rings) is ∙ linked)))
      (λ off _. in_other small new node it place to.0 adds to.1 once_small other off ∙ sym (in_other small old node it from stands.0 was_added was_at once_small other off)) refl

  -- each node has the keys that it had
  pub moved_key : {Key : Type 0} (same : Key → Key → Bool) (keys : Content → List Key) (key : Key) (other : NodeId) → has_key same keys new key other ≡ has_key same keys old key other
  moved_key same keys key other = ap (λ b. b && list_any (same key) (read_at keys old other)) (moved_in other)

  -- what is found is found
  moved_finds : {Key : Type 0} (same : Key → Key → Bool) (keys : Content → List Key) (find : Key → Option NodeId) → Finds same keys old find → Finds same keys new find
  moved_finds same keys find finds = record {
    leads = λ key other. λ is. moved_key same keys key other ∙ finds.leads key other is;
    finds = λ key other. λ has. finds.finds key other (sym (moved_key same keys key other) ∙ has);
  }

  pub found_moved : (keys : NodeKeys) → FindsAll old keys → FindsAll new keys
  found_moved keys found = record {
    names = moved_finds same_name names_in _ found.names;
    texts = moved_finds same_name texts_in _ found.texts;
    sections = moved_finds same_name section_names_in _ found.sections;
    ids = moved_finds same_id ids_in _ found.ids;
  }

  -- as many rings
  pub moved_rings : length new.rings ≡ length old.rings
  moved_rings = length_rings_with place node 0 (rings_without node old.rings) ∙ length_rings_without node old.rings

-- what a layout is with a node moved
pub record IsMoved (old new : TableLayout) : Type 0 where
  pub shaped : IsShaped new
  pub counted : counts_at new ≡ counts_at old

-- a section that is moved
module _ (old : TableLayout) (node : NodeId) (name : Option (List ℕ)) (own : RingId) (from place : Place) (known : content_of old node ≡ Some (content.Begun name own))
    (at : place_from 0 old.rings node ≡ Some from) (once : StandOnce old.rings)
    (linked : is_in old.rings node ≡ true) (fits : IsPlaceIn (without_link old node) 1 place) (shaped : IsShaped old) where
  abbrev it : Content
  it = content.Begun name own

  abbrev moved : TableLayout
  moved = new old node it from place known at once linked fits

  abbrev rest : TableLayout
  rest = small old node it from place known at once linked fits

  rest_once : StandOnce rest.rings
  rest_once = once_small old node it from place known at once linked fits

  adds_now : Adds rest moved node it place
  adds_now = adds old node it from place known at once linked fits

  adds_then : Adds rest old node it from
  adds_then = was_added old node it from place known at once linked fits

  at_now : IsPlaceIn rest 1 place
  at_now = record { ring = fits.ring; on = fits.on }

  stood_then : (index : ℕ) × (has_node (ring_at old index) node ≡ true)
  stood_then = in_some old.rings node linked

  at_then : IsPlaceIn rest 1 from
  at_then = subst (λ k. IsPlaceIn rest k from) (begun_ring old node name own shaped known stood_then.0 stood_then.1) (place_at old node it known from at once stood_then.0 stood_then.1)

  there_then : has_node (ring_at old 1) node ≡ true
  there_then = subst (λ k. has_node (ring_at old k) node ≡ true) (begun_ring old node name own shaped known stood_then.0 stood_then.1) stood_then.1

  -- every other ring is as it was
  others : (index : ℕ) → (1 ≡ index → ⊥) → ring_at moved index ≡ ring_at old index
  others index differ = ring_other rest moved node it place 1 adds_now at_now rest_once index differ ∙ sym (ring_other rest old node it from 1 adds_then at_then rest_once index differ)

  -- that of the sections reads as much
  as_long : {X : Type 0} (f : NodeId → List X) → length (flat_map f (ring_at moved 1)) ≡ length (flat_map f (ring_at old 1))
  as_long f =
      ap (λ nodes. length (flat_map f nodes)) (ring_put rest moved node it place 1 adds_now at_now rest_once)
      ∙ (length_put f place (head_of 1) node (ring_at rest 1) at_now.on
      ∙ sym (ap (λ nodes. length (flat_map f nodes)) (ring_put rest old node it from 1 adds_then at_then rest_once) ∙ length_put f from (head_of 1) node (ring_at rest 1) at_then.on))

  -- each node stands in the ring where it stood
  stood_there : (index : ℕ) (other : NodeId) → has_node (ring_at moved index) other ≡ true → has_node (ring_at old index) other ≡ true
  stood_there index other there = by_test (λ b. same_node other node ≡ b → has_node (ring_at old index) other ≡ true) (same_node other node)
      (λ on _.
      let is = same_node_is other node on in
      let one : 1 ≡ index = stands_in rest moved node it place 1 adds_now at_now rest_once index (ap (has_node (ring_at moved index)) (sym is) ∙ there) in
      ap (has_node (ring_at old index)) is ∙ subst (λ k. has_node (ring_at old k) node ≡ true) one there_then)
      (λ off _. has_other rest old node it from 1 adds_then at_then rest_once index other off ∙ (sym (has_other rest moved node it place 1 adds_now at_now rest_once index other off) ∙ there)) refl

  as_many_rings : length moved.rings ≡ length old.rings
  as_many_rings = moved_rings old node it from place known at once linked fits

  key_moved : (ring : RingId) (other : NodeId) → has_key same_ring rings_in moved ring other ≡ has_key same_ring rings_in old ring other
  key_moved = moved_key old node it from place known at once linked fits same_ring rings_in

  -- the layout is one of a table still
  begun_shaped : IsShaped moved
  begun_shaped = record {
    two = subst (λ n. 2 ≤ n) (sym as_many_rings) shaped.two;
    declared = λ other there. shaped.declared other (stood_there 0 other there);
    begun = λ other there. subst (λ n. IsSection n (content_of old other)) (sym as_many_rings) (shaped.begun other (stood_there 1 other there));
    placed = λ index other there.
        let had = shaped.placed index other (stood_there (suc (suc index)) other there) in
        (had.0, (had.1.0, key_moved (record { index = suc (suc index) }) had.1.0 ∙ had.1.1));
    own = λ ring a b. λ p q. shaped.own ring a b (sym (key_moved ring a) ∙ p) (sym (key_moved ring b) ∙ q);
  }

  -- each section has the entries that it had
  entries_then : (ring : RingId) → 2 ≤ ring.index → entries_in moved ring ≡ entries_in old ring
  entries_then ring high = entries_read moved ring ∙ (ap (flat_map (read_at entry_in old)) (others ring.index (λ e. absurd (omega (arith, e, high)))) ∙ sym (entries_read old ring))

  begun_counted : counts_at moved ≡ counts_at old
  begun_counted = same_counts _ _ _ _ _ _
      (ap (λ (xs : List Declaration). length xs) (declared_read moved ∙ (ap (flat_map (read_at declaration_in old)) (others 0 (λ e. absurd (omega (arith, e)))) ∙ sym (declared_read old))))
      (ap (λ (xs : List Section). length xs) (sections_read moved)
      ∙ (as_long (read_at (section_in moved) moved)
      ∙ (same_length (read_at (section_in old) old) (read_at (section_in moved) moved) (ring_at old 1) (λ other there.
      let is = section_at old shaped other there in
      ap (λ (xs : List Section). length xs) (read_known (section_in moved) moved other (content.Begun is.0 is.1) is.2)
      ∙ sym (ap (λ (xs : List Section). length xs) (read_known (section_in old) old other (content.Begun is.0 is.1) is.2)))
      ∙ ap (λ (xs : List Section). length xs) (sym (sections_read old)))))
      (ap (λ (xs : List Entry). length xs) (joined_read moved)
      ∙ (as_long (joined_at moved)
      ∙ (ap (λ (xs : List Entry). length xs) (same_read (joined_at old) (joined_at moved) (ring_at old 1) (λ other there.
      let is = section_at old shaped other there in
      joined_known moved other is.0 is.1 is.2 ∙ (entries_then is.1 is.3 ∙ sym (joined_known old other is.0 is.1 is.2))))
      ∙ ap (λ (xs : List Entry). length xs) (sym (joined_read old)))))

  pub begun_moved : IsMoved old moved
  begun_moved = record { shaped = begun_shaped; counted = begun_counted }

-- a node of any kind that is moved
pub moved_any : (old : TableLayout) (node : NodeId) (it : Content) (from place : Place) (known : content_of old node ≡ Some it) (at : place_from 0 old.rings node ≡ Some from)
    (once : StandOnce old.rings)
    → (linked : is_in old.rings node ≡ true) → (fits : IsPlaceFor (without_link old node) place it) → IsShaped old → IsMoved old (with_link (without_link old node) node place)
moved_any old node (content.Declared declaration) from place known at once linked fits shaped =
    let it : Content = content.Declared declaration in
    let put = put_declared (bare (without_link old node) node) (with_link (without_link old node) node place) node place (once_small old node it from place known at once linked fits)
    (shaped_bare old node it known refl shaped) declaration
    (adds old node it from place known at once linked fits) (fits_small old node it from place known at once linked fits) in
    record { shaped = put.shaped; counted = put.counted ∙ sym (put_back old node it from known at once shaped linked tt).counted }
moved_any old node (content.Begun name ring) from place known at once linked fits shaped = begun_moved old node name ring from place known at once linked fits shaped
moved_any old node (content.Placed entry) from place known at once linked fits shaped =
    let it : Content = content.Placed entry in
    let fits_rest = fits_small old node it from place known at once linked fits in
    let put = put_placed (bare (without_link old node) node) (with_link (without_link old node) node place) node place (once_small old node it from place known at once linked fits)
    (shaped_bare old node it known refl shaped) entry
    (adds old node it from place known at once linked fits) fits_rest.0 fits_rest.1 fits_rest.2 in
    record { shaped = put.shaped; counted = put.counted ∙ sym (put_back old node it from known at once shaped linked tt).counted }

-- the body is sound, with the look-ups and counts that it had
pub moved_sound : (old : TableLayout) (node : NodeId) (it : Content) (from place : Place) (declarations sections : RingId) (keys : NodeKeys) (counts : Counts)
    → IsSoundBody old declarations sections keys counts → StandOnce old.rings → content_of old node ≡ Some it → place_from 0 old.rings node ≡ Some from → is_in old.rings node ≡ true
    → IsPlaceFor (without_link old node) place it
    → IsSoundBody (with_link (without_link old node) node place) declarations sections keys counts
moved_sound old node it from place declarations sections keys counts sound once known at linked fits =
    let moved = moved_any old node it from place known at once linked fits sound.shaped in
    record {
      declarations = sound.declarations;
      begun = sound.begun;
      shaped = moved.shaped;
      found = found_moved old node it from place known at once linked fits keys sound.found;
      reserved = reserved_linked old (rings_with place node 0 (rings_without node old.rings)) keys keys (moved_rings old node it from place known at once linked fits) (all_kept keys) sound.reserved;
      counted = sound.counted ∙ sym moved.counted;
    }
