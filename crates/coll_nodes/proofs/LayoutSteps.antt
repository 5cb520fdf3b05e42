-- A node more in a layout: what the look-ups find then, and that the layout is one of a table still.
use Rattle.std.proofs.Common.{◌≡◌, ℕ, zero, suc, ◌<◌, ◌≤◌, Bool, true, false, ◌&&◌, cond, List, [], ◌∷◌, Option, Some, None}
use Rattle.std.proofs.Common.{length, eqb, flat_map, slice_index_or, ◌+◌, sym, ap, subst, ◌∙◌, refl, arith}
use Rattle.std.specs.List.{list_any}
use Rattle.std.proofs.lemmas.Bool.Decides.{Decides-eqb}
use Rattle.coll_order.specs.Layout.{head_of, is_in}
use Rattle.coll_order.specs.Lists.{same_node, has_node, put_after}
use Rattle.coll_order.specs.Sound.{StandOnce}
use Rattle.coll_order.specs.declared.places.NodeId.{NodeId}
use Rattle.coll_order.specs.declared.places.RingId.{RingId}
use Rattle.coll_order.specs.declared.places.Place.{Place}
use Rattle.coll_order.proofs.ListLemmas.{is_among, or_first, or_second, has_put}
use Rattle.coll_order.proofs.RingLemmas.{is_in_put, is_in_put_itself, length_rings_with, get_put}
use Rattle.coll_order.proofs.Sameness.{by_test, not_both, same_node_is, same_node_itself}
use Rattle.coll_nodes.specs.SoundBodies.{read_at, ring_at, has_key, rings_in, same_ring, is_place_of, IsDeclaration, IsSection, IsEntry, IsOwned, IsShaped, Finds, IsPlaceIn, Adds}
use Rattle.coll_nodes.specs.TableLayout.{TableLayout, content_of, if_any}
use Rattle.coll_nodes.specs.declared.contents.Content.{Content}
use Rattle.coll_nodes.proofs.LayoutReads.{read_known, both_true, in_rings}
use Rattle.coll_nodes.proofs.RingPlaces.{get_put_other, place_off}

-- a number counted from 0 is itself
pub from_zero : (index : ℕ) → 0 + index ≡ index
from_zero index = omega arith

-- a place that is in a ring is in the rings
place_in_rings : (place : Place) (first index : ℕ) (rings : List (List NodeId)) → index < length rings → is_place_of place (head_of (first + index)) (slice_index_or rings index []) ≡ true
    → is_among place first rings ≡ true
place_in_rings place first index [] below on = absurd (omega arith)
place_in_rings place first zero (nodes ∷ rings) below on =
    let same : first + zero ≡ first = omega arith in
    or_first (is_place_of place (head_of first) nodes) _ (ap (λ k. is_place_of place (head_of k) nodes) (sym same) ∙ on)
place_in_rings place first (suc index) (nodes ∷ rings) below on =
    let same : suc first + index ≡ first + suc index = omega arith in
    or_second (is_place_of place (head_of first) nodes) _
    (place_in_rings place (suc first) index rings (omega arith) (ap (λ k. is_place_of place (head_of k) (slice_index_or rings index [])) same ∙ on))

-- a node that is in a list isn't one that is not
pub member_differs : (nodes : List NodeId) (other node : NodeId) → has_node nodes other ≡ true → has_node nodes node ≡ false → same_node other node ≡ false
member_differs nodes other node there absent = by_test (λ b. same_node other node ≡ b → b ≡ false) (same_node other node)
    (λ on e. not_both (subst (λ n. has_node nodes n ≡ true) (same_node_is other node e) there) absent) (λ off e. refl) refl

module _ (old new : TableLayout) (node : NodeId) (node_content : Content) (place : Place) (index : ℕ)
    (adds : Adds old new node node_content place) (at : IsPlaceIn old index place) (once : StandOnce old.rings) where
  -- the node is what it was made
  pub content_itself : content_of new node ≡ Some node_content
  content_itself = adds.makes.contents node ∙ ap (λ b. cond b (Some node_content) (content_of old node)) (same_node_itself node)

  -- the others are what they were
  pub content_other : (other : NodeId) → same_node other node ≡ false → content_of new other ≡ content_of old other
  content_other other differ = adds.makes.contents other ∙ ap (λ b. cond b (Some node_content) (content_of old other)) differ

  -- the node stands in the rings
  pub in_itself : is_in new.rings node ≡ true
  in_itself = ap (λ rings. is_in rings node) adds.rings
      ∙ is_in_put_itself place node 0 old.rings (place_in_rings place 0 index old.rings at.ring (ap (λ k. is_place_of place (head_of k) (ring_at old index)) (from_zero index) ∙ at.on))

  -- the others stand where they stood
  pub in_other : (other : NodeId) → same_node other node ≡ false → is_in new.rings other ≡ is_in old.rings other
  in_other other differ = ap (λ rings. is_in rings other) adds.rings ∙ is_in_put place node other 0 old.rings differ

  -- there are as many rings
  pub as_many : length new.rings ≡ length old.rings
  as_many = ap (λ rings. length rings) adds.rings ∙ length_rings_with place node 0 old.rings

  -- the ring of the place has the node
  pub ring_put : ring_at new index ≡ put_after place node (head_of index) (ring_at old index)
  ring_put = ap (λ rings. slice_index_or rings index []) adds.rings ∙ (get_put place node 0 index old.rings at.ring ∙ ap (λ k. put_after place node (head_of k) (ring_at old index)) (from_zero index))

  -- the other rings are as they were
  pub ring_other : (other : ℕ) → (index ≡ other → ⊥) → ring_at new other ≡ ring_at old other
  ring_other other differ = ap (λ rings. slice_index_or rings other []) adds.rings
      ∙ get_put_other place node 0 other old.rings (ap (λ k. is_place_of place (head_of k) (ring_at old other)) (from_zero other) ∙ place_off old.rings place index other once at.on differ)

  -- the node stood in no ring
  pub absent : (other : ℕ) → has_node (ring_at old other) node ≡ false
  absent other = by_test (λ b. has_node (ring_at old other) node ≡ b → b ≡ false) (has_node (ring_at old other) node) (λ on e. not_both (in_rings old other node e) adds.apart) (λ off e. refl) refl

  -- each ring has the others that it had
  pub has_other : (ring : ℕ) (other : NodeId) → same_node other node ≡ false → has_node (ring_at new ring) other ≡ has_node (ring_at old ring) other
  has_other ring other differ = by_test (λ b. eqb index ring ≡ b → has_node (ring_at new ring) other ≡ has_node (ring_at old ring) other) (eqb index ring)
      (λ on e. subst (λ k. has_node (ring_at new k) other ≡ has_node (ring_at old k) other) ((Decides-eqb index ring).0 e)
      (ap (λ nodes. has_node nodes other) ring_put ∙ has_put place (head_of index) node other (ring_at old index) differ))
      (λ off e. ap (λ nodes. has_node nodes other) (ring_other ring (λ same. not_both ((Decides-eqb index ring).1 same) e))) refl

  -- the node stands in the ring of the place alone
  pub stands_in : (ring : ℕ) → has_node (ring_at new ring) node ≡ true → index ≡ ring
  stands_in ring there = by_test (λ b. eqb index ring ≡ b → index ≡ ring) (eqb index ring)
      (λ on e. (Decides-eqb index ring).0 e)
      (λ off e. not_both (sym (ap (λ nodes. has_node nodes node) (ring_other ring (λ same. not_both ((Decides-eqb index ring).1 same) e))) ∙ there) (absent ring)) refl

  -- of the others the same is read
  pub read_other : {X : Type 0} (keys : Content → List X) (other : NodeId) → same_node other node ≡ false → read_at keys new other ≡ read_at keys old other
  read_other keys other differ = ap (λ found. flat_map keys (if_any found)) (content_other other differ)

  -- of the node what it was made
  pub read_itself : {X : Type 0} (keys : Content → List X) → read_at keys new node ≡ keys node_content
  read_itself keys = read_known keys new node node_content content_itself

  module _ {Key : Type 0} (same : Key → Key → Bool) (keys : Content → List Key) where
    -- the others have the keys that they had
    pub key_other : (key : Key) (other : NodeId) → same_node other node ≡ false → has_key same keys new key other ≡ has_key same keys old key other
    key_other key other differ = ap (λ b. b && list_any (same key) (read_at keys new other)) (in_other other differ)
        ∙ ap (λ xs. is_in old.rings other && list_any (same key) xs) (read_other keys other differ)

    -- the node has its own
    pub key_itself : (key : Key) → has_key same keys new key node ≡ list_any (same key) (keys node_content)
    key_itself key = ap (λ b. b && list_any (same key) (read_at keys new node)) in_itself ∙ ap (λ xs. list_any (same key) xs) (read_itself keys)

    -- a node that had a key is another
    pub had_differs : (key : Key) (other : NodeId) → has_key same keys old key other ≡ true → same_node other node ≡ false
    had_differs key other had = by_test (λ b. same_node other node ≡ b → b ≡ false) (same_node other node)
        (λ on e. not_both (subst (λ n. is_in old.rings n ≡ true) (same_node_is other node e) (both_true _ _ had).0) adds.apart) (λ off e. refl) refl

    -- a look-up that leads to the node by its keys, and is else as it was, finds what stands there
    pub finds_more : (find find_new : Key → Option NodeId) → Finds same keys old find
        → ((key : Key) → find_new key ≡ cond (list_any (same key) (keys node_content)) (Some node) (find key))
        → ((key : Key) → list_any (same key) (keys node_content) ≡ true → find key ≡ None) → Finds same keys new find_new
    finds_more find find_new sound sets fresh = record {
      leads = λ key other. λ e. by_test (λ b. list_any (same key) (keys node_content) ≡ b → cond b (Some node) (find key) ≡ Some other → has_key same keys new key other ≡ true)
          (list_any (same key) (keys node_content))
          (λ on t e. let it : node ≡ other = cc in subst (λ n. has_key same keys new key n ≡ true) it (key_itself key ∙ t))
          (λ off t e. let had = sound.leads key other e in key_other key other (had_differs key other had) ∙ had) refl (sym (sets key) ∙ e);
      finds = λ key other. λ has. by_test (λ b. same_node other node ≡ b → find_new key ≡ Some other) (same_node other node)
          (λ on t.
          let it : other ≡ node = same_node_is other node t in
          let given : list_any (same key) (keys node_content) ≡ true = sym (key_itself key) ∙ subst (λ n. has_key same keys new key n ≡ true) it has in
          sets key ∙ (ap (λ b. cond b (Some node) (find key)) given ∙ ap Some (sym it)))
          (λ off t.
          let found : find key ≡ Some other = sound.finds key other (sym (key_other key other t) ∙ has) in
          sets key ∙ by_test (λ b. list_any (same key) (keys node_content) ≡ b → cond b (Some node) (find key) ≡ Some other) (list_any (same key) (keys node_content))
          (λ on e. let none = fresh key e in cc) (λ off e. found) refl) refl;
    }

  -- a ring that had a section has it still
  pub owned_still : (ring : ℕ) → IsOwned old ring → IsOwned new ring
  owned_still ring owned = (owned.0, key_other same_ring rings_in (record { index = ring }) owned.0 (had_differs same_ring rings_in (record { index = ring }) owned.0 owned.1) ∙ owned.1)

  -- the layout is one of a table still, where the node is what its ring may have, and no other section has its ring
  pub shaped_more : IsShaped old → (index ≡ 0 → IsDeclaration (Some node_content)) → (index ≡ 1 → IsSection (length old.rings) (Some node_content))
      → ((ring : ℕ) → index ≡ suc (suc ring) → IsEntry (Some node_content) × IsOwned old (suc (suc ring)))
      → ((ring : RingId) (other : NodeId) → list_any (same_ring ring) (rings_in node_content) ≡ true → has_key same_ring rings_in old ring other ≡ true → ⊥)
      → IsShaped new
  shaped_more shaped declares begins places apart = record {
    two = subst (λ n. 2 ≤ n) (sym as_many) shaped.two;
    declared = λ other. λ there. by_test (λ b. same_node other node ≡ b → IsDeclaration (content_of new other)) (same_node other node)
        (λ on t. let it : other ≡ node = same_node_is other node t in
        subst (λ found. IsDeclaration found) (sym (ap (content_of new) it ∙ content_itself)) (declares (stands_in 0 (subst (λ n. has_node (ring_at new 0) n ≡ true) it there))))
        (λ off t. subst (λ found. IsDeclaration found) (sym (content_other other t)) (shaped.declared other (sym (has_other 0 other t) ∙ there))) refl;
    begun = λ other. λ there. by_test (λ b. same_node other node ≡ b → IsSection (length new.rings) (content_of new other)) (same_node other node)
        (λ on t. let it : other ≡ node = same_node_is other node t in
        subst (λ n. IsSection n (content_of new other)) (sym as_many)
        (subst (λ found. IsSection (length old.rings) found) (sym (ap (content_of new) it ∙ content_itself)) (begins (stands_in 1 (subst (λ n. has_node (ring_at new 1) n ≡ true) it there)))))
        (λ off t. subst (λ n. IsSection n (content_of new other)) (sym as_many)
        (subst (λ found. IsSection (length old.rings) found) (sym (content_other other t)) (shaped.begun other (sym (has_other 1 other t) ∙ there)))) refl;
    placed = λ ring other. λ there. by_test (λ b. same_node other node ≡ b → IsEntry (content_of new other) × IsOwned new (suc (suc ring))) (same_node other node)
        (λ on t. let it : other ≡ node = same_node_is other node t in
        let fits = places ring (stands_in (suc (suc ring)) (subst (λ n. has_node (ring_at new (suc (suc ring))) n ≡ true) it there)) in
        (subst (λ found. IsEntry found) (sym (ap (content_of new) it ∙ content_itself)) fits.0, owned_still (suc (suc ring)) fits.1))
        (λ off t. let had = shaped.placed ring other (sym (has_other (suc (suc ring)) other t) ∙ there) in
        (subst (λ found. IsEntry found) (sym (content_other other t)) had.0, owned_still (suc (suc ring)) had.1)) refl;
    own = λ ring a b. λ p q. by_test (λ s. same_node a node ≡ s → a ≡ b) (same_node a node)
        (λ on t. by_test (λ s. same_node b node ≡ s → a ≡ b) (same_node b node)
        (λ on2 t2. same_node_is a node t ∙ sym (same_node_is b node t2))
        (λ off2 t2. absurd (apart ring b (sym (key_itself same_ring rings_in ring) ∙ subst (λ n. has_key same_ring rings_in new ring n ≡ true) (same_node_is a node t) p)
        (sym (key_other same_ring rings_in ring b t2) ∙ q))) refl)
        (λ off t. by_test (λ s. same_node b node ≡ s → a ≡ b) (same_node b node)
        (λ on2 t2. absurd (apart ring a (sym (key_itself same_ring rings_in ring) ∙ subst (λ n. has_key same_ring rings_in new ring n ≡ true) (same_node_is b node t2) q)
        (sym (key_other same_ring rings_in ring a t) ∙ p)))
        (λ off2 t2. shaped.own ring a b (sym (key_other same_ring rings_in ring a t) ∙ p) (sym (key_other same_ring rings_in ring b t2) ∙ q)) refl) refl;
  }
