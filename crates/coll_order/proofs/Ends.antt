-- The ends of rings as a store knows them: the ring of each node, and the last place of each ring.
use Rattle.std.proofs.Common.{◌≡◌, ℕ, zero, suc, ◌+◌, ◌<◌, ◌≤◌, ◌++◌, true, false, cond, eqb, List, [], ◌∷◌, Option, Some, length, get_or, sym, ap, subst, ◌∙◌, refl, arith, length-append}
use Rattle.std.proofs.lemmas.Bool.Decides.{Decides-eqb}
use Rattle.std.proofs.lemmas.List.{get_or_past, get_or_append_left}
use Rattle.coll_order.specs.Laid.{KnowsEnds}
use Rattle.coll_order.specs.Layout.{head_of, is_in, place_from, rings_with, rings_without}
use Rattle.coll_order.specs.Lists.{same_node, same_place, has_node, end_of, without, put_after}
use Rattle.coll_order.specs.Sound.{StandOnce}
use Rattle.coll_order.specs.Store.{Links, own_ring, ring_of, last_at, end_moved, MovesEnd}
use Rattle.coll_order.specs.declared.places.NodeId.{NodeId}
use Rattle.coll_order.specs.declared.places.RingId.{RingId}
use Rattle.coll_order.specs.declared.places.Place.{Place}
use Rattle.coll_order.specs.declared.places.Place.TheVariants.{Head, After}
use Rattle.coll_order.proofs.EndLemmas.{end_on, end_linked, end_unlinked}
use Rattle.coll_order.proofs.ListLemmas.{is_on, put_nowhere, has_put, has_without, has_without_itself}
use Rattle.coll_order.proofs.RingLemmas.{length_rings_with, length_rings_without, head_off, get_put, get_without, get_push, has_ring, is_in_ring, in_some}
use Rattle.coll_order.proofs.Sameness.{by_test, not_both, same_node_is, same_place_is, other_place}

-- a place of a ring has that ring
on_ring : (links : Links) (ring : RingId) (nodes : List NodeId) → ((node : NodeId) → has_node nodes node ≡ true → own_ring links node ≡ Some ring)
    → (place : Place) → is_on place (Head ring) nodes ≡ true → ring_of links place ≡ Some ring
on_ring links ring nodes stands (Head other) on =
    by_test (λ b. same_place (Head other) (Head ring) ≡ b → ring_of links (Head other) ≡ Some ring) (same_place (Head other) (Head ring))
    (λ t e. ap (ring_of links) (same_place_is (Head other) (Head ring) t))
    (λ f e. not_both on (head_off other.index nodes (Head ring) f)) refl
on_ring links ring nodes stands (After node) on = stands node on

-- so has its end
end_ring : (links : Links) (ring : RingId) (nodes : List NodeId) → ((node : NodeId) → has_node nodes node ≡ true → own_ring links node ≡ Some ring) → ring_of links (end_of (Head ring) nodes)
    ≡ Some ring
end_ring links ring nodes stands = on_ring links ring nodes stands (end_of (Head ring) nodes) (end_on (Head ring) nodes)

-- rings of one number are one
same_rings : (a b : RingId) → eqb a.index b.index ≡ true → a ≡ b
same_rings a b on = let same : a.index ≡ b.index = (Decides-eqb a.index b.index).0 on in ap ring_at same where
  ring_at : ℕ → RingId
  ring_at index = record { index = index }

-- two rings of one place are one
one_ring : (found : Option RingId) (a b : RingId) → found ≡ Some a → found ≡ Some b → a ≡ b
one_ring found a b p q = cc

-- a ring ends elsewhere than at a place of another
ends_apart : (links : Links) (rings : List (List NodeId)) → KnowsEnds links rings → (place : Place) (ring other : RingId) → ring_of links place ≡ Some ring → eqb other.index ring.index ≡ false
    → same_place (end_of (Head other) (get_or rings other.index [])) place ≡ false
ends_apart links rings known place ring other at differ = other_place _ place (λ same.
    let found = end_ring links other (get_or rings other.index []) (known.stands other) in
    let is : other ≡ ring = one_ring (ring_of links place) other ring (ap (ring_of links) (sym same) ∙ found) at in
    not_both ((Decides-eqb other.index ring.index).1 (ap (λ (r : RingId). r.index) is)) differ)

-- a node in rings has one of them stored
pub own_ring_is : (links : Links) (rings : List (List NodeId)) → KnowsEnds links rings → (node : NodeId) (ring : RingId) → is_in rings node ≡ true → own_ring links node ≡ Some ring
    → ring.index < length rings
own_ring_is links rings known node ring there own =
    let at = in_some rings node there in
    let is = one_ring (own_ring links node) (record { index = at.0 }) ring (known.stands (record { index = at.0 }) node at.1) own in
    subst (λ (r : RingId). r.index < length rings) is (has_ring rings at.0 node at.1)

-- where a ring is moved to end, and where the others end
pub ended : (links new : Links) (rings : List (List NodeId)) → KnowsEnds links rings → (ring : RingId) (from to : Place) → ring_of links from ≡ Some ring → MovesEnd links new ring from to
    → (other : RingId) → other.index < length rings → last_at new other ≡ end_moved (end_of (Head other) (get_or rings other.index [])) from to
ended links new rings known ring from to at moved other below =
    let end = end_of (Head other) (get_or rings other.index []) in
    let was = known.ends other below in
    by_test (λ b. eqb other.index ring.index ≡ b → last_at new other ≡ end_moved end from to) (eqb other.index ring.index)
    (λ on e.
    let is = same_rings other ring on in
    ap (last_at new) is ∙ (moved.last ∙ (ap (λ r. end_moved (last_at links r) from to) (sym is) ∙ ap (λ p. end_moved p from to) was)))
    (λ off e. moved.others other off ∙ (was ∙ sym (ap (λ b. cond b to end) (ends_apart links rings known from ring other at off)))) refl

-- the ends stay known where the rings of the nodes in rings stay, and the last places
pub same_ends : (old new : Links) (rings : List (List NodeId)) → KnowsEnds old rings
    → ((node : NodeId) → is_in rings node ≡ true → own_ring new node ≡ own_ring old node) → new.lasts ≡ old.lasts → KnowsEnds new rings
same_ends old new rings known own lasts = record {
  count = ap (λ (ls : List Place). length ls) lasts ∙ known.count;
  stands = λ ring node there. own node (is_in_ring rings ring.index node there) ∙ known.stands ring node there;
  ends = λ ring below. ap (λ (ls : List Place). get_or ls ring.index (Head ring)) lasts ∙ known.ends ring below;
}

-- the ends are known once a node is put in, its ring is stored, and the ring that ended where it was put ends behind it
pub linked_ends : (old new : Links) (rings : List (List NodeId)) (node : NodeId) (place : Place) (ring : RingId) → KnowsEnds old rings → StandOnce rings → is_in rings node ≡ false
    → ring_of old place ≡ Some ring
    → own_ring new node ≡ Some ring → ((other : NodeId) → same_node other node ≡ false → own_ring new other ≡ own_ring old other) → length new.lasts ≡ length old.lasts
    → ((other : RingId) → other.index < length rings → last_at new other ≡ end_moved (end_of (Head other) (get_or rings other.index [])) place (After node))
    → KnowsEnds new (rings_with place node 0 rings)
linked_ends old new rings node place ring known once absent at own others count ends = record {
  count = count ∙ (known.count ∙ sym (length_rings_with place node 0 rings));
  stands = stands;
  ends = λ other below.
      let inside : other.index < length rings = subst (λ n. other.index < n) (length_rings_with place node 0 rings) below in
      ends other inside ∙ sym (end_linked place node rings other.index once inside);
} where
  stands : (other : RingId) (x : NodeId) → has_node (get_or (rings_with place node 0 rings) other.index []) x ≡ true → own_ring new x ≡ Some other
  stands other x there =
      let below : other.index < length rings = subst (λ n. other.index < n) (length_rings_with place node 0 rings) (has_ring (rings_with place node 0 rings) other.index x there) in
      let nodes = get_or rings other.index [] in
      let same : 0 + other.index ≡ other.index = omega arith in
      let is : get_or (rings_with place node 0 rings) other.index [] ≡ put_after place node (Head other) nodes =
      get_put place node 0 other.index rings below ∙ ap (λ k. put_after place node (head_of k) nodes) same in
      let there : has_node (put_after place node (Head other) nodes) x ≡ true = subst (λ ns. has_node ns x ≡ true) is there in
      by_test (λ b. same_node x node ≡ b → own_ring new x ≡ Some other) (same_node x node)
      (λ on e.
      let it : x ≡ node = same_node_is x node on in
      ap (own_ring new) it ∙ (own ∙ (sym at ∙ by_test (λ b. is_on place (Head other) nodes ≡ b → ring_of old place ≡ Some other) (is_on place (Head other) nodes)
      (λ here t. on_ring old other nodes (known.stands other) place here)
      (λ off t. not_both (is_in_ring rings other.index node
      (subst (λ ns. has_node ns node ≡ true) (put_nowhere place (Head other) node nodes off) (subst (λ n. has_node (put_after place node (Head other) nodes) n ≡ true) it there))) absent) refl)))
      (λ off e. others x off ∙ known.stands other x (sym (has_put place (Head other) node x nodes off) ∙ there)) refl

-- the ends are known once a node is taken out, and the ring that ended behind it ends where it stood
pub unlinked_ends : (old new : Links) (rings : List (List NodeId)) (node : NodeId) (place : Place) → KnowsEnds old rings → StandOnce rings → place_from 0 rings node ≡ Some place
    → ((other : NodeId) → own_ring new other ≡ own_ring old other) → length new.lasts ≡ length old.lasts
    → ((other : RingId) → other.index < length rings → last_at new other ≡ end_moved (end_of (Head other) (get_or rings other.index [])) (After node) place) → KnowsEnds new (rings_without node rings)
unlinked_ends old new rings node place known once at own count ends = record {
  count = count ∙ (known.count ∙ sym (length_rings_without node rings));
  stands = stands;
  ends = λ other below.
      let inside : other.index < length rings = subst (λ n. other.index < n) (length_rings_without node rings) below in
      let same : 0 + other.index ≡ other.index = omega arith in
      ends other inside ∙ sym (subst (λ k. end_of (head_of k) (get_or (rings_without node rings) other.index []) ≡ end_moved (end_of (head_of k) (get_or rings other.index [])) (After node) place) same
      (end_unlinked 0 other.index rings node place once at));
} where
  stands : (other : RingId) (x : NodeId) → has_node (get_or (rings_without node rings) other.index []) x ≡ true → own_ring new x ≡ Some other
  stands other x there =
      let nodes = get_or rings other.index [] in
      let there : has_node (without node nodes) x ≡ true = subst (λ ns. has_node ns x ≡ true) (get_without node other.index rings) there in
      by_test (λ b. same_node x node ≡ b → own_ring new x ≡ Some other) (same_node x node)
      (λ on e. not_both (subst (λ n. has_node (without node nodes) n ≡ true) (same_node_is x node on) there) (has_without_itself node nodes))
      (λ off e. own x ∙ known.stands other x (sym (has_without node x nodes off) ∙ there)) refl

-- the ends are known once a ring of no nodes is made
pub pushed_ends : (old new : Links) (rings : List (List NodeId)) (count : ℕ) → KnowsEnds old rings → count ≡ length rings → new.lasts ≡ old.lasts ++ head_of count ∷ []
    → ((node : NodeId) → own_ring new node ≡ own_ring old node) → KnowsEnds new (rings ++ [] ∷ [])
pushed_ends old new rings count known counted lasts own = record {
  count = let was = known.count in let longer =
      length-append rings ([] ∷ []) in ap (λ (ls : List Place). length ls) lasts ∙ (length-append old.lasts (head_of count ∷ []) ∙ (ap (λ n. n + 1) was ∙ sym longer));
  stands = λ ring node there. own node ∙ known.stands ring node (subst (λ ns. has_node ns node ≡ true) (get_push rings ring.index) there);
  ends = λ ring below. ap (λ (ls : List Place). get_or ls ring.index (Head ring)) lasts ∙ pushed ring below;
} where
  own_last : (lasts : List Place) (index : ℕ) (place : Place) → get_or (lasts ++ place ∷ []) index place ≡ get_or lasts index place
  own_last [] zero place = refl
  own_last [] (suc index) place = refl
  own_last (last ∷ lasts) zero place = refl
  own_last (last ∷ lasts) (suc index) place = own_last lasts index place

  pushed : (ring : RingId) → ring.index < length (rings ++ [] ∷ []) → get_or (old.lasts ++ head_of count ∷ []) ring.index (Head ring) ≡ end_of (Head ring) (get_or (rings ++ [] ∷ []) ring.index [])
  pushed ring below =
      let index = ring.index in
      let many = known.count in
      let longer = length-append rings ([] ∷ []) in
      by_test (λ b. eqb index count ≡ b → get_or (old.lasts ++ head_of count ∷ []) index (Head ring) ≡ end_of (Head ring) (get_or (rings ++ [] ∷ []) index [])) (eqb index count)
      (λ on e.
      let is : index ≡ count = (Decides-eqb index count).0 on in
      let past : length old.lasts ≤ index = omega (arith, is, counted, many) in
      let none : length rings ≤ index = omega (arith, is, counted) in
      ap (λ k. get_or (old.lasts ++ head_of k ∷ []) index (Head ring)) (sym is)
      ∙ (own_last old.lasts index (Head ring) ∙ (get_or_past old.lasts index (Head ring) past
      ∙ sym (ap (end_of (Head ring)) (get_push rings index ∙ get_or_past rings index [] none)))))
      (λ off e.
      let differ : index ≡ count → ⊥ = λ is. not_both ((Decides-eqb index count).1 is) off in
      let inside : index < length rings = grind arith in
      get_or_append_left old.lasts (head_of count ∷ []) (Head ring) index (omega (arith, inside, many))
      ∙ (known.ends ring inside ∙ sym (ap (end_of (Head ring)) (get_push rings index)))) refl
