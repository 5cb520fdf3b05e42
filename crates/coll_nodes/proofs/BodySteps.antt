-- The places of a body's rings, and a body of nothing.
use Rattle.std.proofs.Common.{◌≡◌, ℕ, suc, ◌<◌, Bool, true, ◌||◌, eqb, List, [], ◌∷◌, Option, None, length, sym, ap, subst, refl, arith}
use Rattle.std.specs.List.{list_any}
use Rattle.std.proofs.lemmas.Bool.Decides.{Decides-eqb}
use Rattle.coll_order.specs.Lists.{same_place, has_node}
use Rattle.coll_order.specs.declared.places.NodeId.{NodeId}
use Rattle.coll_order.specs.declared.places.RingId.{RingId}
use Rattle.coll_order.specs.declared.places.Place.{Place}
use Rattle.coll_order.specs.declared.places.Place.TheVariants.{Head, After}
use Rattle.coll_order.proofs.Sameness.{by_test, not_both}
use Rattle.coll_order.proofs.RingLemmas.{is_in_ring}
use Rattle.coll_syntax.specs.Identifier.{same_name, same_id}
use Rattle.coll_syntax.specs.declared.identifiers.Id.{Id}
use Rattle.coll_syntax.specs.declared.identifiers.Id.TheVariants.{Char, Named, Undefined}
use Rattle.coll_nodes.specs.BodyInvariant.{IsSoundBody}
use Rattle.coll_nodes.specs.Counting.{no_counts}
use Rattle.coll_nodes.specs.KeyedNodes.{no_keys}
use Rattle.coll_nodes.specs.Bodies.{IsPlaceAmong}
use Rattle.coll_lookups.specs.NodeLookUps.{node_named, node_with, no_nodes}
use Rattle.coll_nodes.specs.SoundBodies.{ring_at, ids_in, names_in, texts_in, section_names_in, IsPlaceIn, Finds}
use Rattle.coll_nodes.specs.TableLayout.{TableLayout, declared_at, sections_at}
use Rattle.coll_nodes.specs.declared.contents.Content.{Content}
use Rattle.coll_nodes.proofs.RingPlaces.{head_after}

-- a place of a ring is one among the rings
pub place_among_rings : (layout : TableLayout) (index : ℕ) (place : Place) → IsPlaceIn layout index place → IsPlaceAmong layout.rings place
place_among_rings layout index (Head ring) at =
    let here : eqb ring.index index ≡ true = by_test (λ b. (b || list_any (λ node. same_place (Head ring) (After node)) (ring_at layout index)) ≡ true → b ≡ true) (eqb ring.index index)
    (λ t e. refl) (λ f e. not_both e (head_after ring.index (ring_at layout index))) at.on in
    subst (λ k. k < length layout.rings) (sym ((Decides-eqb ring.index index).0 here)) at.ring
place_among_rings layout index (After node) at = is_in_ring layout.rings index node at.on

-- nothing is declared, there is no section, and nothing is found
pub nothing_sound : (declarations sections : RingId) → declarations.index ≡ 0 → sections.index ≡ 1
    → IsSoundBody (record { rings = [] ∷ [] ∷ []; nodes = [] }) declarations sections no_keys no_counts
unfolding declared_at sections_at
nothing_sound declarations sections first second = record {
  declarations = ap (λ index. record { index = index }) first;
  begun = ap (λ index. record { index = index }) second;
  shaped = record {
    two = omega arith;
    declared = λ node. λ there. not_both there refl;
    begun = λ node. λ there. not_both there refl;
    placed = λ index node. λ there. not_both there (ap (λ nodes. has_node nodes node) (no_more index));
    own = λ ring a b. λ p q. not_both p refl;
  };
  found = record {
    names = none_found same_name names_in (node_named []) (λ key. refl);
    texts = none_found same_name texts_in (node_named []) (λ key. refl);
    sections = none_found same_name section_names_in (node_named []) (λ key. refl);
    ids = none_found same_id ids_in (node_with no_nodes) none_with;
  };
  reserved = record { keys_of = λ node it is. cc; ring_of = λ node it is. cc };
  counted = refl;
} where
  no_more : (index : ℕ) → ring_at (record { rings = [] ∷ [] ∷ []; nodes = [] }) (suc (suc index)) ≡ []
  no_more index = refl

  none_with : (id : Id) → node_with no_nodes id ≡ None
  none_with (Char c) = refl
  none_with (Named name) = refl
  none_with Undefined = refl

  none_found : {Key : Type 0} (same : Key → Key → Bool) (keys : Content → List Key) (find : Key → Option NodeId) → ((key : Key) → find key ≡ None)
      → Finds same keys (record { rings = [] ∷ [] ∷ []; nodes = [] }) find
  none_found same keys find none = record { leads = λ key node. λ e. let empty = none key in cc; finds = λ key node. λ has. not_both has refl }
