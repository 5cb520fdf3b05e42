-- Where a node of a sound layout stands, and where it may stand: what an item asks of a layout.
use Rattle.std.proofs.Common.{◌≡◌, ℕ, zero, suc, ◌+◌, ◌<◌, Bool, true, false, ◌||◌, cond, is_some, List, [], ◌∷◌, Option, Some, None, length, flat_map, get_or, sym, ap, subst, ◌∙◌, refl, arith}
use Rattle.std.specs.List.{list_any}
use Rattle.std.specs.Option.{option_or}
use Rattle.std.proofs.lemmas.List.Folds.{list_any-append}
use Rattle.coll_order.specs.Layout.{head_of, is_in, place_from, rings_without}
use Rattle.coll_order.specs.Lists.{same_node, same_place, has_node, place_in, without}
use Rattle.coll_order.specs.declared.places.NodeId.{NodeId}
use Rattle.coll_order.specs.declared.places.Place.{Place}
use Rattle.coll_order.specs.declared.places.Place.TheVariants.{After}
use Rattle.coll_order.proofs.ListLemmas.{or_first, or_second, absent_place, has_without, is_in_without, is_in_without_itself}
use Rattle.coll_order.proofs.RingLemmas.{length_rings_without}
use Rattle.coll_order.proofs.Sameness.{by_test, not_both, same_node_is, same_node_itself, same_place_itself}
use Rattle.coll_syntax.specs.Identifier.{same_name, same_id}
use Rattle.coll_syntax.specs.declared.identifiers.Id.{Id}
use Rattle.coll_nodes.proofs.LayoutMoves.{found_ring, get_without}
use Rattle.coll_nodes.proofs.LayoutReads.{and_true, both_true, declaration_is, entry_is, in_rings, owned_low, read_known, section_at}
use Rattle.coll_nodes.specs.Bodies.{without_link}
use Rattle.coll_nodes.specs.SoundBodies.{Finds, IsOwned, IsPlaceIn, has_key, ids_in, is_place_of, names_in, read_at, ring_at, rings_in, same_ring, section_names_in, texts_in}
use Rattle.coll_nodes.specs.SoundLayouts.{AreOnce, IsSoundLayout}
use Rattle.coll_nodes.specs.TableLayout.{TableLayout, content_of}
use Rattle.coll_nodes.specs.Moving.{AreNew, CanGo, IsApart, IsAt, MayBeLoose, Suits}
use Rattle.coll_table.specs.Turning.{placed_at}
use Rattle.coll_nodes.specs.declared.contents.Content.{Content}
use Rattle.coll_nodes.specs.declared.contents.Content.TheVariants as content
use Rattle.coll_nodes.specs.declared.entries.Entry.{Entry}

-- Nodes by their keys.

-- the first node of a list that passes a test
abbrev first_where : (NodeId → Bool) → List NodeId → Option NodeId
first_where p [] = None
first_where p (node ∷ nodes) = cond (p node) (Some node) (first_where p nodes)

-- it passes the test
passes_where : (p : NodeId → Bool) (nodes : List NodeId) (node : NodeId) → first_where p nodes ≡ Some node → p node ≡ true
passes_where p [] node e = cc
passes_where p (first ∷ nodes) node e =
    by_test (λ b. p first ≡ b → cond b (Some first) (first_where p nodes) ≡ Some node → p node ≡ true) (p first)
    (λ on t e. let same : first ≡ node = cc in ap p (sym same) ∙ t)
    (λ off t e. passes_where p nodes node e) refl e

-- there is one where a node of the list passes the test
some_where : (p : NodeId → Bool) (nodes : List NodeId) (node : NodeId) → has_node nodes node ≡ true → p node ≡ true → (found : NodeId) × (first_where p nodes ≡ Some found)
some_where p [] node there on = not_both there refl
some_where p (first ∷ nodes) node there on =
    by_test (λ b. p first ≡ b → (found : NodeId) × (cond b (Some first) (first_where p nodes) ≡ Some found)) (p first)
    (λ here t. (first, refl))
    (λ off t. by_test (λ b. same_node node first ≡ b → (b || has_node nodes node) ≡ true → (found : NodeId) × (first_where p nodes ≡ Some found)) (same_node node first)
    (λ same e others. not_both (ap p (sym (same_node_is node first e)) ∙ on) t)
    (λ differ e others. some_where p nodes node others on) refl there) refl

-- the nodes of all rings have each node that stands in one
joined_has : (rings : List (List NodeId)) (node : NodeId) → has_node (flat_map (λ nodes. nodes) rings) node ≡ is_in rings node
joined_has [] node = refl
joined_has (nodes ∷ rings) node = list_any-append (same_node node) nodes (flat_map (λ nodes. nodes) rings) ∙ ap (λ b. has_node nodes node || b) (joined_has rings node)

-- the node that stands in a ring and has a key
abbrev pub node_by : {Key : Type 0} → (Key → Key → Bool) → (Content → List Key) → TableLayout → Key → Option NodeId
node_by same keys layout key = first_where (has_key same keys layout key) (flat_map (λ nodes. nodes) layout.rings)

-- where no two nodes have one key, it is found by the key
pub finds_once : {Key : Type 0} (same : Key → Key → Bool) (keys : Content → List Key) (layout : TableLayout) → AreOnce same keys layout → Finds same keys layout (node_by same keys layout)
finds_once same keys layout once = record {
  leads = λ key node is. passes_where (has_key same keys layout key) (flat_map (λ nodes. nodes) layout.rings) node is;
  finds = λ key node has.
      let all = flat_map (λ (nodes : List NodeId). nodes) layout.rings in
      let found = some_where (has_key same keys layout key) all node (joined_has layout.rings node ∙ (both_true _ _ has).0) has in
      found.1 ∙ ap Some (once key found.0 node (passes_where (has_key same keys layout key) all found.0 found.1) has);
}

-- Places.

-- a place where a node of a list stands is one of the list without the node
place_in_list : (start : Place) (nodes : List NodeId) (node : NodeId) (place : Place) → place_in start nodes node ≡ Some place
    → (has_node nodes node ≡ true) × (is_place_of place start (without node nodes) ≡ true)
place_in_list start [] node place e = cc
place_in_list start (first ∷ rest) node place e =
    by_test (λ b. cond b (Some start) (place_in (After first) rest node) ≡ Some place
    → ((b || has_node rest node) ≡ true) × (is_place_of place start (cond b (without node rest) (first ∷ without node rest)) ≡ true)) (same_node node first)
    (λ on e. let here : start ≡ place = cc in (refl, or_first (same_place place start) _ (subst (λ p. same_place p start ≡ true) here (same_place_itself start))))
    (λ off e. let later = place_in_list (After first) rest node place e in (later.0, or_second (same_place place start) _ later.1)) e

-- a place where a node stands is one of a ring without the node
place_in_ring : (first : ℕ) (rings : List (List NodeId)) (node : NodeId) (place : Place) → place_from first rings node ≡ Some place
    → (index : ℕ) × (index < length rings) × (has_node (get_or rings index []) node ≡ true) × (is_place_of place (head_of (first + index)) (without node (get_or rings index [])) ≡ true)
place_in_ring first [] node place e = cc
place_in_ring first (nodes ∷ rings) node place e =
    elim (place_in (head_of first) nodes node) as (λ found. place_in (head_of first) nodes node ≡ found → option_or found (place_from (suc first) rings node) ≡ Some place
    → (index : ℕ) × (index < length (nodes ∷ rings)) × (has_node (get_or (nodes ∷ rings) index []) node ≡ true)
    × (is_place_of place (head_of (first + index)) (without node (get_or (nodes ∷ rings) index [])) ≡ true)) [
      | Some p ↦ λ here e.
          let it = place_in_list (head_of first) nodes node place (here ∙ e) in
          let same : first + 0 ≡ first = omega arith in
          (0, omega arith, it.0, ap (λ k. is_place_of place (head_of k) (without node nodes)) same ∙ it.1)
      | None ↦ λ here e.
          let later = place_in_ring (suc first) rings node place e in
          let same : first + suc later.0 ≡ suc first + later.0 = omega arith in
          let below = later.1 in
          (suc later.0, omega arith, later.2, ap (λ k. is_place_of place (head_of k) (without node (get_or rings later.0 []))) same ∙ later.3)
    ] refl e

-- a node that stands in rings stands at a place
pub stands : (first : ℕ) (rings : List (List NodeId)) (node : NodeId) → is_in rings node ≡ true → (place : Place) × (place_from first rings node ≡ Some place)
stands first [] node there = not_both there refl
stands first (nodes ∷ rings) node there =
    elim (place_in (head_of first) nodes node) as (λ found. place_in (head_of first) nodes node ≡ found → (place : Place) × (option_or found (place_from (suc first) rings node) ≡ Some place)) [
      | Some p ↦ λ here. (p, refl)
      | None ↦ λ here. stands (suc first) rings node (sym (ap (λ b. b || is_in rings node) (absent_place (head_of first) nodes node here)) ∙ there)
    ] refl

-- an item that says that its node stood somewhere gets the place where it stands
pub placed_standing : (layout : TableLayout) (node : NodeId) (had : Option Place) (place : Place) → is_some had ≡ true → place_from 0 layout.rings node ≡ Some place
    → placed_at had layout node ≡ Some place
placed_standing layout node None place is at = not_both is refl
placed_standing layout node (Some any) place is at = ap (λ found. option_or found (Some any)) at

-- What a node that is taken out leaves.

module _ (layout : TableLayout) (node : NodeId) where
  -- what has a key then had it, and is another node
  out_key : {Key : Type 0} (same : Key → Key → Bool) (keys : Content → List Key) (key : Key) (other : NodeId) → has_key same keys (without_link layout node) key other ≡ true
      → (same_node other node ≡ false) × (has_key same keys layout key other ≡ true)
  out_key same keys key other has =
      let parts = both_true _ _ has in
      let differ : same_node other node ≡ false = by_test (λ b. same_node other node ≡ b → b ≡ false) (same_node other node)
      (λ on t. not_both (ap (is_in (rings_without node layout.rings)) (sym (same_node_is other node t)) ∙ parts.0) (is_in_without_itself node layout.rings)) (λ off t. refl) refl in
      (differ, and_true (sym (is_in_without node other layout.rings differ) ∙ parts.0) parts.1)

  -- nothing has a key of the node then, where no two nodes have one
  pub once_new : {Key : Type 0} (same : Key → Key → Bool) (keys : Content → List Key) (it : Content) → AreOnce same keys layout → is_in layout.rings node ≡ true → content_of layout node ≡ Some it
      → AreNew same keys (without_link layout node) it
  once_new same keys it once linked is key other has =
      by_test (λ b. has_key same keys (without_link layout node) key other ≡ b → b ≡ false) (has_key same keys (without_link layout node) key other)
      (λ on t.
      let was = out_key same keys key other t in
      let mine : has_key same keys layout key node ≡ true = and_true linked (ap (list_any (same key)) (read_known keys layout node it is) ∙ has) in
      not_both (subst (λ n. same_node n node ≡ true) (once key node other mine was.1) (same_node_itself node)) was.0)
      (λ off t. refl) refl

  -- nor where nothing had one
  pub new_out : {Key : Type 0} (same : Key → Key → Bool) (keys : Content → List Key) (it : Content) → AreNew same keys layout it → AreNew same keys (without_link layout node) it
  new_out same keys it fresh key other has =
      by_test (λ b. has_key same keys (without_link layout node) key other ≡ b → b ≡ false) (has_key same keys (without_link layout node) key other)
      (λ on t. not_both (out_key same keys key other t).1 (fresh key other has)) (λ off t. refl) refl

  -- a ring that had a section has it still, where the node is none
  pub owned_out : (it : Content) → content_of layout node ≡ Some it → rings_in it ≡ [] → (index : ℕ) → IsOwned layout index → IsOwned (without_link layout node) index
  owned_out it is none index owned =
      let parts = both_true _ _ owned.1 in
      let differ : same_node owned.0 node ≡ false = by_test (λ b. same_node owned.0 node ≡ b → b ≡ false) (same_node owned.0 node)
      (λ on t. not_both (ap (λ n. list_any (same_ring (record { index = index })) (read_at rings_in layout n)) (sym (same_node_is owned.0 node t)) ∙ parts.1)
      (ap (list_any (same_ring (record { index = index }))) (read_known rings_in layout node it is ∙ none))) (λ off t. refl) refl in
      (owned.0, and_true (is_in_without node owned.0 layout.rings differ ∙ parts.0) parts.1)

  -- a place of a ring without the node
  pub place_out : (index : ℕ) (place : Place) → index < length layout.rings → is_place_of place (head_of index) (without node (ring_at layout index)) ≡ true
      → IsPlaceIn (without_link layout node) index place
  place_out index place below on = record {
    ring = subst (λ n. index < n) (sym (length_rings_without node layout.rings)) below;
    on = ap (is_place_of place (head_of index)) (get_without node layout.rings index) ∙ on;
  }

  -- nothing has anything of a standing node then
  pub apart_out : (it : Content) → IsSoundLayout layout → is_in layout.rings node ≡ true → content_of layout node ≡ Some it → IsApart (without_link layout node) it
  apart_out it sound linked is = record {
    names = once_new same_name names_in it sound.names linked is;
    texts = once_new same_name texts_in it sound.texts linked is;
    sections = once_new same_name section_names_in it sound.sections linked is;
    rings = once_new same_ring rings_in it sound.shaped.own linked is;
    ids = once_new same_id ids_in it sound.ids linked is;
  }

  -- a node suits the place where it stands
  pub standing_suits : (place : Place) → IsSoundLayout layout → place_from 0 layout.rings node ≡ Some place → Suits (without_link layout node) node (Some place)
  standing_suits place sound at =
      let here = place_in_ring 0 layout.rings node place at in
      let from : 0 + here.0 ≡ here.0 = omega arith in
      by_ring here.0 here.1 here.2 (ap (λ k. is_place_of place (head_of k) (without node (ring_at layout here.0))) (sym from) ∙ here.3) where
        by_ring : (index : ℕ) → index < length layout.rings → has_node (ring_at layout index) node ≡ true → is_place_of place (head_of index) (without node (ring_at layout index)) ≡ true
            → Suits (without_link layout node) node (Some place)
        by_ring zero below there on =
            let is = declaration_is (content_of layout node) (sound.shaped.declared node there) in
            (content.Declared is.0, is.1, (place_out 0 place below on, apart_out (content.Declared is.0) sound (in_rings layout 0 node there) is.1))
        by_ring (suc zero) below there on =
            let is = section_at layout sound.shaped node there in
            (content.Begun is.0 is.1, is.2, (place_out 1 place below on, apart_out (content.Begun is.0 is.1) sound (in_rings layout 1 node there) is.2))
        by_ring (suc (suc index)) below there on =
            let placed = sound.shaped.placed index node there in
            let is = entry_is (content_of layout node) placed.0 in (
              content.Placed is.0,
              is.1,
              (
                (suc (suc index), place_out (suc (suc index)) place below on, owned_out (content.Placed is.0) is.1 refl (suc (suc index)) placed.1),
                apart_out (content.Placed is.0) sound (in_rings layout (suc (suc index)) node there) is.1,
              ),
            )

  -- a node that may be loose suits no place
  pub loose_suits : (it : Content) → content_of layout node ≡ Some it → MayBeLoose it → Suits (without_link layout node) node None
  loose_suits it is may = (it, is, may)

  -- the node of an entry can go directly behind another entry
  pub entry_goes : (target : Id) (after : NodeId) (entry : Entry) (from : Option Place) → IsSoundLayout layout → has_key same_id ids_in layout target after ≡ true → same_node after node ≡ false
      → content_of layout node ≡ Some (content.Placed entry) → AreNew same_id ids_in (without_link layout node) (content.Placed entry)
      → IsAt layout node from → Suits (without_link layout node) node from → CanGo layout node from (Some (After after))
  entry_goes target after entry from sound has differ is fresh at suits =
      let finds = finds_once same_id ids_in layout sound.ids in
      let ring = found_ring layout sound.shaped (node_by same_id ids_in layout) target after finds (finds.finds target after has) in
      let low = owned_low layout sound.shaped ring.0 ring.2.0 ring.2.1 in
      record {
        stands = at;
        here = suits;
        there = (
          content.Placed entry,
          is,
          (
            (ring.0, place_out ring.0 (After after) low (has_without node after (ring_at layout ring.0) differ ∙ ring.1), owned_out (content.Placed entry) is refl ring.0 ring.2),
            record {
              names = λ key other e. not_both e refl;
              texts = λ key other e. not_both e refl;
              sections = λ key other e. not_both e refl;
              rings = λ key other e. not_both e refl;
              ids = fresh;
            },
          ),
        );
      }
