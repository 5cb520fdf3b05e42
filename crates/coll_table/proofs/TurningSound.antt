-- A sound layout stays sound when a node goes from one place to another, and when a node gets other weights.
use Rattle.std.proofs.Common.{◌≡◌, ℕ, zero, suc, ◌≤◌, Bool, true, false, ◌&&◌, ◌||◌, cond, List, [], ◌∷◌, Option, Some, None, IsSome, length, get_or, eqb, sym, ap, subst, ◌∙◌, refl, arith}
use Rattle.std.specs.List.{list_any}
use Rattle.std.specs.Option.{option_or}
use Rattle.std.proofs.lemmas.Bool.Decides.{Decides-eqb}
use Rattle.coll_order.specs.Layout.{head_of, is_in, place_from}
use Rattle.coll_order.specs.Lists.{same_node, has_node}
use Rattle.coll_order.specs.Sound.{AreDistinct}
use Rattle.coll_order.specs.declared.places.NodeId.{NodeId}
use Rattle.coll_order.specs.declared.places.RingId.{RingId}
use Rattle.coll_order.specs.declared.places.Place.{Place}
use Rattle.coll_order.proofs.ListLemmas.{is_among, has_without_itself, is_in_without, is_in_without_itself, place_absent}
use Rattle.coll_order.proofs.RingLemmas.{is_in_put_itself, in_some}
use Rattle.coll_order.proofs.Sameness.{by_test, not_both, same_node_is}
use Rattle.coll_syntax.specs.Identifier.{same_name, same_id}
use Rattle.coll_syntax.specs.declared.weights.Weight.{Weight}
use Rattle.coll_nodes.proofs.LayoutMoves.{get_without}
use Rattle.coll_nodes.proofs.LayoutReads.{both_true, owned_high, read_known}
use Rattle.coll_nodes.proofs.RingPlaces.{place_off}
use Rattle.coll_nodes.proofs.TurningKeys.{IsAlike, AreSame, some_alike, once_alike, shaped_alike, names_bare, texts_bare, sections_bare, ids_bare}
use Rattle.coll_nodes.proofs.TurningNodes.{content_weighed, named_weighed, weighed_if, weighed_same}
use Rattle.coll_table.proofs.TurningRings.{among_ring, is_in_relinked, length_relinked, once_relinked, once_without, ring_put, ring_relinked}
use Rattle.coll_nodes.specs.Bodies.{without_link}
use Rattle.coll_nodes.specs.SoundBodies.{read_at, ring_at, has_key, names_in, texts_in, section_names_in, rings_in, ids_in, same_ring}
use Rattle.coll_nodes.specs.SoundBodies.{is_place_of, IsPlaceIn, IsDeclaration, IsSection, IsEntry, IsOwned, IsShaped}
use Rattle.coll_nodes.specs.SoundLayouts.{AreOnce, IsSoundLayout}
use Rattle.coll_nodes.specs.TableLayout.{TableLayout, content_of}
use Rattle.coll_nodes.specs.Moving.{AreNew, CanGo, IsApart, IsAt, IsPlaceFor, MayStand, moved_rings, relinked, weighed_nodes}
use Rattle.coll_table.specs.Turning.{ItemGoes, item_back, item_on}
use Rattle.coll_nodes.specs.declared.contents.Content.{Content}
use Rattle.coll_nodes.specs.declared.contents.Content.TheVariants as content
use Rattle.coll_table.specs.declared.records.Item.{Item}

-- Weights.

-- a layout in which a node has other weights
abbrev pub reweighed : TableLayout → NodeId → Option (List Weight) → TableLayout
reweighed layout node weights = record layout { nodes = weighed_nodes node weights layout.nodes }

-- each node is what it was, but for its weights
pub reweighed_same : (layout : TableLayout) (node other : NodeId) (weights : Option (List Weight)) → AreSame (content_of (reweighed layout node weights) other) (content_of layout other)
reweighed_same layout node other weights = subst (λ (found : Option Content). AreSame found (content_of layout other)) (sym (content_weighed node weights layout.nodes other))
    (by_test (λ b. AreSame (cond b (weighed_if weights (content_of layout other)) (content_of layout other)) (content_of layout other)) (same_node other node)
    (λ on. weighed_same weights (content_of layout other)) (λ off. refl))

-- so it is alike
pub reweighed_alike : (layout : TableLayout) (node : NodeId) (weights : Option (List Weight)) → IsAlike layout (reweighed layout node weights)
reweighed_alike layout node weights = record { rings = refl; contents = λ other there. reweighed_same layout node other weights }

-- and sound
pub reweighed_sound : (layout : TableLayout) (node : NodeId) (weights : Option (List Weight)) → IsSoundLayout layout → IsSoundLayout (reweighed layout node weights)
reweighed_sound layout node weights sound =
    let new = reweighed layout node weights in
    let alike = reweighed_alike layout node weights in
    record {
      laid = record { once = sound.laid.once; made = λ other there. some_alike (content_of new other) (content_of layout other) (alike.contents other there) (sound.laid.made other there) };
      named = subst AreDistinct (sym (named_weighed node weights layout.nodes)) sound.named;
      shaped = shaped_alike layout new alike sound.shaped;
      names = once_alike same_name names_in names_bare layout new alike sound.names;
      texts = once_alike same_name texts_in texts_bare layout new alike sound.texts;
      sections = once_alike same_name section_names_in sections_bare layout new alike sound.sections;
      ids = once_alike same_id ids_in ids_bare layout new alike sound.ids;
    }

-- Places.

-- a node that stands directly after a place stands in a ring
pub at_linked : (first : ℕ) (rings : List (List NodeId)) (node : NodeId) (place : Place) → place_from first rings node ≡ Some place → is_in rings node ≡ true
at_linked first [] node place at = cc
at_linked first (nodes ∷ rings) node place at = by_test (λ b. has_node nodes node ≡ b → (b || is_in rings node) ≡ true) (has_node nodes node)
    (λ on e. refl)
    (λ off e. at_linked (suc first) rings node place (sym (ap (λ found. option_or found (place_from (suc first) rings node)) (place_absent (head_of first) nodes node e)) ∙ at)) refl

-- a place for a node is in the rings
pub place_for_among : (layout : TableLayout) (place : Place) (it : Content) → IsPlaceFor layout place it → is_among place 0 layout.rings ≡ true
place_for_among layout place (content.Declared declaration) is = among_ring layout.rings place 0 is.ring is.on
place_for_among layout place (content.Begun name ring) is = among_ring layout.rings place 1 is.ring is.on
place_for_among layout place (content.Placed entry) is = among_ring layout.rings place is.0 is.1.ring is.1.on

-- a node that goes from one place to another
module _ (layout : TableLayout) (sound : IsSoundLayout layout) (node : NodeId) (from to : Option Place) (goes : CanGo layout node from to) where
  -- the layout without the node's link, and with the node at the other place
  abbrev gone : TableLayout
  gone = without_link layout node

  abbrev pub gone_to : TableLayout
  gone_to = record layout { rings = relinked layout.rings node to }

  -- what the node is
  abbrev it : Content
  it = goes.there.0

  known : content_of layout node ≡ Some it
  known = goes.there.1

  gone_once : (place : Place) (i j : ℕ) → is_place_of place (head_of i) (ring_at gone i) ≡ true → IsPlaceIn gone j place → i ≡ j
  gone_once place i j on is = by_test (λ b. eqb i j ≡ b → i ≡ j) (eqb i j)
      (λ same e. (Decides-eqb i j).0 e)
      (λ off e. not_both is.on (place_off gone.rings place i j (once_without node layout.rings sound.laid.once) on (λ same. not_both ((Decides-eqb i j).1 same) e))) refl

  module _ {Key : Type 0} (same : Key → Key → Bool) (keys : Content → List Key) where
    -- the other nodes have their keys
    key_stays : (key : Key) (other : NodeId) → same_node other node ≡ false → has_key same keys gone_to key other ≡ has_key same keys layout key other
    key_stays key other differ = ap (λ b. b && list_any (same key) (read_at keys layout other)) (is_in_relinked layout.rings node other to differ)

    key_gone : (key : Key) (other : NodeId) → same_node other node ≡ false → has_key same keys gone key other ≡ has_key same keys layout key other
    key_gone key other differ = ap (λ b. b && list_any (same key) (read_at keys layout other)) (is_in_without node other layout.rings differ)

    -- and the node has its own
    own_keys : (key : Key) → list_any (same key) (read_at keys layout node) ≡ list_any (same key) (keys it)
    own_keys key = ap (list_any (same key)) (read_known keys layout node it known)

    clash : (key : Key) (other : NodeId) {X : Type 0} → (is_in gone_to.rings node ≡ true → AreNew same keys gone it) → same_node other node ≡ false
        → has_key same keys gone_to key node ≡ true → has_key same keys gone_to key other ≡ true → X
    clash key other apart differ p q =
        let parts = both_true _ _ p in
        not_both (key_gone key other differ ∙ (sym (key_stays key other differ) ∙ q)) (apart parts.0 key other (sym (own_keys key) ∙ parts.1))

    -- so that no key is that of two nodes
    once_gone : (is_in gone_to.rings node ≡ true → AreNew same keys gone it) → AreOnce same keys layout → AreOnce same keys gone_to
    once_gone apart once = λ key a b p q.
        by_test (λ t. same_node a node ≡ t → a ≡ b) (same_node a node)
        (λ on e.
        let is : a ≡ node = same_node_is a node e in
        by_test (λ t. same_node b node ≡ t → a ≡ b) (same_node b node)
        (λ on2 e2. is ∙ sym (same_node_is b node e2))
        (λ off2 e2. clash key b apart e2 (ap (has_key same keys gone_to key) (sym is) ∙ p) q) refl)
        (λ off e. by_test (λ t. same_node b node ≡ t → a ≡ b) (same_node b node)
        (λ on2 e2. clash key a apart e (ap (has_key same keys gone_to key) (sym (same_node_is b node e2)) ∙ q) p)
        (λ off2 e2. once key a b (sym (key_stays key a e) ∙ p) (sym (key_stays key b e2) ∙ q)) refl) refl

  -- where it stands, nothing else has a key of its own
  apart_there : is_in gone_to.rings node ≡ true → IsApart gone it
  apart_there = by to goes.there.2 where
    by : (to : Option Place) → MayStand gone to it → is_in (relinked layout.rings node to) node ≡ true → IsApart gone it
    by None may there = not_both there (is_in_without_itself node layout.rings)
    by (Some place) may there = may.1

  -- a section's ring is one still
  section_of : (key : RingId) → list_any (same_ring key) (rings_in it) ≡ true → is_in gone_to.rings node ≡ true
  section_of key has = by to it goes.there.2 has where
    by : (to : Option Place) (own : Content) → MayStand gone to own → list_any (same_ring key) (rings_in own) ≡ true → is_in (relinked layout.rings node to) node ≡ true
    by to (content.Declared declaration) may has = not_both has refl
    by to (content.Placed entry) may has = not_both has refl
    by None (content.Begun name ring) may has = absurd may
    by (Some place) (content.Begun name ring) may has = is_in_put_itself place node 0 gone.rings (place_for_among gone place (content.Begun name ring) may.0)

  owned_stays : (index : ℕ) → IsOwned layout index → IsOwned gone_to index
  owned_stays index owned = (
    owned.0,
    by_test (λ b. same_node owned.0 node ≡ b → has_key same_ring rings_in gone_to (record { index = index }) owned.0 ≡ true) (same_node owned.0 node)
        (λ on e.
        let is : owned.0 ≡ node = same_node_is owned.0 node e in
        let has : list_any (same_ring (record { index = index })) (read_at rings_in layout node) ≡ true =
        ap (λ n. list_any (same_ring (record { index = index })) (read_at rings_in layout n)) (sym is) ∙ (both_true _ _ owned.1).1 in
        ap (has_key same_ring rings_in gone_to (record { index = index })) is
        ∙ (ap (λ b. b && list_any (same_ring (record { index = index })) (read_at rings_in layout node))
        (section_of (record { index = index }) (sym (own_keys same_ring rings_in (record { index = index })) ∙ has)) ∙ has))
        (λ off e. key_stays same_ring rings_in (record { index = index }) owned.0 e ∙ owned.1) refl,
  )

  owned_was : (index : ℕ) → IsOwned gone index → IsOwned layout index
  owned_was index owned = (
    owned.0,
    by_test (λ b. same_node owned.0 node ≡ b → has_key same_ring rings_in layout (record { index = index }) owned.0 ≡ true) (same_node owned.0 node)
        (λ on e. not_both (ap (is_in gone.rings) (sym (same_node_is owned.0 node e)) ∙ (both_true _ _ owned.1).0) (is_in_without_itself node layout.rings))
        (λ off e. sym (key_gone same_ring rings_in (record { index = index }) owned.0 e) ∙ owned.1) refl,
  )

  -- what stands in the ring with a number is what may stand there
  abbrev IsKind : ℕ → Content → Type 0
  IsKind index (content.Declared declaration) = index ≡ 0
  IsKind index (content.Begun name ring) = index ≡ 1
  IsKind index (content.Placed entry) = IsOwned layout index

  kind_there : (index : ℕ) → has_node (ring_at gone_to index) node ≡ true → IsKind index it
  kind_there index there = by to it goes.there.2 there where
    by : (to : Option Place) (own : Content) → MayStand gone to own → has_node (get_or (relinked layout.rings node to) index []) node ≡ true → IsKind index own
    by None own may there = not_both there (ap (λ nodes. has_node nodes node) (get_without node layout.rings index) ∙ has_without_itself node (ring_at layout index))
    by (Some place) (content.Declared declaration) may there = gone_once place index 0 (ring_put layout.rings node place index there) may.0
    by (Some place) (content.Begun name ring) may there = gone_once place index 1 (ring_put layout.rings node place index there) may.0
    by (Some place) (content.Placed entry) may there =
        subst (λ k. IsOwned layout k) (sym (gone_once place index may.0.0 (ring_put layout.rings node place index there) may.0.1)) (owned_was may.0.0 may.0.2)

  kind_declared : (own : Content) → IsKind 0 own → IsDeclaration (Some own)
  kind_declared (content.Declared declaration) is = tt
  kind_declared (content.Begun name ring) is = absurd (omega (arith, is))
  kind_declared (content.Placed entry) is = let high = owned_high layout sound.shaped 0 is in absurd (omega (arith, high))

  -- a section stood in the ring of the sections
  section_was : (name : Option (List ℕ)) (ring : RingId) → content_of layout node ≡ Some (content.Begun name ring) → IsSection (length layout.rings) (Some (content.Begun name ring))
  section_was name ring begun = let at = in_some layout.rings node linked in go at.0 at.1 where
    stood : (from : Option Place) (own : Content) → content_of layout node ≡ Some own → MayStand gone from own → IsAt layout node from → is_in layout.rings node ≡ true
    stood None own is may at = let same : own ≡ content.Begun name ring = cc in absurd (subst (λ (x : Content). MayStand gone None x) same may)
    stood (Some place) own is may at = at_linked 0 layout.rings node place at

    linked : is_in layout.rings node ≡ true
    linked = stood from goes.here.0 goes.here.1 goes.here.2 goes.stands

    go : (index : ℕ) → has_node (ring_at layout index) node ≡ true → IsSection (length layout.rings) (Some (content.Begun name ring))
    go zero at = absurd (subst (λ (found : Option Content). IsDeclaration found) begun (sound.shaped.declared node at))
    go (suc zero) at = subst (λ (found : Option Content). IsSection (length layout.rings) found) begun (sound.shaped.begun node at)
    go (suc (suc index)) at = absurd (subst (λ (found : Option Content). IsEntry found) begun (sound.shaped.placed index node at).0)

  kind_begun : (own : Content) → content_of layout node ≡ Some own → IsKind 1 own → IsSection (length layout.rings) (Some own)
  kind_begun (content.Declared declaration) known is = absurd (omega (arith, is))
  kind_begun (content.Begun name ring) known is = section_was name ring known
  kind_begun (content.Placed entry) known is = let high = owned_high layout sound.shaped 1 is in absurd (omega (arith, high))

  kind_placed : (index : ℕ) (own : Content) → IsKind (suc (suc index)) own → IsEntry (Some own) × IsOwned gone_to (suc (suc index))
  kind_placed index (content.Declared declaration) is = absurd (omega (arith, is))
  kind_placed index (content.Begun name ring) is = absurd (omega (arith, is))
  kind_placed index (content.Placed entry) is = (tt, owned_stays (suc (suc index)) is)

  -- each ring has nodes of its kind
  shaped_there : IsShaped gone_to
  shaped_there = record {
    two = subst (λ n. 2 ≤ n) (sym (length_relinked layout.rings node to)) sound.shaped.two;
    declared = λ other there. by_test (λ b. same_node other node ≡ b → IsDeclaration (content_of layout other)) (same_node other node)
        (λ on e.
        let is : other ≡ node = same_node_is other node e in
        subst (λ (found : Option Content). IsDeclaration found) (sym (ap (content_of layout) is ∙ known)) (kind_declared it (kind_there 0 (ap (has_node (ring_at gone_to 0)) (sym is) ∙ there))))
        (λ off e. sound.shaped.declared other (sym (ring_relinked layout.rings node other to 0 e) ∙ there)) refl;
    begun = λ other there. subst (λ n. IsSection n (content_of layout other)) (sym (length_relinked layout.rings node to))
        (by_test (λ b. same_node other node ≡ b → IsSection (length layout.rings) (content_of layout other)) (same_node other node)
        (λ on e.
        let is : other ≡ node = same_node_is other node e in
        subst (λ (found : Option Content). IsSection (length layout.rings) found) (sym (ap (content_of layout) is ∙ known))
        (kind_begun it known (kind_there 1 (ap (has_node (ring_at gone_to 1)) (sym is) ∙ there))))
        (λ off e. sound.shaped.begun other (sym (ring_relinked layout.rings node other to 1 e) ∙ there)) refl);
    placed = λ index other there. by_test (λ b. same_node other node ≡ b → IsEntry (content_of layout other) × IsOwned gone_to (suc (suc index))) (same_node other node)
        (λ on e.
        let is : other ≡ node = same_node_is other node e in
        let kind = kind_placed index it (kind_there (suc (suc index)) (ap (has_node (ring_at gone_to (suc (suc index)))) (sym is) ∙ there)) in
        (subst (λ (found : Option Content). IsEntry found) (sym (ap (content_of layout) is ∙ known)) kind.0, kind.1))
        (λ off e.
        let was = sound.shaped.placed index other (sym (ring_relinked layout.rings node other to (suc (suc index)) e) ∙ there) in
        (was.0, owned_stays (suc (suc index)) was.1)) refl;
    own = once_gone same_ring rings_in (λ there. (apart_there there).rings) sound.shaped.own;
  }

  -- the layout is sound
  pub gone_sound : IsSoundLayout gone_to
  gone_sound = record {
    laid = record {
      once = once_relinked layout.rings node to sound.laid.once;
      made = λ other there. by_test (λ b. same_node other node ≡ b → IsSome (content_of layout other)) (same_node other node)
          (λ on e. subst (λ (found : Option Content). IsSome found) (sym (ap (content_of layout) (same_node_is other node e) ∙ known)) refl)
          (λ off e. sound.laid.made other (sym (is_in_relinked layout.rings node other to e) ∙ there)) refl;
    };
    named = sound.named;
    shaped = shaped_there;
    names = once_gone same_name names_in (λ there. (apart_there there).names) sound.names;
    texts = once_gone same_name texts_in (λ there. (apart_there there).texts) sound.texts;
    sections = once_gone same_name section_names_in (λ there. (apart_there there).sections) sound.sections;
    ids = once_gone same_id ids_in (λ there. (apart_there there).ids) sound.ids;
  }

-- Items.

-- a layout after an item whose node goes to a place and gets other weights
abbrev pub after_item : (gets : Option Place) → TableLayout → NodeId → (to : Option Place) → Option (List Weight) → TableLayout
after_item gets layout node to weights = record { rings = moved_rings gets layout.rings node to; nodes = weighed_nodes node weights layout.nodes }

-- it is sound
pub after_sound : (gets had : Option Place) (layout : TableLayout) (node : NodeId) (from to : Option Place) (weights : Option (List Weight)) → IsSoundLayout layout
    → ItemGoes gets had layout node from to
    → IsSoundLayout (after_item gets layout node to weights)
after_sound None had layout node from to weights sound goes = reweighed_sound layout node weights sound
after_sound (Some place) had layout node from to weights sound goes = reweighed_sound (gone_to layout sound node from to goes) node weights (gone_sound layout sound node from to goes)

-- a layout with an item done is sound
pub item_on_sound : (layout : TableLayout) (item : Item) → IsSoundLayout layout → ItemGoes item.new item.old layout item.node item.old item.new → IsSoundLayout (item_on layout item)
item_on_sound layout item sound goes = after_sound item.new item.old layout item.node item.old item.new item.weights sound goes

-- so is one with an item taken back
pub item_back_sound : (layout : TableLayout) (item : Item) → IsSoundLayout layout → ItemGoes item.new item.old layout item.node item.new item.old → IsSoundLayout (item_back layout item)
item_back_sound layout item sound goes = after_sound item.new item.old layout item.node item.new item.old item.weights sound goes

-- Nodes once an item is done.

-- its node stands where it goes
pub lands : (layout : TableLayout) (item : Item) (place : Place) → item.new ≡ Some place → ItemGoes item.new item.old layout item.node item.old item.new → is_in (item_on layout item).rings item.node
    ≡ true
lands layout item place is goes = by item.new item.old is goes where
  by : (gets had : Option Place) → gets ≡ Some place → ItemGoes gets had layout item.node had gets → is_in (moved_rings gets layout.rings item.node gets) item.node ≡ true
  by None had is goes = cc
  by (Some other) had is goes = is_in_put_itself other item.node 0 (without_link layout item.node).rings (place_for_among (without_link layout item.node) other goes.there.0 goes.there.2.0)

-- each node that stood in a ring stands in one
pub stays_linked : (layout : TableLayout) (item : Item) (node : NodeId) → ItemGoes item.new item.old layout item.node item.old item.new → is_in layout.rings node ≡ true
    → is_in (item_on layout item).rings node ≡ true
stays_linked layout item node goes there = by item.new refl where
  by : (gets : Option Place) → item.new ≡ gets → is_in (moved_rings gets layout.rings item.node gets) node ≡ true
  by None is = there
  by (Some place) is = by_test (λ b. same_node node item.node ≡ b → is_in (relinked layout.rings item.node (Some place)) node ≡ true) (same_node node item.node)
      (λ on e. ap (is_in (relinked layout.rings item.node (Some place))) (same_node_is node item.node e)
      ∙ (ap (λ (gets : Option Place). is_in (moved_rings gets layout.rings item.node gets) item.node) (sym is) ∙ lands layout item place is goes))
      (λ off e. is_in_relinked layout.rings item.node node (Some place) e ∙ there) refl

-- and no node is made
pub made_alike : (layout : TableLayout) (item : Item) (node : NodeId) → IsSome (content_of (item_on layout item) node) → IsSome (content_of layout node)
made_alike layout item node there = some_alike (content_of layout node) (content_of (item_on layout item) node) (sym (reweighed_same layout item.node node item.weights)) there
