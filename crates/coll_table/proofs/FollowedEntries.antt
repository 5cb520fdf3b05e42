-- The nodes of entries, in order, where a node goes from one place to another, and where one gets other weights.
use Rattle.std.proofs.Common.{◌≡◌, ◌≤◌, ◌+◌, ℕ, zero, suc, true, false, ◌||◌, cond, ltb, List, [], ◌∷◌, ◌++◌, Option, Some, None, length, flat_map, get_or, sym, ap, subst, ◌∙◌, refl, arith}
use Rattle.std.proofs.Math.ListN.{get_or-eq_default}
use Rattle.std.proofs.lemmas.Bool.{ltb-true, ltb-false}
use Rattle.coll_order.specs.Layout.{head_of, is_in, rings_with, rings_without}
use Rattle.coll_order.specs.Lists.{same_node, same_place, has_node, without, put_after}
use Rattle.coll_order.specs.Sound.{AreDistinct, StandOnce}
use Rattle.coll_order.specs.declared.places.NodeId.{NodeId}
use Rattle.coll_order.specs.declared.places.RingId.{RingId}
use Rattle.coll_order.specs.declared.places.Place.{Place}
use Rattle.coll_order.specs.declared.places.Place.TheVariants.{Head, After}
use Rattle.coll_order.proofs.ListLemmas.{has_without_itself, neither, put_first, rings_without_absent, without_absent}
use Rattle.coll_order.proofs.RingLemmas.{distinct_ring, get_put, get_without, in_some, is_in_put_itself, length_rings_with, length_rings_without, rings_put_back}
use Rattle.coll_order.proofs.Sameness.{by_test, not_both, same_node_is}
use Rattle.coll_syntax.specs.declared.weights.Weight.{Weight}
use Rattle.coll_nodes.proofs.LayoutReads.{declaration_is, owner_at, read_known, section_at}
use Rattle.coll_nodes.proofs.NodeLists.{any_to, read_twice, same_put, same_read}
use Rattle.coll_nodes.proofs.NumberedNodes.{entry_at_node}
use Rattle.coll_nodes.proofs.TurningKeys.{AreSame}
use Rattle.coll_nodes.proofs.TurningNodes.{content_weighed, weighed_if}
use Rattle.coll_nodes.specs.Moving.{CanGo, relinked}
use Rattle.coll_nodes.specs.NodeNumbers.{entry_nodes, entry_nodes_in}
use Rattle.coll_nodes.specs.SoundBodies.{read_at, ring_at, IsShaped}
use Rattle.coll_nodes.specs.SoundLayouts.{IsSoundLayout}
use Rattle.coll_nodes.specs.TableLayout.{TableLayout, content_of, if_any, nodes_in}
use Rattle.coll_nodes.specs.declared.contents.Content.{Content}
use Rattle.coll_nodes.specs.declared.contents.Content.TheVariants as content
use Rattle.coll_nodes.specs.declared.declarations.Declaration.{Declaration}
use Rattle.coll_nodes.specs.declared.entries.Entry.{Entry}
use Rattle.coll_table.proofs.TurningRings.{distinct_without, once_without, without_relinked}
use Rattle.coll_table.proofs.TurningSound.{after_item, at_linked, gone_sound, place_for_among, reweighed}
use Rattle.coll_table.specs.Following.{GoesAmong, IsLeft, IsTaken, ItemGoesAmong, NodeGoes}
use Rattle.coll_table.specs.Turning.{ItemGoes}

-- Lists.

without_append : (node : NodeId) (xs ys : List NodeId) → without node (xs ++ ys) ≡ without node xs ++ without node ys
without_append node [] ys = refl
without_append node (x ∷ xs) ys =
    by_test (λ b. cond b (without node (xs ++ ys)) (x ∷ without node (xs ++ ys)) ≡ cond b (without node xs) (x ∷ without node xs) ++ without node ys) (same_node node x)
    (λ on. without_append node xs ys) (λ off. ap (λ zs. x ∷ zs) (without_append node xs ys))

-- readings of which each is without a node, of a list without it
without_read : (node : NodeId) (f g : NodeId → List NodeId) (xs : List NodeId) → g node ≡ [] → ((other : NodeId) → g other ≡ without node (f other))
    → flat_map g (without node xs) ≡ without node (flat_map f xs)
without_read node f g [] none each = refl
without_read node f g (x ∷ xs) none each =
    let later = without_read node f g xs none each in
    by_test (λ b. same_node node x ≡ b → flat_map g (cond b (without node xs) (x ∷ without node xs)) ≡ without node (f x ++ flat_map f xs)) (same_node node x)
    (λ on e. later
    ∙ sym (without_append node (f x) (flat_map f xs) ∙ ap (λ zs. zs ++ without node (flat_map f xs)) (sym (each x) ∙ (ap g (sym (same_node_is node x e)) ∙ none))))
    (λ off e. ap (λ zs. zs ++ flat_map g (without node xs)) (each x) ∙ (ap (λ zs. without node (f x) ++ zs) later ∙ sym (without_append node (f x) (flat_map f xs)))) refl

-- a node in a list of distinct ones, and the list without it
split_without : (xs : List NodeId) (node : NodeId) → AreDistinct xs → has_node xs node ≡ true
    → (before : List NodeId) × (after : List NodeId) × (xs ≡ before ++ node ∷ after) × (without node xs ≡ before ++ after)
split_without [] node distinct there = not_both there refl
split_without (x ∷ xs) node distinct there =
    by_test (λ b. same_node node x ≡ b → (b || has_node xs node) ≡ true
    → (before : List NodeId) × (after : List NodeId) × (x ∷ xs ≡ before ++ node ∷ after) × (cond b (without node xs) (x ∷ without node xs) ≡ before ++ after)) (same_node node x)
    (λ on e _.
    let is : node ≡ x = same_node_is node x e in
    ([], xs, ap (λ n. n ∷ xs) (sym is), without_absent node xs (ap (has_node xs) is ∙ distinct.0)))
    (λ off e later. let rest = split_without xs node distinct.1 later in (x ∷ rest.0, rest.1, ap (λ zs. x ∷ zs) rest.2, ap (λ zs. x ∷ zs) rest.3)) refl there

-- a list with a node directly after another, wherever that stands
abbrev pub behind : (other node : NodeId) → List NodeId → List NodeId
behind other node xs = flat_map (λ x. x ∷ cond (same_node other x) (node ∷ []) []) xs

behind_absent : (other node : NodeId) (xs : List NodeId) → has_node xs other ≡ false → behind other node xs ≡ xs
behind_absent other node [] absent = refl
behind_absent other node (x ∷ xs) absent =
    let parts = neither (same_node other x) (has_node xs other) absent in
    ap (λ b. x ∷ (cond b (node ∷ []) [] ++ behind other node xs)) parts.0 ∙ ap (λ zs. x ∷ zs) (behind_absent other node xs parts.1)

split_behind : (xs : List NodeId) (other node : NodeId) → AreDistinct xs → has_node xs other ≡ true
    → (before : List NodeId) × (after : List NodeId) × (xs ≡ before ++ other ∷ after) × (behind other node xs ≡ before ++ other ∷ node ∷ after)
split_behind [] other node distinct there = not_both there refl
split_behind (x ∷ xs) other node distinct there =
    by_test (λ b. same_node other x ≡ b → (b || has_node xs other) ≡ true
    → (before : List NodeId) × (after : List NodeId) × (x ∷ xs ≡ before ++ other ∷ after) × (x ∷ (cond b (node ∷ []) [] ++ behind other node xs) ≡ before ++ other ∷ node ∷ after)) (same_node other x)
    (λ on e _.
    let is : other ≡ x = same_node_is other x e in
    ([], xs, ap (λ n. n ∷ xs) (sym is), ap (λ zs. x ∷ node ∷ zs) (behind_absent other node xs (ap (has_node xs) is ∙ distinct.0)) ∙ ap (λ n. n ∷ node ∷ xs) (sym is)))
    (λ off e later. let rest = split_behind xs other node distinct.1 later in (x ∷ rest.0, rest.1, ap (λ zs. x ∷ zs) rest.2, ap (λ zs. x ∷ zs) rest.3)) refl there

-- where a node is put directly after another in a list of distinct ones
put_behind : (other node : NodeId) (start : Place) (xs : List NodeId) → same_place (After other) start ≡ false → AreDistinct xs → put_after (After other) node start xs ≡ behind other node xs
put_behind other node start [] apart distinct = ap (λ b. cond b (node ∷ []) []) apart
put_behind other node start (x ∷ xs) apart distinct =
    ap (λ b. cond b (node ∷ x ∷ xs) (x ∷ put_after (After other) node (After x) xs)) apart
    ∙ by_test (λ b. same_node other x ≡ b → x ∷ put_after (After other) node (After x) xs ≡ x ∷ (cond b (node ∷ []) [] ++ behind other node xs)) (same_node other x)
    (λ on e.
    let is : other ≡ x = same_node_is other x e in
    ap (λ (n : NodeId). x ∷ put_after (After n) node (After x) xs) is
    ∙ (ap (λ zs. x ∷ zs) (put_first (After x) node xs) ∙ ap (λ zs. x ∷ node ∷ zs) (sym (behind_absent other node xs (ap (has_node xs) is ∙ distinct.0)))))
    (λ off e. ap (λ zs. x ∷ zs) (put_behind other node (After x) xs e distinct.1)) refl

-- Rings.

-- the same nodes in other rings
abbrev with_rings : TableLayout → List (List NodeId) → TableLayout
with_rings layout rings = record layout { rings = rings }

-- a node is no section
abbrev IsNoSection : TableLayout → NodeId → Type 0
IsNoSection layout node = (name : Option (List ℕ)) (ring : RingId) → content_of layout node ≡ Some (content.Begun name ring) → ⊥

-- of such a node no entries are read
nothing_read : (layout : TableLayout) (node : NodeId) → IsNoSection layout node → read_at (entry_nodes_in layout) layout node ≡ []
nothing_read layout node none = by (content_of layout node) refl where
  by : (found : Option Content) → content_of layout node ≡ found → flat_map (entry_nodes_in layout) (if_any found) ≡ []
  by None is = refl
  by (Some (content.Declared declaration)) is = refl
  by (Some (content.Begun name ring)) is = absurd (none name ring is)
  by (Some (content.Placed entry)) is = refl

-- what is read of a node in other rings
read_changed : (layout : TableLayout) (rings : List (List NodeId)) (change : List NodeId → List NodeId) (other : NodeId) → change [] ≡ []
    → ((ring : RingId) → nodes_in (with_rings layout rings) ring ≡ change (nodes_in layout ring))
    → read_at (entry_nodes_in (with_rings layout rings)) (with_rings layout rings) other ≡ change (read_at (entry_nodes_in layout) layout other)
read_changed layout rings change other none each = by (content_of layout other) refl where
  by : (found : Option Content) → content_of layout other ≡ found
      → flat_map (entry_nodes_in (with_rings layout rings)) (if_any (content_of layout other)) ≡ change (flat_map (entry_nodes_in layout) (if_any (content_of layout other)))
  by None is = ap (λ found. flat_map (entry_nodes_in (with_rings layout rings)) (if_any found)) is ∙ sym (ap (λ found. change (flat_map (entry_nodes_in layout) (if_any found))) is ∙ none)
  by (Some (content.Declared declaration)) is =
      ap (λ found. flat_map (entry_nodes_in (with_rings layout rings)) (if_any found)) is ∙ sym (ap (λ found. change (flat_map (entry_nodes_in layout) (if_any found))) is ∙ none)
  by (Some (content.Begun name ring)) is =
      read_known (entry_nodes_in (with_rings layout rings)) (with_rings layout rings) other (content.Begun name ring) is
      ∙ (each ring ∙ sym (ap change (read_known (entry_nodes_in layout) layout other (content.Begun name ring) is)))
  by (Some (content.Placed entry)) is =
      ap (λ found. flat_map (entry_nodes_in (with_rings layout rings)) (if_any found)) is ∙ sym (ap (λ found. change (flat_map (entry_nodes_in layout) (if_any found))) is ∙ none)

-- where a node that is no section is taken out of its ring
entries_gone : (layout : TableLayout) (node : NodeId) → IsNoSection layout node
    → entry_nodes (with_rings layout (rings_without node layout.rings)) ≡ without node (entry_nodes layout)
entries_gone layout node none =
    let gone = with_rings layout (rings_without node layout.rings) in
    ap (flat_map (read_at (entry_nodes_in gone) gone)) (get_without node 1 layout.rings)
    ∙ without_read node (read_at (entry_nodes_in layout) layout) (read_at (entry_nodes_in gone) gone) (ring_at layout 1) (nothing_read gone node none)
    (λ other. read_changed layout (rings_without node layout.rings) (without node) other refl (λ ring. get_without node ring.index layout.rings))

-- where it is put directly after another
entries_put : (layout : TableLayout) (other node : NodeId) → IsNoSection layout node → StandOnce layout.rings → 2 ≤ length layout.rings
    → entry_nodes (with_rings layout (rings_with (After other) node 0 layout.rings)) ≡ behind other node (entry_nodes layout)
entries_put layout other node none once two =
    let rings = rings_with (After other) node 0 layout.rings in
    let put = with_rings layout rings in
    ap (flat_map (read_at (entry_nodes_in put) put)) (get_put (After other) node 0 1 layout.rings two)
    ∙ (same_put (read_at (entry_nodes_in put) put) (read_at (entry_nodes_in put) put) (After other) (head_of (0 + 1)) node (ring_at layout 1) (nothing_read put node none) (λ x there. refl)
    ∙ (same_read (λ x. behind other node (read_at (entry_nodes_in layout) layout x)) (read_at (entry_nodes_in put) put) (ring_at layout 1)
    (λ x there. read_changed layout rings (behind other node) x refl (λ ring. ring_put ring.index))
    ∙ sym (read_twice (λ x. x ∷ cond (same_node other x) (node ∷ []) []) (read_at (entry_nodes_in layout) layout) (ring_at layout 1)))) where
      ring_put : (index : ℕ) → get_or (rings_with (After other) node 0 layout.rings) index [] ≡ behind other node (get_or layout.rings index [])
      ring_put index = by_test (λ b. ltb index (length layout.rings) ≡ b → get_or (rings_with (After other) node 0 layout.rings) index [] ≡ behind other node (get_or layout.rings index [])) (ltb index (length layout.rings))
          (λ on e. get_put (After other) node 0 index layout.rings (ltb-true index (length layout.rings) e)
          ∙ put_behind other node (head_of (0 + index)) (get_or layout.rings index []) refl (distinct_ring layout.rings index once))
          (λ off e.
          let past = ltb-false index (length layout.rings) e in
          let as_many = length_rings_with (After other) node 0 layout.rings in
          get_or-eq_default (rings_with (After other) node 0 layout.rings) [] (omega (arith, past, as_many))
          ∙ sym (ap (behind other node) (get_or-eq_default layout.rings [] past))) refl

-- the node of an entry that stands in a ring is among those of all entries
pub entry_stands : (layout : TableLayout) (node : NodeId) (entry : Entry) → IsShaped layout → is_in layout.rings node ≡ true → content_of layout node ≡ Some (content.Placed entry)
    → has_node (entry_nodes layout) node ≡ true
entry_stands layout node entry shaped linked is = let at = in_some layout.rings node linked in go at.0 at.1 where
  go : (index : ℕ) → has_node (ring_at layout index) node ≡ true → has_node (entry_nodes layout) node ≡ true
  go zero at = let own = declaration_is (content_of layout node) (shaped.declared node at) in absurd (differ own.0 (sym own.1 ∙ is)) where
    differ : (declaration : _) → Some (content.Declared declaration) ≡ Some (content.Placed entry) → ⊥
    differ declaration e = cc
  go (suc zero) at = let own = section_at layout shaped node at in absurd (differ own.0 own.1 (sym own.2 ∙ is)) where
    differ : (name : Option (List ℕ)) (ring : RingId) → Some (content.Begun name ring) ≡ Some (content.Placed entry) → ⊥
    differ name ring e = cc
  go (suc (suc index)) at =
      let owned = (shaped.placed index node at).1 in
      let owner = owner_at layout shaped (suc (suc index)) owned.0 owned.1 in
      let ring = owner.1.1 in
      let read : read_at (entry_nodes_in layout) layout owned.0 ≡ ring_at layout ring.index = read_known (entry_nodes_in layout) layout owned.0 (content.Begun owner.1.0 ring) owner.1.2 in
      let here : has_node (read_at (entry_nodes_in layout) layout owned.0) node ≡ true =
      ap (λ nodes. has_node nodes node) read ∙ (ap (λ k. has_node (ring_at layout k) node) owner.1.3 ∙ at) in
      any_to (same_node node) (read_at (entry_nodes_in layout) layout) (ring_at layout 1) owned.0 owner.0 here

-- other weights change none of the nodes
pub entries_reweighed : (layout : TableLayout) (node : NodeId) (weights : Option (List Weight)) → entry_nodes (reweighed layout node weights) ≡ entry_nodes layout
entries_reweighed layout node weights =
    same_read (read_at (entry_nodes_in layout) layout) (read_at (entry_nodes_in layout) (reweighed layout node weights)) (ring_at layout 1) (λ other there.
    ap (λ found. flat_map (entry_nodes_in layout) (if_any found)) (content_weighed node weights layout.nodes other)
    ∙ by_test (λ b. flat_map (entry_nodes_in layout) (if_any (cond b (weighed_if weights (content_of layout other)) (content_of layout other)))
    ≡ flat_map (entry_nodes_in layout) (if_any (content_of layout other))) (same_node other node) (λ on. same weights (content_of layout other)) (λ off. refl)) where
      same : (weights : Option (List Weight)) (found : Option Content) → flat_map (entry_nodes_in layout) (if_any (weighed_if weights found)) ≡ flat_map (entry_nodes_in layout) (if_any found)
      same weights None = refl
      same None (Some it) = refl
      same (Some weights) (Some (content.Declared declaration)) = refl
      same (Some weights) (Some (content.Begun name ring)) = refl
      same (Some weights) (Some (content.Placed entry)) = refl

-- Nodes that go.

-- a node goes from one place to another: the layout before is the one in which it stands at the other
module _ (layout : TableLayout) (sound : IsSoundLayout layout) (node : NodeId) (has had : Option Place) (goes : CanGo layout node has had) where
  abbrev before : TableLayout
  before = with_rings layout (relinked layout.rings node had)

  abbrev between : TableLayout
  between = with_rings layout (rings_without node layout.rings)

  before_sound : IsSoundLayout before
  before_sound = gone_sound layout sound node has had goes

  -- without it, the nodes are the same
  between_is : IsNoSection layout node → entry_nodes between ≡ without node (entry_nodes before)
  between_is none = ap (λ rings. entry_nodes (with_rings layout rings)) (sym (without_relinked layout.rings node had)) ∙ entries_gone before node none

  -- where it stood or stands, it stands in a ring
  had_linked : (place : Place) → had ≡ Some place → is_in before.rings node ≡ true
  had_linked place is = by had is goes where
    by : (to : Option Place) → to ≡ Some place → CanGo layout node has to → is_in (relinked layout.rings node to) node ≡ true
    by None is goes = cc
    by (Some other) is goes = is_in_put_itself other node 0 (rings_without node layout.rings) (place_for_among between other goes.there.0 goes.there.2.0)

  has_linked : (place : Place) → has ≡ Some place → is_in layout.rings node ≡ true
  has_linked place is = by has is goes where
    by : (from : Option Place) → from ≡ Some place → CanGo layout node from had → is_in layout.rings node ≡ true
    by None is goes = cc
    by (Some other) is goes = at_linked 0 layout.rings node other goes.stands

  -- the node of an entry leaves its place among all, and takes another
  module _ (entry : Entry) (is : content_of layout node ≡ Some (content.Placed entry)) where
    no_section : IsNoSection layout node
    no_section name ring other = differ (sym is ∙ other) where
      differ : Some (content.Placed entry) ≡ Some (content.Begun name ring) → ⊥
      differ e = cc

    gone : entry_nodes between ≡ without node (entry_nodes layout)
    gone = entries_gone layout node no_section

    leaves : AreDistinct (entry_nodes before) → (place : Option Place) → had ≡ place → IsLeft place node (entry_nodes before) (entry_nodes between)
    leaves distinct None at = ap (λ to. entry_nodes (with_rings layout (relinked layout.rings node to))) at
    leaves distinct (Some place) at =
        let split = split_without (entry_nodes before) node distinct (entry_stands before node entry before_sound.shaped (had_linked place at) is) in
        (split.0, split.1, split.2, between_is no_section ∙ split.3)

    takes : AreDistinct (entry_nodes before) → (place : Option Place) → has ≡ place → IsTaken place node (entry_nodes between) (entry_nodes layout)
    takes distinct None at = ap (λ rings. entry_nodes (with_rings layout rings)) (sym (loose at)) where
      loose : has ≡ None → rings_without node layout.rings ≡ layout.rings
      loose at = by has at goes where
        by : (from : Option Place) → from ≡ None → CanGo layout node from had → rings_without node layout.rings ≡ layout.rings
        by None at goes = rings_without_absent node layout.rings goes.stands.apart
        by (Some other) at goes = cc
    takes distinct (Some (Head ring)) at = tt
    takes distinct (Some (After other)) at =
        let split = split_behind (entry_nodes between) other node few there in (split.0, split.1, split.2, put ∙ split.3) where
          few : AreDistinct (entry_nodes between)
          few = subst AreDistinct (sym (between_is no_section)) (distinct_without node (entry_nodes before) distinct)

          back : rings_with (After other) node 0 (rings_without node layout.rings) ≡ layout.rings
          back = by has at goes where
            by : (from : Option Place) → from ≡ Some (After other) → CanGo layout node from had → rings_with (After other) node 0 (rings_without node layout.rings) ≡ layout.rings
            by None at goes = cc
            by (Some place) at goes =
                let same : place ≡ After other = cc in
                ap (λ p. rings_with p node 0 (rings_without node layout.rings)) (sym same) ∙ rings_put_back place node 0 layout.rings goes.stands sound.laid.once

          put : entry_nodes layout ≡ behind other node (entry_nodes between)
          put = ap (λ rings. entry_nodes (with_rings layout rings)) (sym back)
              ∙ entries_put between other node no_section (once_without node layout.rings sound.laid.once) (let many = length_rings_without node layout.rings in let two = sound.shaped.two in omega (arith, many, two))

          there : has_node (entry_nodes between) other ≡ true
          there = by_test (λ b. has_node (entry_nodes between) other ≡ b → b ≡ true) (has_node (entry_nodes between) other) (λ on e. refl)
              (λ off e. not_both (sym (ap (λ nodes. has_node nodes node) (put ∙ behind_absent other node (entry_nodes between) e)) ∙ entry_stands layout node entry sound.shaped (has_linked (After other) at) is)
              (ap (λ nodes. has_node nodes node) gone ∙ has_without_itself node (entry_nodes layout))) refl

    entry_goes : AreDistinct (entry_nodes before) → GoesAmong had has node (entry_nodes before) (entry_nodes between) (entry_nodes layout)
    entry_goes distinct = record {
      apart = ap (λ nodes. has_node nodes node) gone ∙ has_without_itself node (entry_nodes layout);
      left = leaves distinct had refl;
      taken = takes distinct has refl;
    }

  -- that of a declaration leaves all as they are
  declaration_goes : (declaration : Declaration) → content_of layout node ≡ Some (content.Declared declaration) → entry_nodes layout ≡ entry_nodes before
  declaration_goes declaration is =
      sym (without_absent node (entry_nodes layout) (absent layout sound.shaped is))
      ∙ (sym (entries_gone layout node no_section) ∙ (between_is no_section ∙ without_absent node (entry_nodes before) (absent before before_sound.shaped is))) where
        no_section : IsNoSection layout node
        no_section name ring other = differ (sym is ∙ other) where
          differ : Some (content.Declared declaration) ≡ Some (content.Begun name ring) → ⊥
          differ e = cc

        absent : (at : TableLayout) → IsShaped at → content_of at node ≡ Some (content.Declared declaration) → has_node (entry_nodes at) node ≡ false
        absent at shaped is = by_test (λ b. has_node (entry_nodes at) node ≡ b → b ≡ false) (has_node (entry_nodes at) node)
            (λ on e. let own = (entry_at_node at shaped node e).0 in absurd (differ own.0 (sym is ∙ own.1))) (λ off e. refl) refl where
              differ : (entry : Entry) → Some (content.Declared declaration) ≡ Some (content.Placed entry) → ⊥
              differ entry e = cc

-- Items.

-- what is the same but for weights
placed_same : (found : Option Content) (entry : Entry) → AreSame found (Some (content.Placed entry)) → (own : Entry) × (found ≡ Some (content.Placed own))
placed_same None entry same = cc
placed_same (Some (content.Declared declaration)) entry same = cc
placed_same (Some (content.Begun name ring)) entry same = cc
placed_same (Some (content.Placed own)) entry same = (own, refl)

declared_same : (found : Option Content) (declaration : Declaration) → AreSame found (Some (content.Declared declaration)) → found ≡ Some (content.Declared declaration)
declared_same None declaration same = cc
declared_same (Some (content.Declared other)) declaration same = same
declared_same (Some (content.Begun name ring)) declaration same = cc
declared_same (Some (content.Placed own)) declaration same = cc

-- what becomes of the nodes by an item
pub item_goes : (gets hads : Option Place) (layout : TableLayout) (node : NodeId) (has had : Option Place) (weights : Option (List Weight)) (it : Option Content) → IsSoundLayout layout
    → ItemGoes gets hads layout node has had → AreSame (content_of layout node) it → AreDistinct (entry_nodes (after_item gets layout node had weights))
    → ItemGoesAmong gets it had has node (entry_nodes (after_item gets layout node had weights)) (entry_nodes layout)
item_goes None hads layout node has had weights it sound goes same distinct = sym (entries_reweighed layout node weights)
item_goes (Some place) hads layout node has had weights it sound goes same distinct = by it same where
  old_is : entry_nodes (after_item (Some place) layout node had weights) ≡ entry_nodes (before layout sound node has had goes)
  old_is = entries_reweighed (before layout sound node has had goes) node weights

  by : (it : Option Content) → AreSame (content_of layout node) it → NodeGoes it had has node (entry_nodes (after_item (Some place) layout node had weights)) (entry_nodes layout)
  by None same = tt
  by (Some (content.Declared declaration)) same = declaration_goes layout sound node has had goes declaration (declared_same (content_of layout node) declaration same) ∙ sym old_is
  by (Some (content.Begun name ring)) same = tt
  by (Some (content.Placed entry)) same =
      let own = placed_same (content_of layout node) entry same in (
        entry_nodes (between layout sound node has had goes),
        subst (λ (old : List NodeId). GoesAmong had has node old (entry_nodes (between layout sound node has had goes)) (entry_nodes layout)) (sym old_is)
            (entry_goes layout sound node has had goes own.0 own.1 (subst AreDistinct old_is distinct)),
      )
