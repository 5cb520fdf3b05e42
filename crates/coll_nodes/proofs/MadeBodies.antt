-- Bodies in which nodes that stand nowhere are made or dropped, keys are reserved, or weights are exchanged, are sound.
use Rattle.std.proofs.Common.{◌≡◌, ℕ, ◌≤◌, ◌++◌, ◌||◌, Bool, true, false, cond, is_some, IfOk, OnErr, Result, Ok, Err, List, [], ◌∷◌, Option, Some, None, length, sym, ap, ap₂, subst, ◌∙◌, refl, arith}
use Rattle.std.specs.List.{list_any}
use Rattle.std.proofs.lemmas.Bool.Decides.{Decides-eqb}
use Rattle.coll_order.specs.Layout.{is_in}
use Rattle.coll_order.specs.Lists.{same_node}
use Rattle.coll_order.specs.declared.places.NodeId.{NodeId}
use Rattle.coll_order.specs.declared.places.RingId.{RingId}
use Rattle.coll_order.specs.Sound.{StandOnce}
use Rattle.coll_order.specs.declared.places.Place.{Place}
use Rattle.coll_order.proofs.RingLemmas.{is_in_push}
use Rattle.coll_order.proofs.Sameness.{by_test, not_both, same_node_is, same_node_itself}
use Rattle.coll_syntax.specs.declared.weights.Weight.{Weight}
use Rattle.coll_nodes.specs.Bodies.{BodyValue, Makes, MakesSection, IsLaidOut, IsLooseNode, with_link}
use Rattle.coll_nodes.specs.BodyInvariant.{HasItsRing, IsReserved, IsSoundBody}
use Rattle.coll_nodes.specs.Counting.{AreFew, HasRoomFor, counts_at, counts_with}
use Rattle.coll_nodes.specs.KeyedNodes.{HasKeysOf, HasKeyOfSection, KeepsKeys, LeadsAlike, SetsKeys}
use Rattle.coll_nodes.specs.Linking.{nodes_without}
use Rattle.coll_nodes.specs.SoundBodies.{same_ring, Finds, IsShaped, with_empty_ring}
use Rattle.coll_nodes.specs.Table.{Section, joined_entries}
use Rattle.coll_nodes.specs.TableLayout.{TableLayout, MadeNode, content_of}
use Rattle.coll_nodes.specs.Moving.{IsApart, IsPlaceFor, MayBeLoose, Suits, weighed, weighed_nodes}
use Rattle.coll_nodes.specs.declared.contents.Content.{Content}
use Rattle.coll_nodes.specs.declared.contents.Content.TheVariants as content
use Rattle.coll_nodes.specs.declared.counts.Counts.{Counts}
use Rattle.coll_nodes.specs.declared.declarations.Declaration.{Declaration}
use Rattle.coll_nodes.specs.declared.node_keys.NodeKeys.{NodeKeys}
use Rattle.coll_nodes.proofs.AlikeLayouts.{AreAlike, reweighed, names_stay, texts_stay, section_names_stay, rings_stay, ids_stay, shaped_alike, found_alike, counts_alike, same_counts}
use Rattle.coll_nodes.proofs.ChangedNodes.{bare, bare_alike, content_dropped, content_weighed, weighed_alike, kept_weights}
use Rattle.coll_nodes.proofs.EmptyRings.{one_ring_more, finds_push, shaped_push, declared_push, sections_push}
use Rattle.coll_nodes.proofs.KeyedNodes.{section_keys}
use Rattle.coll_nodes.proofs.LinkedBodies.{fits_alike, apart_alike, linked_sound, reserved_kept}
use Rattle.coll_nodes.proofs.NodeCounts.{has_room}
use Rattle.coll_nodes.proofs.TakenBodies.{loose_ringless}

-- keys that lead alike find alike
finds_led : {Key : Type 0} (same : Key → Key → Bool) (keys : Content → List Key) (layout : TableLayout) (find find_new : Key → Option NodeId) → ((key : Key) → find_new key ≡ find key)
    → Finds same keys layout find → Finds same keys layout find_new
finds_led same keys layout find find_new alike sound = record {
  leads = λ key node. λ e. sound.leads key node (sym (alike key) ∙ e);
  finds = λ key node. λ has. alike key ∙ sound.finds key node has;
}

module _ (declarations sections : RingId) (counts : Counts) where
  -- with keys reserved
  pub reserved_sound : (layout : TableLayout) (keys keys_new : NodeKeys) → IsSoundBody layout declarations sections keys counts → LeadsAlike keys keys_new → KeepsKeys keys keys_new
      → IsSoundBody layout declarations sections keys_new counts
  reserved_sound layout keys keys_new sound alike kept = record {
    declarations = sound.declarations;
    begun = sound.begun;
    shaped = sound.shaped;
    found = record {
      names = finds_led _ _ layout _ _ alike.names sound.found.names;
      texts = finds_led _ _ layout _ _ alike.texts sound.found.texts;
      sections = finds_led _ _ layout _ _ alike.sections sound.found.sections;
      ids = finds_led _ _ layout _ _ alike.ids sound.found.ids;
    };
    reserved = reserved_kept layout keys keys_new kept sound.reserved;
    counted = sound.counted;
  }

  -- with other nodes beside those that stand, or with other weights
  pub alike_sound : (layout : TableLayout) (nodes : List MadeNode) (keys : NodeKeys) → IsSoundBody layout declarations sections keys counts → AreAlike layout nodes
      → IsReserved (record layout { nodes = nodes }) keys
      → IsSoundBody (record layout { nodes = nodes }) declarations sections keys counts
  alike_sound layout nodes keys sound alike reserved = record {
    declarations = sound.declarations;
    begun = sound.begun;
    shaped = shaped_alike layout nodes alike sound.shaped;
    found = found_alike layout nodes alike keys sound.found;
    reserved = reserved;
    counted = sound.counted ∙ sym (counts_alike layout nodes alike sound.shaped);
  }

  -- without a node that stands nowhere
  pub dropped_sound : (layout : TableLayout) (node : NodeId) (keys : NodeKeys) → IsSoundBody layout declarations sections keys counts → is_in layout.rings node ≡ false
      → IsSoundBody (record layout { nodes = nodes_without (node ∷ []) layout.nodes }) declarations sections keys counts
  dropped_sound layout node keys sound loose = alike_sound layout (nodes_without (node ∷ []) layout.nodes) keys sound (bare_alike layout node loose) (record {
    keys_of = λ other it is. sound.reserved.keys_of other it (was other it is);
    ring_of = λ other it is. sound.reserved.ring_of other it (was other it is);
  }) where
    was : (other : NodeId) (it : Content) → content_of (bare layout node) other ≡ Some it → content_of layout other ≡ Some it
    was other it is = by_test (λ b. cond b None (content_of layout other) ≡ Some it → content_of layout other ≡ Some it) (same_node other node) (λ on e. cc) (λ off e. e)
        (sym (content_dropped node other layout.nodes) ∙ is)

  -- with other weights of an entry
  pub weighed_sound : (layout : TableLayout) (node : NodeId) (weights : Option (List Weight)) (keys : NodeKeys) → IsSoundBody layout declarations sections keys counts
      → IsSoundBody (record layout { nodes = weighed_nodes node weights layout.nodes }) declarations sections keys counts
  weighed_sound layout node weights keys sound = alike_sound layout (weighed_nodes node weights layout.nodes) keys sound (weighed_alike layout node weights) (record {
    keys_of = λ other it is. by_known other it is (λ known. HasKeysOf keys known) (λ w known has. same_keys w known has) (λ known e. sound.reserved.keys_of other known e);
    ring_of = λ other it is. by_known other it is (λ known. HasItsRing (length layout.rings) known) (λ w known has ring own. has ring (sym (ap (list_any (same_ring ring)) (rings_stay w known)) ∙ own))
        (λ known e. sound.reserved.ring_of other known e);
  }) where
    same_keys : (w : Option (List Weight)) (known : Content) → HasKeysOf keys known → HasKeysOf keys (weighed w known)
    same_keys w known has = record {
      names = λ key own. has.names key (sym (ap (list_any _) (names_stay w known)) ∙ own);
      texts = λ key own. has.texts key (sym (ap (list_any _) (texts_stay w known)) ∙ own);
      sections = λ key own. has.sections key (sym (ap (list_any _) (section_names_stay w known)) ∙ own);
      ids = λ key own. has.ids key (sym (ap (list_any _) (ids_stay w known)) ∙ own);
    }

    by_known : (other : NodeId) (it : Content) → content_of (record layout { nodes = weighed_nodes node weights layout.nodes }) other ≡ Some it → (P : Content → Type 0)
        → ((w : Option (List Weight)) (known : Content) → P known → P (weighed w known)) → ((known : Content) → content_of layout other ≡ Some known → P known) → P it
    by_known other it is P change was =
        let w = cond (same_node node other) weights None in
        elim (content_of layout other) as (λ found. content_of layout other ≡ found → reweighed w found ≡ Some it → P it) [
          | None ↦ λ e r. cc
          | Some known ↦ λ e r. let same : weighed w known ≡ it = cc in subst P same (change w known (was known e))
        ] refl (sym (content_weighed node other weights layout.nodes) ∙ is)

-- a node that is made beside those that stand
module _ (old mid : TableLayout) (node : NodeId) (it : Content) (makes : Makes old mid node it) (apart : is_in old.rings node ≡ false) (rings : mid.rings ≡ old.rings) where
  -- the layout has the same rings
  same_layout : record old { nodes = mid.nodes } ≡ mid
  same_layout = ap (λ (rings : List (List NodeId)). record { rings = rings; nodes = mid.nodes }) (sym rings)

  made_alike : AreAlike old mid.nodes
  made_alike other linked =
      let differ : same_node other node ≡ false = by_test (λ b. same_node other node ≡ b → b ≡ false) (same_node other node)
      (λ on _. not_both (ap (is_in old.rings) (sym (same_node_is other node on)) ∙ linked) apart) (λ off _. refl) refl in
      (None, makes.contents other ∙ (ap (λ b. cond b (Some it) (content_of old other)) differ ∙ kept_weights (content_of old other)))

  -- it is what it was made
  pub made_known : content_of mid node ≡ Some it
  made_known = makes.contents node ∙ ap (λ b. cond b (Some it) (content_of old node)) (same_node_itself node)

  pub made_loose : IsLooseNode mid node
  made_loose = record { made = ap is_some made_known; apart = ap (λ rings. is_in rings node) rings ∙ apart }

  -- it may be put where it might have been
  pub made_suits : (place : Place) → IsPlaceFor old place it → IsApart old it → Suits mid node (Some place)
  made_suits place fits free = (
    it,
    made_known,
    (
      subst (λ (layout : TableLayout). IsPlaceFor layout place it) same_layout (fits_alike old mid.nodes made_alike place it fits),
      subst (λ (layout : TableLayout). IsApart layout it) same_layout (apart_alike old mid.nodes made_alike it free),
    ),
  )

  -- what is reserved for the nodes that were there, and for this one
  reserved_made : (keys : NodeKeys) → IsReserved old keys → HasKeysOf keys it → HasItsRing (length old.rings) it → IsReserved (record old { nodes = mid.nodes }) keys
  reserved_made keys reserved has its = record {
    keys_of = λ other known is. by_made other known is (λ known. HasKeysOf keys known) has (λ e. reserved.keys_of other known e);
    ring_of = λ other known is. by_made other known is (λ known. HasItsRing (length old.rings) known) its (λ e. reserved.ring_of other known e);
  } where
    by_made : (other : NodeId) (known : Content) → content_of mid other ≡ Some known → (P : Content → Type 0) → P it → (content_of old other ≡ Some known → P known) → P known
    by_made other known is P mine was = by_test (λ b. cond b (Some it) (content_of old other) ≡ Some known → P known) (same_node other node)
        (λ on e. let same : it ≡ known = cc in subst P same mine) (λ off e. was e) (sym (makes.contents other) ∙ is)

  -- there is room to count it
  pub made_room : IsShaped old → IsLaidOut mid → AreFew mid → HasRoomFor it (counts_at old)
  made_room shaped laid few =
      let counts_same : counts_at mid ≡ counts_at old = ap counts_at (sym same_layout) ∙ counts_alike old mid.nodes made_alike shaped in
      subst (HasRoomFor it) counts_same (has_room mid node laid (subst IsShaped same_layout (shaped_alike old mid.nodes made_alike shaped)) few made_loose it)

  -- the body is sound
  pub made_sound : (declarations sections : RingId) (counts : Counts) (keys : NodeKeys) → IsSoundBody old declarations sections keys counts → HasKeysOf keys it → HasItsRing (length old.rings) it
      → IsSoundBody mid declarations sections keys counts
  made_sound declarations sections counts keys sound has its = subst (λ (layout : TableLayout). IsSoundBody layout declarations sections keys counts) same_layout
      (alike_sound declarations sections counts old mid.nodes keys sound made_alike (reserved_made keys sound.reserved has its))

  -- and so is the body with the node put in, where its keys lead to it at once
  pub put_new_sound : (place : Place) (declarations sections : RingId) (keys keys_new : NodeKeys) (counts counts_new : Counts) → IsSoundBody old declarations sections keys counts → StandOnce old.rings
      → IsPlaceFor old place it → IsApart old it
      → HasItsRing (length old.rings) it → SetsKeys keys keys_new it (Some node) → HasKeysOf keys_new it → KeepsKeys keys keys_new → counts_new ≡ counts_with it counts
      → IsSoundBody (with_link mid node place) declarations sections keys_new counts_new
  put_new_sound place declarations sections keys keys_new counts counts_new sound once fits free its sets has kept counted =
      subst (λ (layout : TableLayout). IsSoundBody (with_link layout node place) declarations sections keys_new counts_new) same_layout
      (linked_sound (record old { nodes = mid.nodes }) node it place declarations sections keys keys_new counts counts_new sound.declarations sound.begun
      (shaped_alike old mid.nodes made_alike sound.shaped) (found_alike old mid.nodes made_alike keys sound.found)
      (reserved_made keys_new (reserved_kept old keys keys_new kept sound.reserved) has its) (sound.counted ∙ sym (counts_alike old mid.nodes made_alike sound.shaped))
      once made_known apart (fits_alike old mid.nodes made_alike place it fits) (apart_alike old mid.nodes made_alike it free) sets counted)

-- a layout with a node made and dropped is the one that was
pub dropped_again : (old mid : TableLayout) (node : NodeId) → mid.rings ≡ old.rings → nodes_without (node ∷ []) mid.nodes ≡ old.nodes → record mid { nodes = nodes_without (node ∷ []) mid.nodes } ≡ old
dropped_again old mid node rings nodes = ap₂ (λ (rings : List (List NodeId)) (nodes : List MadeNode). record { rings = rings; nodes = nodes }) rings nodes

-- what may be loose needs no ring
pub no_ring : (it : Content) (rings : ℕ) → MayBeLoose it → HasItsRing rings it
no_ring it rings may ring own = not_both (sym (ap (list_any (same_ring ring)) (loose_ringless it may)) ∙ own) refl

-- with a ring more that has no nodes
pub pushed_sound : (layout : TableLayout) (declarations sections : RingId) (counts : Counts) (keys : NodeKeys) → IsSoundBody layout declarations sections keys counts
    → IsSoundBody (with_empty_ring layout) declarations sections keys counts
pushed_sound layout declarations sections counts keys sound = record {
  declarations = sound.declarations;
  begun = sound.begun;
  shaped = shaped_push layout sound.shaped;
  found = record {
    names = finds_push layout _ _ _ sound.found.names;
    texts = finds_push layout _ _ _ sound.found.texts;
    sections = finds_push layout _ _ _ sound.found.sections;
    ids = finds_push layout _ _ _ sound.found.ids;
  };
  reserved = record {
    keys_of = sound.reserved.keys_of;
    ring_of = λ node it is ring own.
        let bounds = sound.reserved.ring_of node it is ring own in
        let more = one_ring_more layout in
        (bounds.0, (let low = bounds.1 in omega (arith, low, more)));
  };
  counted = sound.counted ∙ sym (same_counts _ _ _ _ _ _
      (ap (λ (xs : List Declaration). length xs) (declared_push layout)) (ap (λ (xs : List Section). length xs) (sections_push layout)) (ap (λ xs. length (joined_entries xs)) (sections_push layout)));
}

-- a section's node that is made with its ring is made in the layout with the ring
pub section_makes : (old mid : TableLayout) (node : NodeId) (it : Content) → Makes old mid node it → Makes (with_empty_ring old) mid node it
section_makes old mid node it makes = record { fresh = makes.fresh; contents = makes.contents }

-- the ring that is made for a section is its own
pub section_ring : (layout : TableLayout) (name : Option (List ℕ)) (own : RingId) → 2 ≤ length layout.rings → own.index ≡ length layout.rings
    → HasItsRing (length (with_empty_ring layout).rings) (content.Begun name own)
section_ring layout name own two last ring mine =
    let is : ring.index ≡ own.index = (Decides-eqb ring.index own.index).0 (only _ mine) in
    let more = one_ring_more layout in
    (omega (arith, is, last, two), omega (arith, is, last, more)) where
      only : (b : Bool) → (b || false) ≡ true → b ≡ true
      only true e = refl
      only false e = e

-- the body with a section made is sound
pub section_sound : (old mid : TableLayout) (node : NodeId) (name : Option (List ℕ)) (own : RingId) (declarations sections : RingId) (counts : Counts) (keys : NodeKeys)
    → IsSoundBody old declarations sections keys counts
    → Makes old mid node (content.Begun name own) → is_in old.rings node ≡ false → mid.rings ≡ old.rings ++ [] ∷ [] → own.index ≡ length old.rings → HasKeyOfSection keys name
    → IsSoundBody mid declarations sections keys counts
section_sound old mid node name own declarations sections counts keys sound makes apart rings last has =
    made_sound (with_empty_ring old) mid node (content.Begun name own) (section_makes old mid node (content.Begun name own) makes) (is_in_push old.rings node ∙ apart) rings
    declarations sections counts keys (pushed_sound old declarations sections counts keys sound) (section_keys keys name own has) (section_ring old name own sound.shaped.two last)

-- the body is sound, whether a node was made or not
pub made_sound_if : {X : Type 0} (result : Result NodeId X) (old new : BodyValue) (it : Content) (declarations sections : RingId) (counts : Counts) (keys : NodeKeys)
    → IsSoundBody old.layout declarations sections keys counts
    → IfOk result (λ node. Makes old.layout new.layout node it) → IfOk result (λ node. is_in old.layout.rings node ≡ false) → new.layout.rings ≡ old.layout.rings → OnErr result (new ≡ old)
    → HasKeysOf keys it → MayBeLoose it
    → IsSoundBody new.layout declarations sections keys counts
made_sound_if (Ok node) old new it declarations sections counts keys sound makes apart rings same has may =
    made_sound old.layout new.layout node it makes apart rings declarations sections counts keys sound has (no_ring it (length old.layout.rings) may)
made_sound_if (Err e) old new it declarations sections counts keys sound makes apart rings same has may =
    subst (λ (body : BodyValue). IsSoundBody body.layout declarations sections keys counts) (sym same) sound

-- so with a section
pub section_sound_if : {X : Type 0} (result : Result (NodeId × RingId) X) (old new : BodyValue) (name : Option (List ℕ)) (declarations sections : RingId) (counts : Counts) (keys : NodeKeys)
    → IsSoundBody old.layout declarations sections keys counts → IfOk result (λ made. MakesSection old.layout new.layout name made) → OnErr result (new ≡ old) → HasKeyOfSection keys name
    → IsSoundBody new.layout declarations sections keys counts
section_sound_if (Ok made) old new name declarations sections counts keys sound makes same has =
    section_sound old.layout new.layout made.0 name made.1 declarations sections counts keys sound makes.node makes.apart makes.rings makes.ring has
section_sound_if (Err e) old new name declarations sections counts keys sound makes same has = subst (λ (body : BodyValue). IsSoundBody body.layout declarations sections keys counts) (sym same) sound
