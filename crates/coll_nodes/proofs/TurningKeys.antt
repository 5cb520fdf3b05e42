-- Layouts that are alike: the same nodes stand in the same places, and each is what it was, but for the weights of entries. They
-- have the same keys, and what may stand in one may stand in the other.
use Rattle.std.proofs.Common.{◌≡◌, ℕ, suc, ◌≤◌, ◌<◌, Bool, true, ◌&&◌, List, [], ◌++◌, Option, Some, None, IsSome, length, flat_map, get_or, sym, ap, subst, ◌∙◌, refl}
use Rattle.std.specs.List.{list_any}
use Rattle.coll_order.specs.Layout.{head_of, is_in}
use Rattle.coll_order.specs.Lists.{has_node}
use Rattle.coll_order.specs.declared.places.NodeId.{NodeId}
use Rattle.coll_order.specs.declared.places.Place.{Place}
use Rattle.coll_order.proofs.Sameness.{by_test}
use Rattle.coll_syntax.specs.Identifier.{same_name, same_id}
use Rattle.coll_nodes.proofs.LayoutReads.{in_rings}
use Rattle.coll_nodes.specs.SoundBodies.{read_at, ring_at, has_key, names_in, texts_in, section_names_in, rings_in, ids_in, same_ring}
use Rattle.coll_nodes.specs.SoundBodies.{is_place_of, IsPlaceIn, IsDeclaration, IsSection, IsEntry, IsOwned, IsShaped}
use Rattle.coll_nodes.specs.SoundLayouts.{AreOnce}
use Rattle.coll_nodes.specs.TableLayout.{TableLayout, content_of, if_any}
use Rattle.coll_nodes.specs.Moving.{AreNew, IsPlaceFor, MayBeLoose, MayStand}
use Rattle.coll_nodes.specs.declared.contents.Content.{Content}
use Rattle.coll_nodes.specs.declared.contents.Content.TheVariants as content

-- what a node is, but for the weights of its entry
abbrev pub bare : Content → Content
bare (content.Declared declaration) = content.Declared declaration
bare (content.Begun name ring) = content.Begun name ring
bare (content.Placed entry) = content.Placed (record entry { weights = [] })

-- what a node is, if it is there, but for the weights of its entry
abbrev pub bare_if : Option Content → Option Content
bare_if None = None
bare_if (Some it) = Some (bare it)

-- two nodes are the same but for the weights of entries
abbrev pub AreSame : Option Content → Option Content → Type 0
AreSame a b = bare_if a ≡ bare_if b

-- the same nodes stand in the same places, and each is what it was, but for the weights of its entry
pub record IsAlike (old new : TableLayout) : Type 0 where
  pub rings : new.rings ≡ old.rings
  pub contents : (node : NodeId) → is_in old.rings node ≡ true → AreSame (content_of new node) (content_of old node)

-- keys that have nothing to do with weights
abbrev pub AreBare : {Key : Type 0} → (Content → List Key) → Type 0
AreBare keys = (it : Content) → keys (bare it) ≡ keys it

-- Keys that are bare.

pub names_bare : AreBare names_in
names_bare (content.Declared declaration) = refl
names_bare (content.Begun name ring) = refl
names_bare (content.Placed entry) = refl

pub texts_bare : AreBare texts_in
texts_bare (content.Declared declaration) = refl
texts_bare (content.Begun name ring) = refl
texts_bare (content.Placed entry) = refl

pub sections_bare : AreBare section_names_in
sections_bare (content.Declared declaration) = refl
sections_bare (content.Begun name ring) = refl
sections_bare (content.Placed entry) = refl

pub rings_bare : AreBare rings_in
rings_bare (content.Declared declaration) = refl
rings_bare (content.Begun name ring) = refl
rings_bare (content.Placed entry) = refl

pub ids_bare : AreBare ids_in
ids_bare (content.Declared declaration) = refl
ids_bare (content.Begun name ring) = refl
ids_bare (content.Placed entry) = refl

-- What a node is, whatever its weights.

-- what holds of two nodes alike
module _ {X : Type 0} (P : X → Type 0) (strip : X → X) (same_claim : (x : X) → P (strip x) ≡ P x) where
  by_bare : (a b : X) → strip a ≡ strip b → P b → P a
  by_bare a b same is = subst (λ (claim : Type 0). claim) (sym (same_claim b) ∙ (ap P (sym same) ∙ same_claim a)) is

-- it is there
pub some_alike : (a b : Option Content) → AreSame a b → IsSome b → IsSome a
some_alike = by_bare (λ x. IsSome x) bare_if same where
  same : (x : Option Content) → IsSome (bare_if x) ≡ IsSome x
  same None = refl
  same (Some it) = refl

-- it is a declaration
declaration_alike : (a b : Option Content) → AreSame a b → IsDeclaration b → IsDeclaration a
declaration_alike = by_bare (λ x. IsDeclaration x) bare_if same where
  same : (x : Option Content) → IsDeclaration (bare_if x) ≡ IsDeclaration x
  same None = refl
  same (Some (content.Declared declaration)) = refl
  same (Some (content.Begun name ring)) = refl
  same (Some (content.Placed entry)) = refl

-- it is a section
section_alike : (n : ℕ) (a b : Option Content) → AreSame a b → IsSection n b → IsSection n a
section_alike n = by_bare (λ x. IsSection n x) bare_if same where
  same : (x : Option Content) → IsSection n (bare_if x) ≡ IsSection n x
  same None = refl
  same (Some (content.Declared declaration)) = refl
  same (Some (content.Begun name ring)) = refl
  same (Some (content.Placed entry)) = refl

-- it is an entry
entry_alike : (a b : Option Content) → AreSame a b → IsEntry b → IsEntry a
entry_alike = by_bare (λ x. IsEntry x) bare_if same where
  same : (x : Option Content) → IsEntry (bare_if x) ≡ IsEntry x
  same None = refl
  same (Some (content.Declared declaration)) = refl
  same (Some (content.Begun name ring)) = refl
  same (Some (content.Placed entry)) = refl

-- it may be loose
loose_alike : (a b : Content) → bare a ≡ bare b → MayBeLoose b → MayBeLoose a
loose_alike = by_bare (λ x. MayBeLoose x) bare same where
  same : (x : Content) → MayBeLoose (bare x) ≡ MayBeLoose x
  same (content.Declared declaration) = refl
  same (content.Begun name ring) = refl
  same (content.Placed entry) = refl

-- a place is for it
place_bare : (layout : TableLayout) (place : Place) (a b : Content) → bare a ≡ bare b → IsPlaceFor layout place b → IsPlaceFor layout place a
place_bare layout place = by_bare (λ x. IsPlaceFor layout place x) bare same where
  same : (x : Content) → IsPlaceFor layout place (bare x) ≡ IsPlaceFor layout place x
  same (content.Declared declaration) = refl
  same (content.Begun name ring) = refl
  same (content.Placed entry) = refl

module _ {Key : Type 0} (same : Key → Key → Bool) (keys : Content → List Key) (are_bare : AreBare keys) where
  -- what is read of it
  read_bare : (a : Option Content) → flat_map keys (if_any a) ≡ flat_map keys (if_any (bare_if a))
  read_bare None = refl
  read_bare (Some it) = ap (λ ks. ks ++ []) (sym (are_bare it))

  read_alike : (a b : Option Content) → AreSame a b → flat_map keys (if_any a) ≡ flat_map keys (if_any b)
  read_alike a b are = read_bare a ∙ (ap (λ x. flat_map keys (if_any x)) are ∙ sym (read_bare b))

  -- the same nodes have the same keys
  pub key_alike : (old new : TableLayout) → IsAlike old new → (key : Key) (node : NodeId) → has_key same keys new key node ≡ has_key same keys old key node
  key_alike old new alike key node =
      ap (λ rings. is_in rings node && list_any (same key) (read_at keys new node)) alike.rings
      ∙ by_test (λ b. is_in old.rings node ≡ b → (b && list_any (same key) (read_at keys new node)) ≡ (b && list_any (same key) (read_at keys old node))) (is_in old.rings node)
      (λ on e. ap (list_any (same key)) (read_alike (content_of new node) (content_of old node) (alike.contents node e))) (λ off e. refl) refl

  -- a node has the keys that it would have with other weights
  new_alike : (old new : TableLayout) → IsAlike old new → (a b : Content) → bare a ≡ bare b → AreNew same keys old b → AreNew same keys new a
  new_alike old new alike a b are is = λ key other has. key_alike old new alike key other ∙ is key other (ap (list_any (same key)) (sym (are_bare b) ∙ (ap keys (sym are) ∙ are_bare a)) ∙ has)

  -- keys that are those of one node are so still
  pub once_alike : (old new : TableLayout) → IsAlike old new → AreOnce same keys old → AreOnce same keys new
  once_alike old new alike once = λ key a b p q. once key a b (sym (key_alike old new alike key a) ∙ p) (sym (key_alike old new alike key b) ∙ q)

module _ (old new : TableLayout) (alike : IsAlike old new) where
  -- a ring that is a section's is one still
  pub owned_alike : (index : ℕ) → IsOwned old index → IsOwned new index
  owned_alike index owned = (owned.0, key_alike same_ring rings_in rings_bare old new alike (record { index = index }) owned.0 ∙ owned.1)

  ring_alike : (index : ℕ) → ring_at new index ≡ ring_at old index
  ring_alike index = ap (λ rings. get_or rings index []) alike.rings

  -- a place in a ring is one still
  place_in_alike : (index : ℕ) (place : Place) → IsPlaceIn old index place → IsPlaceIn new index place
  place_in_alike index place is = record {
    ring = subst (λ n. index < n) (sym (ap length alike.rings)) is.ring;
    on = ap (is_place_of place (head_of index)) (ring_alike index) ∙ is.on;
  }

  -- so is a place for a node
  place_alike : (place : Place) (it : Content) → IsPlaceFor old place it → IsPlaceFor new place it
  place_alike place (content.Declared declaration) is = place_in_alike 0 place is
  place_alike place (content.Begun name ring) is = place_in_alike 1 place is
  place_alike place (content.Placed entry) is = (is.0, place_in_alike is.0 place is.1, owned_alike is.0 is.2)

  -- what may stand in one may stand in the other
  pub stand_alike : (to : Option Place) (a b : Content) → bare a ≡ bare b → MayStand old to b → MayStand new to a
  stand_alike None a b same is = loose_alike a b same is
  stand_alike (Some place) a b same is = (
    place_bare new place a b same (place_alike place b is.0),
    record {
      names = new_alike same_name names_in names_bare old new alike a b same is.1.names;
      texts = new_alike same_name texts_in texts_bare old new alike a b same is.1.texts;
      sections = new_alike same_name section_names_in sections_bare old new alike a b same is.1.sections;
      rings = new_alike same_ring rings_in rings_bare old new alike a b same is.1.rings;
      ids = new_alike same_id ids_in ids_bare old new alike a b same is.1.ids;
    },
  )

  -- each node is what stands in its ring
  stands_alike : (index : ℕ) (node : NodeId) → has_node (ring_at new index) node ≡ true → AreSame (content_of new node) (content_of old node)
  stands_alike index node there = alike.contents node (in_rings old index node (ap (λ nodes. has_node nodes node) (sym (ring_alike index)) ∙ there))

  was_there : (index : ℕ) (node : NodeId) → has_node (ring_at new index) node ≡ true → has_node (ring_at old index) node ≡ true
  was_there index node there = ap (λ nodes. has_node nodes node) (sym (ring_alike index)) ∙ there

  -- the one is the layout of a table where the other is
  pub shaped_alike : IsShaped old → IsShaped new
  shaped_alike shaped = record {
    two = subst (λ n. 2 ≤ n) (sym (ap length alike.rings)) shaped.two;
    declared = λ node there. declaration_alike (content_of new node) (content_of old node) (stands_alike 0 node there) (shaped.declared node (was_there 0 node there));
    begun = λ node there. subst (λ n. IsSection n (content_of new node)) (sym (ap length alike.rings))
        (section_alike (length old.rings) (content_of new node) (content_of old node) (stands_alike 1 node there) (shaped.begun node (was_there 1 node there)));
    placed = λ index node there.
        let was = shaped.placed index node (was_there (suc (suc index)) node there) in
        (entry_alike (content_of new node) (content_of old node) (stands_alike (suc (suc index)) node there) was.0, owned_alike (suc (suc index)) was.1);
    own = once_alike same_ring rings_in rings_bare old new alike shaped.own;
  }
