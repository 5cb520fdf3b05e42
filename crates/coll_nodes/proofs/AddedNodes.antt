-- A node whose keys nothing has may be added: each kind of it, from what the table's lists say.
use Rattle.std.proofs.Common.{◌≡◌, ℕ, ◌++◌, ◌||◌, Bool, true, false, List, [], ◌∷◌, Option, Some, None, length, flat_map, sym, ap, ◌∙◌, refl, arith}
use Rattle.std.specs.List.{list_any}
use Rattle.std.proofs.lemmas.Bool.Decides.{Decides-eqb}
use Rattle.coll_order.specs.Layout.{is_in}
use Rattle.coll_order.specs.Lists.{has_node}
use Rattle.coll_order.specs.declared.places.NodeId.{NodeId}
use Rattle.coll_order.specs.declared.places.RingId.{RingId}
use Rattle.coll_order.specs.declared.places.Place.{Place}
use Rattle.coll_order.proofs.Sameness.{by_test, not_both}
use Rattle.coll_syntax.specs.Identifier.{same_name, same_id, has_name}
use Rattle.coll_syntax.specs.declared.identifiers.Id.{Id}
use Rattle.coll_nodes.specs.Bodies.{Makes}
use Rattle.coll_nodes.specs.SoundBodies.{read_at, ring_at, has_key, names_in, texts_in, section_names_in, rings_in, ids_in, same_ring, IsPlaceIn, IsShaped, with_empty_ring}
use Rattle.coll_nodes.specs.Table.{is_declared, is_placed_in, has_text, name_of, text_of, texts_of, section_names, joined_entries}
use Rattle.coll_nodes.specs.TableLayout.{TableLayout, content_of, declared_at, sections_at}
use Rattle.coll_nodes.specs.Moving.{AreNew, IsApart, Suits}
use Rattle.coll_nodes.specs.declared.contents.Content.{Content}
use Rattle.coll_nodes.specs.declared.contents.Content.TheVariants as content
use Rattle.coll_nodes.specs.declared.declarations.Declaration.{Declaration}
use Rattle.coll_nodes.specs.declared.declarations.Declaration.TheVariants.{Symbol, Element, Equivalence}
use Rattle.coll_nodes.specs.declared.entries.Entry.{Entry}
use Rattle.coll_nodes.proofs.BodyReads.{one, ids_of_node}
use Rattle.coll_nodes.proofs.EmptyRings.{key_push, place_push}
use Rattle.coll_nodes.proofs.LayoutReads.{both_true, names_read, texts_read, section_names_read, declared_covers, begun_covers, owned_low, placed_to}
use Rattle.coll_nodes.proofs.MadeBodies.{made_suits, section_makes}
use Rattle.coll_nodes.proofs.NodeLists.{any_map, any_to}
use Rattle.coll_lookups.proofs.Sameness.{same_name_decides, same_id_decides}
use Rattle.coll_order.proofs.RingLemmas.{is_in_push}

-- a key that isn't read of the nodes that may have it is that of none
unread : {Key : Type 0} (layout : TableLayout) (same : Key → Key → Bool) (keys : Content → List Key) (nodes : List NodeId)
    → ((key : Key) (node : NodeId) → has_key same keys layout key node ≡ true → has_node nodes node ≡ true)
    → (key : Key) → list_any (same key) (flat_map (read_at keys layout) nodes) ≡ false → (other : NodeId) → has_key same keys layout key other ≡ false
unread layout same keys nodes covers key absent other = by_test (λ b. has_key same keys layout key other ≡ b → b ≡ false) (has_key same keys layout key other)
    (λ on has. not_both (any_to (same key) (read_at keys layout) nodes other (covers key other has) (both_true _ _ has).1) absent) (λ off _. refl) refl

-- what isn't so of a list of one isn't so of it
off : (b : Bool) → (b || false) ≡ false → b ≡ false
off true e = e
off false e = refl

-- no node has one of no keys
none_new : {Key : Type 0} (layout : TableLayout) (same : Key → Key → Bool) (keys : Content → List Key) (it : Content) → keys it ≡ [] → AreNew same keys layout it
none_new layout same keys it none key other has = not_both (sym (ap (list_any (same key)) none) ∙ has) refl

module _ (layout : TableLayout) (shaped : IsShaped layout) where
  -- a name that isn't declared
  name_new : (name : List ℕ) → is_declared (declared_at layout) name ≡ false → (key : List ℕ) (other : NodeId) → list_any (same_name key) (name ∷ []) ≡ true
      → has_key same_name names_in layout key other ≡ false
  name_new name absent key other is =
      let same : key ≡ name = (same_name_decides key name).0 (one (same_name key name) is) in
      ap (λ k. has_key same_name names_in layout k other) same
      ∙ unread layout same_name names_in (ring_at layout 0) (declared_covers layout same_name names_in shaped (λ _ _. refl) (λ _. refl)) name
      (sym (ap (λ names. has_name names name) (names_read layout)) ∙ absent) other

  -- a string that no element has
  text_new : (text : List ℕ) → has_name (texts_of (declared_at layout)) text ≡ false → (key : List ℕ) (other : NodeId) → list_any (same_name key) (text ∷ []) ≡ true
      → has_key same_name texts_in layout key other ≡ false
  text_new text absent key other is =
      let same : key ≡ text = (same_name_decides key text).0 (one (same_name key text) is) in
      ap (λ k. has_key same_name texts_in layout k other) same
      ∙ unread layout same_name texts_in (ring_at layout 0) (declared_covers layout same_name texts_in shaped (λ _ _. refl) (λ _. refl)) text
      (sym (ap (λ texts. has_name texts text) (texts_read layout)) ∙ absent) other

  -- a name that no section has
  section_new : (name : List ℕ) → has_name (section_names (sections_at layout)) name ≡ false → (key : List ℕ) (other : NodeId) → list_any (same_name key) (name ∷ []) ≡ true
      → has_key same_name section_names_in layout key other ≡ false
  section_new name absent key other is =
      let same : key ≡ name = (same_name_decides key name).0 (one (same_name key name) is) in
      ap (λ k. has_key same_name section_names_in layout k other) same
      ∙ unread layout same_name section_names_in (ring_at layout 1) (begun_covers layout same_name section_names_in shaped (λ _. refl) (λ _. refl)) name
      (sym (ap (λ names. has_name names name) (section_names_read layout)) ∙ absent) other

  -- an identifier that isn't placed
  id_new : (id : Id) → is_placed_in (sections_at layout) id ≡ false → (key : Id) (other : NodeId) → list_any (same_id key) (id ∷ []) ≡ true → has_key same_id ids_in layout key other ≡ false
  id_new id absent key other is =
      let same : key ≡ id = (same_id_decides key id).0 (one (same_id key id) is) in
      let test : Entry → Bool = λ entry. same_id id entry.id in
      let joined = joined_entries (sections_at layout) in
      ap (λ k. has_key same_id ids_in layout k other) same
      ∙ by_test (λ b. has_key same_id ids_in layout id other ≡ b → b ≡ false) (has_key same_id ids_in layout id other)
      (λ on has.
      let parts = both_true _ _ has in
      let there : list_any test joined ≡ true = placed_to layout shaped test other parts.0 (sym (ids_of_node layout shaped id (content_of layout other)) ∙ parts.1) in
      not_both (any_map (same_id id) (λ (entry : Entry). entry.id) joined ∙ there) absent) (λ off _. refl) refl

  -- the strings of a declaration that none has
  texts_new : (new : Declaration) → has_text (declared_at layout) (text_of new) ≡ false → AreNew same_name texts_in layout (content.Declared new)
  texts_new (Symbol name) free = none_new layout same_name texts_in (content.Declared (Symbol name)) refl
  texts_new (Equivalence name symbol) free = none_new layout same_name texts_in (content.Declared (Equivalence name symbol)) refl
  texts_new (Element name text) free = text_new text (off (has_name (texts_of (declared_at layout)) text) free)

  -- nothing has a key of a declaration whose name isn't declared, and whose string no other has
  pub declared_apart : (new : Declaration) → is_declared (declared_at layout) (name_of new) ≡ false → has_text (declared_at layout) (text_of new) ≡ false → IsApart layout (content.Declared new)
  declared_apart new absent free = record {
    names = name_new (name_of new) absent;
    texts = texts_new new free;
    sections = none_new layout same_name section_names_in (content.Declared new) refl;
    rings = none_new layout same_ring rings_in (content.Declared new) refl;
    ids = none_new layout same_id ids_in (content.Declared new) refl;
  }

  -- nor one of an entry that isn't placed
  pub entry_apart : (entry : Entry) → is_placed_in (sections_at layout) entry.id ≡ false → IsApart layout (content.Placed entry)
  entry_apart entry absent = record {
    names = none_new layout same_name names_in (content.Placed entry) refl;
    texts = none_new layout same_name texts_in (content.Placed entry) refl;
    sections = none_new layout same_name section_names_in (content.Placed entry) refl;
    rings = none_new layout same_ring rings_in (content.Placed entry) refl;
    ids = id_new entry.id absent;
  }

  -- nor one of a section with a ring that is made
  begun_apart : (name : Option (List ℕ)) (own : RingId) → own.index ≡ length layout.rings → AreNew same_name section_names_in layout (content.Begun name own)
      → IsApart (with_empty_ring layout) (content.Begun name own)
  begun_apart name own last free = record {
    names = none_new (with_empty_ring layout) same_name names_in (content.Begun name own) refl;
    texts = none_new (with_empty_ring layout) same_name texts_in (content.Begun name own) refl;
    sections = λ key other is. key_push layout same_name section_names_in key other ∙ free key other is;
    rings = λ ring other is. by_test (λ b. has_key same_ring rings_in (with_empty_ring layout) ring other ≡ b → b ≡ false) (has_key same_ring rings_in (with_empty_ring layout) ring other)
        (λ on has.
        let had : has_key same_ring rings_in layout ring other ≡ true = sym (key_push layout same_ring rings_in ring other) ∙ has in
        let low = owned_low layout shaped ring.index other had in
        let same : ring.index ≡ own.index = (Decides-eqb ring.index own.index).0 (one (same_ring ring own) is) in
        absurd (omega (arith, low, same, last))) (λ off _. refl) refl;
    ids = none_new (with_empty_ring layout) same_id ids_in (content.Begun name own) refl;
  }

  -- a section that is made may be put among the sections
  section_suits : (mid : TableLayout) (node : NodeId) (name : Option (List ℕ)) (own : RingId) (place : Place) → Makes layout mid node (content.Begun name own) → is_in layout.rings node ≡ false
      → mid.rings ≡ layout.rings ++ [] ∷ []
      → own.index ≡ length layout.rings → IsPlaceIn layout 1 place → AreNew same_name section_names_in layout (content.Begun name own) → Suits mid node (Some place)
  section_suits mid node name own place makes apart rings last at free =
      made_suits (with_empty_ring layout) mid node (content.Begun name own) (section_makes layout mid node (content.Begun name own) makes) (is_in_push layout.rings node ∙ apart) rings place
      (place_push layout 1 place at) (begun_apart name own last free)

  pub named_suits : (mid : TableLayout) (node : NodeId) (name : List ℕ) (own : RingId) (place : Place) → Makes layout mid node (content.Begun (Some name) own) → is_in layout.rings node ≡ false
      → mid.rings ≡ layout.rings ++ [] ∷ []
      → own.index ≡ length layout.rings → IsPlaceIn layout 1 place → has_name (section_names (sections_at layout)) name ≡ false → Suits mid node (Some place)
  named_suits mid node name own place makes apart rings last at absent = section_suits mid node (Some name) own place makes apart rings last at (section_new name absent)

  pub unnamed_suits : (mid : TableLayout) (node : NodeId) (own : RingId) (place : Place) → Makes layout mid node (content.Begun None own) → is_in layout.rings node ≡ false
      → mid.rings ≡ layout.rings ++ [] ∷ []
      → own.index ≡ length layout.rings → IsPlaceIn layout 1 place → Suits mid node (Some place)
  unnamed_suits mid node own place makes apart rings last at =
      section_suits mid node None own place makes apart rings last at (none_new layout same_name section_names_in (content.Begun None own) refl)
