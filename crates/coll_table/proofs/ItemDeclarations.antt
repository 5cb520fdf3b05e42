-- An item that puts the node of a declaration behind all others.
use Rattle.std.proofs.Common.{◌≡◌, ℕ, ◌+◌, ◌<◌, ◌≤◌, Bool, true, false, ◌||◌, is_some, List, [], ◌∷◌, ◌++◌, Option, Some, None, length, flat_map, slice_index_or, sym, ap, ap₂, subst, ◌∙◌, refl, arith}
use Rattle.std.proofs.Math.Bool.{or-false}
use Rattle.std.proofs.lemmas.List.{append-nil}
use Rattle.std.proofs.lemmas.Grind.{flat_map-append}
use Rattle.coll_order.specs.Layout.{head_of, rings_with, rings_without}
use Rattle.coll_order.specs.declared.places.NodeId.{NodeId}
use Rattle.coll_order.specs.declared.places.Place.{Place}
use Rattle.coll_order.proofs.ListLemmas.{rings_without_absent}
use Rattle.coll_order.proofs.Sameness.{by_test, not_both}
use Rattle.coll_order.proofs.EndLemmas.{end_on, put_last}
use Rattle.coll_order.proofs.RingLemmas.{distinct_ring, get_put}
use Rattle.coll_syntax.specs.Identifier.{same_name, has_name}
use Rattle.coll_nodes.proofs.BodyReads.{name_found, text_found}
use Rattle.coll_table.proofs.ItemPlaces.{finds_once, node_by}
use Rattle.coll_table.proofs.ItemRings.{linked_anew, section_still}
use Rattle.coll_table.proofs.ItemsDone.{AreDone}
use Rattle.coll_texts.proofs.LayoutEnds.{end_place}
use Rattle.coll_nodes.proofs.LayoutReads.{declared_read, read_known, sections_read}
use Rattle.coll_nodes.proofs.NodeLists.{same_read}
use Rattle.coll_nodes.proofs.RingPlaces.{get_put_other, place_off}
use Rattle.coll_lookups.proofs.Sameness.{same_name_decides}
use Rattle.coll_texts.proofs.SoundLines.{passed}
use Rattle.coll_nodes.specs.Bodies.{IsLooseNode, with_link, without_link}
use Rattle.coll_table.specs.Delta.{declaration_refusal}
use Rattle.coll_nodes.specs.Table.{has_text}
use Rattle.coll_nodes.specs.Linking.{end_of_declarations}
use Rattle.coll_nodes.specs.OwnNames.{means_nothing, means_no_symbol}
use Rattle.coll_nodes.specs.SoundBodies.{Finds, has_key, is_place_of, names_in, read_at, ring_at, texts_in}
use Rattle.coll_nodes.specs.SoundLayouts.{IsSoundLayout}
use Rattle.coll_nodes.specs.Table.{Section, is_declared, name_of, text_of, texts_of}
use Rattle.coll_nodes.specs.TableLayout.{TableLayout, TableValue, collation, content_of, declaration_in, declared_at, section_in, sections_at}
use Rattle.coll_nodes.specs.Moving.{AreNew, CanGo, Suits}
use Rattle.coll_table.specs.Turning.{CanTurnOn, ItemGoes, placed_at, placed_items, steps_between, steps_of, turned_on}
use Rattle.coll_nodes.specs.declared.contents.Content.{Content}
use Rattle.coll_nodes.specs.declared.contents.Content.TheVariants as content
use Rattle.coll_nodes.specs.declared.declarations.Declaration.{Declaration}
use Rattle.coll_nodes.specs.declared.declarations.Declaration.TheVariants.{Element, Equivalence, Symbol}
use Rattle.coll_table.specs.declared.records.Item.{Item}
use Rattle.coll_table.specs.declared.refusals.Refusal.TheVariants.{DeclaredTwice, NotDeclared, NotASymbol, StringTwice}

-- a key that isn't found is that of no node
unfound : {Key : Type 0} (same : Key → Key → Bool) (keys : Content → List Key) (layout : TableLayout) (find : Key → Option NodeId) (key : Key) → Finds same keys layout find
    → is_some (find key) ≡ false
    → (other : NodeId) → has_key same keys layout key other ≡ false
unfound same keys layout find key finds none other =
    by_test (λ b. has_key same keys layout key other ≡ b → b ≡ false) (has_key same keys layout key other)
    (λ on t. not_both (ap is_some (finds.finds key other t)) none) (λ off t. refl) refl

-- a key that is this one alone
only_key : (key name : List ℕ) → (same_name key name || false) ≡ true → key ≡ name
only_key key name e = (same_name_decides key name).0 (sym (or-false (same_name key name)) ∙ e)

module _ (layout : TableLayout) (sound : IsSoundLayout layout) where
  -- nothing has a name that isn't declared
  new_names : (new : Declaration) → is_declared (declared_at layout) (name_of new) ≡ false → AreNew same_name names_in layout (content.Declared new)
  new_names new off key other has =
      let find = node_by same_name names_in layout in
      let finds = finds_once same_name names_in layout sound.names in
      subst (λ name. has_key same_name names_in layout name other ≡ false) (sym (only_key key (name_of new) has))
      (unfound same_name names_in layout find (name_of new) finds (sym (name_found layout sound.shaped find (name_of new) finds) ∙ off) other)

  -- nor a string that isn't
  new_texts : (new : Declaration) → has_text (declared_at layout) (text_of new) ≡ false → AreNew same_name texts_in layout (content.Declared new)
  new_texts (Symbol name) off key other has = not_both has refl
  new_texts (Equivalence name symbol) off key other has = not_both has refl
  new_texts (Element name text) off key other has =
      let find = node_by same_name texts_in layout in
      let finds = finds_once same_name texts_in layout sound.texts in
      subst (λ text. has_key same_name texts_in layout text other ≡ false) (sym (only_key key text has))
      (unfound same_name texts_in layout find text finds (sym (text_found layout sound.shaped find text finds) ∙ (sym (or-false (has_name (texts_of (declared_at layout)) text)) ∙ off)) other)

-- a loose declaration's node put behind all others
module _ (layout : TableLayout) (sound : IsSoundLayout layout) (node : NodeId) (new : Declaration) (loose : IsLooseNode layout node) (is : content_of layout node ≡ Some (content.Declared new)) where
  abbrev place : Place
  place = end_of_declarations layout

  abbrev now : TableLayout
  now = with_link (without_link layout node) node place

  below : 0 < length layout.rings
  below = let two = sound.shaped.two in omega arith

  -- it is in no ring before
  rings_out : rings_without node layout.rings ≡ layout.rings
  rings_out = rings_without_absent node layout.rings loose.apart

  -- it can
  pub declaration_goes : is_declared (declared_at layout) (name_of new) ≡ false → has_text (declared_at layout) (text_of new) ≡ false → CanGo layout node None (Some place)
  declaration_goes name text = record {
    stands = loose;
    here = (content.Declared new, is, tt);
    there = subst (λ (rings : List (List NodeId)). Suits (record layout { rings = rings }) node (Some place)) (sym rings_out) (
      content.Declared new,
      is,
      (
        end_place layout 0 place refl below,
        record {
          names = new_names layout sound new name;
          texts = new_texts layout sound new text;
          sections = λ key other e. not_both e refl;
          rings = λ key other e. not_both e refl;
          ids = λ key other e. not_both e refl;
        },
      ),
    );
  }

  -- the ring of the declarations then
  ring_first : ring_at now 0 ≡ ring_at layout 0 ++ node ∷ []
  ring_first =
      ap (λ rings. slice_index_or (rings_with place node 0 rings) 0 []) rings_out
      ∙ (get_put place node 0 0 layout.rings below ∙ put_last 0 node (ring_at layout 0) (distinct_ring layout.rings 0 sound.laid.once))

  -- the other rings are as they were
  ring_other : (index : ℕ) → 1 ≤ index → ring_at now index ≡ ring_at layout index
  ring_other index high =
      let from : 0 + index ≡ index = omega arith in
      let off : is_place_of place (head_of index) (ring_at layout index) ≡ false =
      place_off layout.rings place 0 index sound.laid.once (end_on (head_of 0) (ring_at layout 0)) (λ same. absurd (omega (arith, high, same))) in
      ap (λ rings. slice_index_or (rings_with place node 0 rings) index []) rings_out
      ∙ get_put_other place node 0 index layout.rings (ap (λ k. is_place_of place (head_of k) (ring_at layout index)) from ∙ off)

  -- it is declared behind all others
  declared_more : declared_at now ≡ declared_at layout ++ new ∷ []
  declared_more =
      let read = read_at declaration_in layout in
      declared_read now ∙ (ap (flat_map read) ring_first ∙ (flat_map-append read (ring_at layout 0) (node ∷ [])
      ∙ ap₂ (λ (xs ys : List Declaration). xs ++ ys) (sym (declared_read layout)) (append-nil (read node) ∙ read_known declaration_in layout node (content.Declared new) is)))

  -- and the sections are as they were
  sections_stay : sections_at now ≡ sections_at layout
  sections_stay =
      let rings_stay : (index : ℕ) → 2 ≤ index → ring_at now index ≡ ring_at layout index = λ index high. ring_other index (omega (arith, high)) in
      sections_read now ∙ (ap (flat_map (read_at (section_in now) now)) (ring_other 1 (omega arith))
      ∙ (same_read (read_at (section_in layout) layout) (read_at (section_in now) now) (ring_at layout 1) (section_still layout sound.shaped now.rings rings_stay)
      ∙ sym (sections_read layout)))

-- the item of a declaration makes what the statement makes
pub declaration_done : (table : TableValue) (new : Declaration) (item : Item) → IsSoundLayout table.layout → IsLooseNode table.layout item.node
    → content_of table.layout item.node ≡ Some (content.Declared new)
    → item.old ≡ None → item.new ≡ Some (end_of_declarations table.layout) → item.weights ≡ None → declaration_refusal (collation table) new ≡ None
    → AreDone table (item ∷ []) (record (collation table) { declared = (collation table).declared ++ new ∷ [] }) 1
unfolding collation CanTurnOn placed_items turned_on steps_of
declaration_done table new item sound loose is had gets plain judged =
    let layout = table.layout in
    let name = passed (is_declared (collation table).declared (name_of new)) DeclaredTwice _ judged in
    let some = passed (means_nothing (collation table).declared new) NotDeclared _ name.1 in
    let means = passed (means_no_symbol (collation table).declared new) NotASymbol _ some.1 in
    let text = passed (has_text (collation table).declared (text_of new)) StringTwice _ means.1 in
    let from : placed_at item.old layout item.node ≡ None = ap (λ old. placed_at old layout item.node) had in
    let can = declaration_goes layout sound item.node new loose is name.0 text.0 in
    let on = linked_anew layout item (end_of_declarations layout) plain gets in
    record {
      goes = (
        subst (λ to. ItemGoes to (placed_at item.old layout item.node) layout item.node (placed_at item.old layout item.node) to) (sym gets)
            (subst (λ had. CanGo layout item.node had (Some (end_of_declarations layout))) (sym from) can),
        tt,
      );
      made = ap₂ (λ (declared : List Declaration) (sections : List Section). record { rules = table.rules; declared = declared; sections = sections })
          (ap declared_at on ∙ declared_more layout sound item.node new loose is) (ap sections_at on ∙ sections_stay layout sound item.node new loose is);
      steps = ap₂ (λ (from to : Option Place). steps_between from to + 0) from gets;
    }
