-- A builder with one more behind all others: its places, and its parts.
use Rattle.std.proofs.Common.{◌≡◌, true, ℕ, ◌<◌, ◌≤◌, ◌++◌, List, [], ◌∷◌, Option, Some, None, length, flat_map, sym, ap, subst, ◌∙◌, refl, arith}
use Rattle.coll_order.specs.Layout.{head_of}
use Rattle.coll_order.specs.Lists.{has_node, end_of}
use Rattle.coll_order.specs.Sound.{StandOnce}
use Rattle.coll_order.specs.declared.places.NodeId.{NodeId}
use Rattle.coll_order.specs.declared.places.RingId.{RingId}
use Rattle.coll_order.specs.declared.places.Place.{Place}
use Rattle.coll_order.specs.declared.places.Place.TheVariants.{Head, After}
use Rattle.coll_order.proofs.RingLemmas.{get_push}
use Rattle.coll_texts.specs.Building.{parts_at}
use Rattle.coll_texts.specs.Loading.{with_last}
use Rattle.coll_nodes.specs.SoundBodies.{read_at, ring_at, IsShaped, IsPlaceIn, IsEntryPlace, IsLastSection, IsLastEnd, IsSoundBuilder, HaveNames, FirstAloneUnnamed, Adds, end_in, with_empty_ring}
use Rattle.coll_nodes.specs.Table.{Section}
use Rattle.coll_nodes.specs.TableLayout.{TableLayout, entry_in, entries_in, declared_at, sections_at}
use Rattle.coll_nodes.specs.declared.contents.Content.{Content}
use Rattle.coll_nodes.specs.declared.contents.Content.TheVariants as content
use Rattle.coll_nodes.specs.declared.declarations.Declaration.{Declaration}
use Rattle.coll_nodes.specs.declared.entries.Entry.{Entry}
use Rattle.coll_nodes.proofs.EmptyRings.{once_push, get_past, one_ring_more, shaped_push, declared_push, sections_push}
use Rattle.coll_texts.proofs.LayoutEnds.{end_place, ring_last, end_last, end_other, declared_last, sections_last, entries_last, in_back}
use Rattle.coll_nodes.proofs.LayoutLists.{ring_key, other_in, declared_same, sections_same}
use Rattle.coll_nodes.proofs.LayoutReads.{entries_read, in_rings, section_at}
use Rattle.coll_nodes.proofs.LayoutSteps.{content_itself, content_other, ring_other}

-- names stay where the last section has one entry more
last_names : (sections : List Section) (entry : Entry) → HaveNames sections → HaveNames (with_last sections entry)
last_names [] entry named = tt
last_names (last ∷ []) entry named = named
last_names (first ∷ second ∷ later) entry named = (named.0, last_names (second ∷ later) entry named.1)

-- so does the first, which has none
last_unnamed : (sections : List Section) (entry : Entry) → FirstAloneUnnamed sections → FirstAloneUnnamed (with_last sections entry)
last_unnamed [] entry unnamed = unnamed
last_unnamed (last ∷ []) entry unnamed = unnamed
last_unnamed (first ∷ second ∷ later) entry unnamed = (unnamed.0, last_names (second ∷ later) entry unnamed.1)

-- a section with a name behind others
names_push : (sections : List Section) (name : List ℕ) → HaveNames sections → HaveNames (sections ++ record { name = Some name; entries = [] } ∷ [])
names_push [] name named = ((name, refl), tt)
names_push (first ∷ later) name named = (named.0, names_push later name named.1)

-- behind the first, which has none
pub unnamed_push : (sections : List Section) (name : List ℕ) → FirstAloneUnnamed sections → FirstAloneUnnamed (sections ++ record { name = Some name; entries = [] } ∷ [])
unnamed_push [] name unnamed = absurd unnamed
unnamed_push (first ∷ later) name unnamed = (unnamed.0, names_push later name unnamed.1)

-- the last section's node is in the ring of the sections
pub last_in : (layout : TableLayout) (section : NodeId) (name : Option (List ℕ)) (ring : RingId) → IsLastSection layout section name ring → has_node (ring_at layout 1) section ≡ true
last_in layout section name ring is = ap (λ nodes. has_node nodes section) is.last.1 ∙ in_back is.last.0 section

-- its ring is none of the first two, and is there
last_ring : (layout : TableLayout) (section : NodeId) (name : Option (List ℕ)) (ring : RingId) → IsShaped layout → IsLastSection layout section name ring → (2 ≤ ring.index)
    × (ring.index < length layout.rings)
last_ring layout section name ring shaped is =
    let own = section_at layout shaped section (last_in layout section name ring is) in
    let it : own.1.index ≡ ring.index = ap number (sym own.2 ∙ is.begun) in
    (subst (λ k. 2 ≤ k) it own.3, subst (λ k. k < length layout.rings) it own.4) where
      number : Option Content → ℕ
      number None = 0
      number (Some (content.Declared declaration)) = 0
      number (Some (content.Begun name ring)) = ring.index
      number (Some (content.Placed entry)) = 0

-- the place behind the last entry is that of an entry
pub entry_place : (layout : TableLayout) (place : Place) → IsShaped layout → IsLastEnd layout place → IsEntryPlace layout place
entry_place layout place shaped end =
    let high = last_ring layout end.0 end.1 end.2 shaped end.3 in (
      end.2.index,
      end_place layout end.2.index place end.4 high.1,
      (end.0, ring_key layout end.0 end.1 end.2 (in_rings layout 1 end.0 (last_in layout end.0 end.1 end.2 end.3)) end.3.begun),
    )

-- the place behind the last declaration is one of the declarations' ring
pub declared_place : (layout : TableLayout) (place : Place) → IsShaped layout → place ≡ end_in layout 0 → IsPlaceIn layout 0 place
declared_place layout place shaped last = end_place layout 0 place last (let two = shaped.two in omega (arith, two))

-- so is the place behind the last section, of theirs
pub section_place : (layout : TableLayout) (place : Place) → IsShaped layout → place ≡ end_in layout 1 → IsPlaceIn layout 1 place
section_place layout place shaped last = end_place layout 1 place last (let two = shaped.two in omega (arith, two))

module _ (old new : TableLayout) (node : NodeId) (sections_end entries_end : Place) (once : StandOnce old.rings) (shaped : IsShaped old) (sound : IsSoundBuilder old sections_end entries_end) where
  module _ (declaration : Declaration) (declared_end : Place) (ends : declared_end ≡ end_in old 0) (adds : Adds old new node (content.Declared declaration) declared_end) where
    -- a declaration more
    pub declared_builder : IsSoundBuilder new sections_end entries_end
    declared_builder =
        let below : 0 < length old.rings = (let two = shaped.two in omega (arith, two)) in
        let at = declared_place old declared_end shaped ends in
        let end = sound.entries in
        let high = last_ring old end.0 end.1 end.2 shaped end.3 in
        let lists : ring_at new 1 ≡ ring_at old 1 = ring_other old new node (content.Declared declaration) declared_end 0 adds at once 1 (λ e. absurd (omega (arith, e))) in
        record {
          sections = sound.sections ∙ sym (end_other old new node (content.Declared declaration) declared_end 0 adds below once shaped ends 1 (λ e. absurd (omega (arith, e))));
          entries = (
            end.0,
            end.1,
            end.2,
            record {
              last = (end.3.last.0, lists ∙ end.3.last.1);
              begun = content_other old new node (content.Declared declaration) declared_end 0 adds at once end.0
                  (other_in old new node (content.Declared declaration) declared_end 0 adds at once shaped 1 end.0 (last_in old end.0 end.1 end.2 end.3)) ∙ end.3.begun;
            },
            end.4 ∙ sym (end_other old new node (content.Declared declaration) declared_end 0 adds below once shaped ends end.2.index (λ e. let low = high.0 in absurd (omega (arith, e, low)))),
          );
          unnamed = subst (λ sections. FirstAloneUnnamed sections) (sym (sections_same old new node (content.Declared declaration) declared_end 0 adds at once shaped refl)) sound.unnamed;
        }

    -- the parts have it as the last
    pub declared_parts : parts_at new ≡ record (parts_at old) { declared = declared_at old ++ declaration ∷ [] }
    declared_parts =
        let below : 0 < length old.rings = (let two = shaped.two in omega (arith, two)) in
        let at = declared_place old declared_end shaped ends in
        ap (λ (declared : List Declaration). record { declared = declared; sections = sections_at new })
        (declared_last old new node (content.Declared declaration) declared_end 0 adds below once shaped ends refl)
        ∙ ap (λ (sections : List Section). record { declared = declared_at old ++ declaration ∷ []; sections = sections })
        (sections_same old new node (content.Declared declaration) declared_end 0 adds at once shaped refl)

  module _ (entry : Entry) (adds : Adds old new node (content.Placed entry) entries_end) where
    -- the last section has the entry
    sections_placed : sections_at new ≡ with_last (sections_at old) entry
    sections_placed =
        let end = sound.entries in
        let high = last_ring old end.0 end.1 end.2 shaped end.3 in
        let low : 2 ≤ end.2.index = high.0 in
        entries_last old new node (content.Placed entry) entries_end end.2.index adds high.1 once shaped end.4 end.3.last.0 end.0 end.1 end.2 entry end.3.last.1 end.3.begun refl refl
        (λ e. absurd (omega (arith, e, low)))

    -- an entry more
    pub placed_builder : IsSoundBuilder new sections_end (After node)
    placed_builder =
        let end = sound.entries in
        let high = last_ring old end.0 end.1 end.2 shaped end.3 in
        let index = end.2.index in
        let low : 2 ≤ index = high.0 in
        let at = end_place old index entries_end end.4 high.1 in
        let lists : ring_at new 1 ≡ ring_at old 1 = ring_other old new node (content.Placed entry) entries_end index adds at once 1 (λ e. absurd (omega (arith, e, low))) in
        record {
          sections = sound.sections ∙ sym (end_other old new node (content.Placed entry) entries_end index adds high.1 once shaped end.4 1 (λ e. absurd (omega (arith, e, low))));
          entries = (
            end.0,
            end.1,
            end.2,
            record {
              last = (end.3.last.0, lists ∙ end.3.last.1);
              begun = content_other old new node (content.Placed entry) entries_end index adds at once end.0
                  (other_in old new node (content.Placed entry) entries_end index adds at once shaped 1 end.0 (last_in old end.0 end.1 end.2 end.3)) ∙ end.3.begun;
            },
            sym (end_last old new node (content.Placed entry) entries_end index adds high.1 once shaped end.4),
          );
          unnamed = subst (λ sections. FirstAloneUnnamed sections) (sym (sections_placed)) (last_unnamed (sections_at old) entry sound.unnamed);
        }

    -- the parts have it as the last
    pub placed_parts : parts_at new ≡ record (parts_at old) { sections = with_last (sections_at old) entry }
    placed_parts =
        let end = sound.entries in
        let high = last_ring old end.0 end.1 end.2 shaped end.3 in
        let index = end.2.index in
        let low : 2 ≤ index = high.0 in
        let at = end_place old index entries_end end.4 high.1 in
        ap (λ (declared : List Declaration). record { declared = declared; sections = sections_at new })
        (declared_same old new node (content.Placed entry) entries_end index adds at once shaped (λ e. absurd (omega (arith, e, low))))
        ∙ ap (λ (sections : List Section). record { declared = declared_at old; sections = sections }) sections_placed

module _ (old new : TableLayout) (node : NodeId) (name : Option (List ℕ)) (ring : RingId) (sections_end : Place) (once_old : StandOnce old.rings) (shaped_old : IsShaped old)
    (adds : Adds (with_empty_ring old) new node (content.Begun name ring) sections_end) (last : ring.index ≡ length old.rings)
    (sections : sections_end ≡ end_in old 1) where
  -- there is a ring of the sections
  below : 1 < length (with_empty_ring old).rings
  below = let more = one_ring_more old in let two = shaped_old.two in omega (arith, more, two)

  -- each ring ends where it ended
  ends : (index : ℕ) → end_in (with_empty_ring old) index ≡ end_in old index
  ends index = ap (end_of (head_of index)) (get_push old.rings index)

  -- the section's ring has no nodes
  ring_empty : ring_at new ring.index ≡ []
  ring_empty =
      let two = shaped_old.two in
      ring_other (with_empty_ring old) new node (content.Begun name ring) sections_end 1 adds (end_place (with_empty_ring old) 1 sections_end (sections ∙ sym (ends 1)) below)
      (once_push old.rings once_old) ring.index (λ e. absurd (omega (arith, e, last, two)))
      ∙ (get_push old.rings ring.index ∙ (ap (λ k. ring_at old k) last ∙ get_past old.rings))

  -- the sections have one more behind all others
  sections_begun : sections_at new ≡ sections_at old ++ record { name = name; entries = [] } ∷ []
  sections_begun =
      let once = once_push old.rings once_old in
      let shaped = shaped_push old shaped_old in
      let none : entries_in new ring ≡ [] = entries_read new ring ∙ ap (flat_map (read_at entry_in new)) ring_empty in
      sections_last (with_empty_ring old) new node (content.Begun name ring) sections_end 1 adds below once shaped (sections ∙ sym (ends 1)) refl name ring refl none
      ∙ ap (λ sections. sections ++ record { name = name; entries = [] } ∷ []) (sections_push old)

  -- a section more
  pub begun_builder : FirstAloneUnnamed (sections_at old ++ record { name = name; entries = [] } ∷ []) → IsSoundBuilder new (After node) (Head ring)
  begun_builder unnamed =
      let once = once_push old.rings once_old in
      let shaped = shaped_push old shaped_old in
      let at_end = sections ∙ sym (ends 1) in
      let at = end_place (with_empty_ring old) 1 sections_end at_end below in
      record {
        sections = sym (end_last (with_empty_ring old) new node (content.Begun name ring) sections_end 1 adds below once shaped at_end);
        entries = (
          node,
          name,
          ring,
          record {
            last = (ring_at (with_empty_ring old) 1, ring_last (with_empty_ring old) new node (content.Begun name ring) sections_end 1 adds below once shaped at_end);
            begun = content_itself (with_empty_ring old) new node (content.Begun name ring) sections_end 1 adds at once;
          },
          sym (ap (end_of (head_of ring.index)) ring_empty),
        );
        unnamed = subst (λ sections. FirstAloneUnnamed sections) (sym sections_begun) unnamed;
      }

  -- the parts have it as the last
  pub begun_parts : parts_at new ≡ record (parts_at old) { sections = sections_at old ++ record { name = name; entries = [] } ∷ [] }
  begun_parts =
      let once = once_push old.rings once_old in
      let shaped = shaped_push old shaped_old in
      let at_end = sections ∙ sym (ends 1) in
      let at = end_place (with_empty_ring old) 1 sections_end at_end below in
      ap (λ (declared : List Declaration). record { declared = declared; sections = sections_at new })
      (declared_same (with_empty_ring old) new node (content.Begun name ring) sections_end 1 adds at once shaped (λ e. omega (arith, e)) ∙ declared_push old)
      ∙ ap (λ (sections : List Section). record { declared = declared_at old; sections = sections }) sections_begun

-- behind no sections, one without a name is the first
pub nothing_unnamed : FirstAloneUnnamed (sections_at (record { rings = [] ∷ [] ∷ []; nodes = [] }) ++ record { name = None; entries = [] } ∷ [])
unfolding sections_at
nothing_unnamed = (refl, tt)

-- of no nodes the parts are empty
pub nothing_parts : parts_at (record { rings = [] ∷ [] ∷ []; nodes = [] }) ≡ record { declared = []; sections = [] }
unfolding declared_at sections_at
nothing_parts = refl
