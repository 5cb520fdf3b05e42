-- An item that puts a section, whole, directly after another.
use Rattle.std.proofs.Common.{◌≡◌, ℕ, ◌+◌, ◌<◌, ◌≤◌, Bool, true, false, ◌||◌, not, cond, List, [], ◌∷◌, ◌++◌, Option, Some, None, length, flat_map, sym, ap, ap₂, subst, ◌∙◌, refl, arith}
use Rattle.std.specs.List.{list_any}
use Rattle.std.specs.Prelude.{IsSome}
use Rattle.std.proofs.Math.Bool.{or-false}
use Rattle.std.proofs.lemmas.List.Elements.{filter-append}
use Rattle.std.proofs.lemmas.Grind.{flat_map-append}
use Rattle.coll_order.specs.Layout.{head_of, place_from, rings_without}
use Rattle.coll_order.specs.Lists.{same_node, same_place, has_node, put_after, without as nodes_without}
use Rattle.coll_order.specs.Sound.{AreDistinct}
use Rattle.coll_order.specs.declared.places.NodeId.{NodeId}
use Rattle.coll_order.specs.declared.places.Place.{Place}
use Rattle.coll_order.specs.declared.places.Place.TheVariants.{After}
use Rattle.coll_order.proofs.ListLemmas.{has_put, has_without, put_first}
use Rattle.coll_order.proofs.Sameness.{by_test, not_both, same_node_is, same_node_itself}
use Rattle.coll_order.proofs.RingLemmas.{distinct_ring}
use Rattle.coll_syntax.specs.Identifier.{same_name}
use Rattle.coll_table.proofs.ItemPlaces.{apart_out, place_out, placed_standing, standing_suits, stands}
use Rattle.coll_table.proofs.ItemRings.{anew_other, anew_put, before_taken, linked_anew, section_still}
use Rattle.coll_table.proofs.ItemsDone.{AreDone}
use Rattle.coll_nodes.proofs.LayoutMoves.{declared_stays, get_without}
use Rattle.coll_nodes.proofs.LayoutReads.{and_true, begun_covers, both_true, in_rings, read_known, section_at, sections_read}
use Rattle.coll_nodes.proofs.NodeLists.{any_from, same_read}
use Rattle.coll_nodes.proofs.RingPlaces.{in_one}
use Rattle.coll_lookups.proofs.Sameness.{neither, same_name_decides}
use Rattle.coll_table.proofs.TurningRings.{once_without}
use Rattle.coll_nodes.proofs.WalkShapes.{members}
use Rattle.coll_nodes.specs.Bodies.{with_link, without_link}
use Rattle.coll_nodes.specs.Placement.{has_section_name, section_moved, sections_after, sections_named, sections_without}
use Rattle.coll_nodes.specs.SoundBodies.{has_key, read_at, ring_at, section_names_in}
use Rattle.coll_nodes.specs.SoundLayouts.{IsSoundLayout}
use Rattle.coll_nodes.specs.Table.{Section, named}
use Rattle.coll_nodes.specs.TableLayout.{TableLayout, TableValue, collation, declared_at, entries_in, section_in, sections_at}
use Rattle.coll_nodes.specs.Moving.{CanGo}
use Rattle.coll_table.specs.Turning.{CanTurnOn, ItemGoes, placed_at, placed_items, steps_between, steps_of, turned_on}
use Rattle.coll_nodes.specs.declared.contents.Content.TheVariants as content
use Rattle.coll_nodes.specs.declared.declarations.Declaration.{Declaration}
use Rattle.coll_table.specs.declared.records.Item.{Item}

-- Sections of a name.

-- one of these sections has a name
abbrev has_named : List ℕ → List Section → Bool
has_named name sections = list_any (λ (section : Section). has_section_name name section.name) sections

-- without those of a name that none has, they are the same
none_without : (sections : List Section) (name : List ℕ) → has_named name sections ≡ false → sections_without sections name ≡ sections
none_without [] name absent = refl
none_without (section ∷ sections) name absent =
    let apart = neither (has_section_name name section.name) (has_named name sections) absent in
    ap (λ b. cond (not b) (section ∷ sections_without sections name) (sections_without sections name)) apart.0 ∙ ap (λ ss. section ∷ ss) (none_without sections name apart.1)

-- none has such a name
none_named : (sections : List Section) (name : List ℕ) → has_named name sections ≡ false → sections_named sections name ≡ []
none_named [] name absent = refl
none_named (section ∷ sections) name absent =
    let apart = neither (has_section_name name section.name) (has_named name sections) absent in
    ap (λ b. cond b (section ∷ sections_named sections name) (sections_named sections name)) apart.0 ∙ none_named sections name apart.1

-- nothing goes behind one
none_after : (sections : List Section) (after : List ℕ) (more : List Section) → has_named after sections ≡ false → sections_after sections after more ≡ sections
none_after [] after more absent = refl
none_after (section ∷ sections) after more absent =
    let apart = neither (has_section_name after section.name) (has_named after sections) absent in
    ap (λ b. section ∷ (cond b more [] ++ sections_after sections after more)) apart.0 ∙ ap (λ ss. section ∷ ss) (none_after sections after more apart.1)

-- one node is the section of a name, and no other is one of it
pub record Names (f : NodeId → List Section) (name : List ℕ) (own node : NodeId) : Type 0 where
  pub here : same_node own node ≡ true → (section : Section) × (f node ≡ section ∷ []) × (has_section_name name section.name ≡ true)
  pub off : same_node own node ≡ false → has_named name (f node) ≡ false

-- Sections that are read of nodes.

module _ (f : NodeId → List Section) where
  -- nodes without the one of a name have no section of it
  absent_named : (name : List ℕ) (own : NodeId) (nodes : List NodeId) → has_node nodes own ≡ false → ((node : NodeId) → has_node nodes node ≡ true → Names f name own node)
      → has_named name (flat_map f nodes) ≡ false
  absent_named name own nodes absent names =
      by_test (λ b. has_named name (flat_map f nodes) ≡ b → b ≡ false) (has_named name (flat_map f nodes))
      (λ on t.
      let at = any_from (λ (section : Section). has_section_name name section.name) f nodes t in
      let differ : same_node own at.0 ≡ false = by_test (λ b. same_node own at.0 ≡ b → b ≡ false) (same_node own at.0)
      (λ on t. not_both (ap (has_node nodes) (same_node_is own at.0 t) ∙ at.1) absent) (λ off t. refl) refl in
      not_both at.2 ((names at.0 at.1).off differ)) (λ off t. refl) refl

  -- without its node, a list reads the sections without its section
  take_section : (name : List ℕ) (own : NodeId) (nodes : List NodeId) → ((node : NodeId) → has_node nodes node ≡ true → Names f name own node)
      → flat_map f (nodes_without own nodes) ≡ sections_without (flat_map f nodes) name
  take_section name own [] names = refl
  take_section name own (node ∷ nodes) names =
      let parts = members {P = Names f name own} node nodes names in
      let later = take_section name own nodes parts.1 in
      let rest = flat_map f nodes in
      by_test (λ b. flat_map f (cond b (nodes_without own nodes) (node ∷ nodes_without own nodes)) ≡ sections_without (f node ++ rest) name) (same_node own node)
      (λ on. let it = parts.0.here on in
      later ∙ sym (ap (λ ss. sections_without (ss ++ rest) name) it.1 ∙ ap (λ b. cond (not b) (it.0 ∷ sections_without rest name) (sections_without rest name)) it.2))
      (λ off. ap (λ ss. f node ++ ss) later
      ∙ sym (filter-append (λ (section : Section). not (has_section_name name section.name)) (f node) rest
      ∙ ap (λ ss. ss ++ sections_without rest name) (none_without (f node) name (parts.0.off off))))

  -- the sections of the name are that of its node
  only_named : (name : List ℕ) (own : NodeId) (nodes : List NodeId) → AreDistinct nodes → has_node nodes own ≡ true → ((node : NodeId) → has_node nodes node ≡ true → Names f name own node)
      → sections_named (flat_map f nodes) name ≡ f own
  only_named name own [] distinct there names = not_both there refl
  only_named name own (node ∷ nodes) distinct there names =
      let parts = members {P = Names f name own} node nodes names in
      let rest = flat_map f nodes in
      by_test (λ b. same_node own node ≡ b → (b || has_node nodes own) ≡ true → sections_named (f node ++ rest) name ≡ f own) (same_node own node)
      (λ on t _.
      let it = parts.0.here on in
      let is : own ≡ node = same_node_is own node on in
      let none : sections_named rest name ≡ [] = none_named rest name (absent_named name own nodes (ap (has_node nodes) is ∙ distinct.0) parts.1) in
      ap (λ ss. sections_named (ss ++ rest) name) it.1
      ∙ (ap (λ b. cond b (it.0 ∷ sections_named rest name) (sections_named rest name)) it.2 ∙ (ap (λ ss. it.0 ∷ ss) none ∙ (sym it.1 ∙ ap f (sym is)))))
      (λ off t later. filter-append (λ (section : Section). has_section_name name section.name) (f node) rest
      ∙ (ap (λ ss. ss ++ sections_named rest name) (none_named (f node) name (parts.0.off off)) ∙ only_named name own nodes distinct.1 later parts.1)) refl there

  -- with a node directly after that of a name, a list reads the sections with its own directly after the name's
  put_section : (after : List ℕ) (target node : NodeId) (start : Place) (nodes : List NodeId) → same_place (After target) start ≡ false → AreDistinct nodes
      → ((other : NodeId) → has_node nodes other ≡ true → Names f after target other) → flat_map f (put_after (After target) node start nodes) ≡ sections_after (flat_map f nodes) after (f node)
  put_section after target node start [] apart distinct names = ap (λ b. flat_map f (cond b (node ∷ []) [])) apart
  put_section after target node start (first ∷ nodes) apart distinct names =
      let told = members {P = Names f after target} first nodes names in
      let rest = flat_map f nodes in
      ap (λ b. flat_map f (cond b (node ∷ first ∷ nodes) (first ∷ put_after (After target) node (After first) nodes))) apart
      ∙ by_test (λ b. same_node target first ≡ b → f first ++ flat_map f (put_after (After target) node (After first) nodes) ≡ sections_after (f first ++ rest) after (f node)) (same_node target first)
      (λ on _.
      let it = told.0.here on in
      let is : target ≡ first = same_node_is target first on in
      let put : put_after (After target) node (After first) nodes ≡ node ∷ nodes = ap (λ n. put_after (After n) node (After first) nodes) is ∙ put_first (After first) node nodes in
      let none : sections_after rest after (f node) ≡ rest = none_after rest after (f node) (absent_named after target nodes (ap (has_node nodes) is ∙ distinct.0) told.1) in
      ap (λ ns. f first ++ flat_map f ns) put
      ∙ (ap (λ ss. ss ++ (f node ++ rest)) it.1
      ∙ sym (ap (λ ss. sections_after (ss ++ rest) after (f node)) it.1 ∙ (ap (λ b. it.0 ∷ (cond b (f node) [] ++ sections_after rest after (f node))) it.2 ∙ ap (λ ss. it.0 ∷ (f node ++ ss)) none))))
      (λ off _. ap (λ ss. f first ++ ss) (put_section after target node (After first) nodes off distinct.1 told.1)
      ∙ sym (flat_map-append (λ (section : Section). section ∷ cond (has_section_name after section.name) (f node) []) (f first) rest
      ∙ ap (λ ss. ss ++ sections_after rest after (f node)) (none_after (f first) after (f node) (told.0.off off)))) refl

-- Nodes of sections.

-- the names of a section have one where the section has it
key_of_name : (name : List ℕ) (found : Option (List ℕ)) → list_any (same_name name) (named found) ≡ has_section_name name found
key_of_name name None = refl
key_of_name name (Some own) = or-false (same_name name own)

-- one name alone is that of a section
one_name : (name other : List ℕ) (found : Option (List ℕ)) → has_section_name name found ≡ true → has_section_name other found ≡ true → name ≡ other
one_name name other None p q = not_both p refl
one_name name other (Some own) p q = (same_name_decides name own).0 p ∙ sym ((same_name_decides other own).0 q)

module _ (layout : TableLayout) (sound : IsSoundLayout layout) (name : List ℕ) (own : NodeId) (has : has_key same_name section_names_in layout name own ≡ true) where
  -- a section's node stands in the ring of the sections
  section_stands : has_node (ring_at layout 1) own ≡ true
  section_stands = begun_covers layout same_name section_names_in sound.shaped (λ _. refl) (λ _. refl) name own has

  -- and in no other
  section_absent : (index : ℕ) → (1 ≡ index → ⊥) → has_node (ring_at layout index) own ≡ false
  section_absent index differ = by_test (λ b. has_node (ring_at layout index) own ≡ b → b ≡ false) (has_node (ring_at layout index) own)
      (λ on t. absurd (differ (in_one layout.rings 1 index own sound.laid.once section_stands t))) (λ off t. refl) refl

  -- it alone has the name
  section_names : (other : NodeId) → has_node (ring_at layout 1) other ≡ true → Names (read_at (section_in layout) layout) name own other
  section_names other there =
      let is = section_at layout sound.shaped other there in
      let known = content.Begun is.0 is.1 in
      let reads = read_known (section_in layout) layout other known is.2 in
      let keys : list_any (same_name name) (read_at section_names_in layout other) ≡ has_section_name name is.0 =
      ap (list_any (same_name name)) (read_known section_names_in layout other known is.2) ∙ key_of_name name is.0 in
      record {
        here = λ on. (
          record { name = is.0; entries = entries_in layout is.1 },
          reads,
          sym keys ∙ (ap (λ n. list_any (same_name name) (read_at section_names_in layout n)) (sym (same_node_is own other on)) ∙ (both_true _ _ has).1),
        );
        off = λ differ. by_test (λ b. has_section_name name is.0 ≡ b → has_named name (read_at (section_in layout) layout other) ≡ false) (has_section_name name is.0)
            (λ on t.
            let same : own ≡ other = sound.sections name own other has (and_true (in_rings layout 1 other there) (keys ∙ t)) in
            not_both (ap (same_node own) (sym same) ∙ same_node_itself own) differ)
            (λ off t. ap (has_named name) reads ∙ ap (λ b. b || false) t) refl;
      }

-- a section's node put directly after that of another
module _ (layout : TableLayout) (sound : IsSoundLayout layout) (name after : List ℕ) (node target : NodeId) (has : has_key same_name section_names_in layout name node ≡ true)
    (has_target : has_key same_name section_names_in layout after target ≡ true) (differ : same_name name after ≡ false) where
  abbrev now : TableLayout
  now = with_link (without_link layout node) node (After target)

  apart : same_node target node ≡ false
  apart = by_test (λ b. same_node target node ≡ b → b ≡ false) (same_node target node)
      (λ on t.
      let there = section_stands layout sound name node has in
      let mine = (section_names layout sound name node has node there).here (same_node_itself node) in
      let other = (section_names layout sound after target has_target node there).here t in
      let one : mine.0 ≡ other.0 = same_head (sym mine.1 ∙ other.1) in
      let names : name ≡ after = one_name name after mine.0.name mine.2 (ap (λ (section : Section). has_section_name after section.name) one ∙ other.2) in
      not_both ((same_name_decides name after).1 names) differ) (λ off t. refl) refl where
        same_head : {a b : Section} → a ∷ [] ≡ b ∷ [] → a ≡ b
        same_head e = cc

  below : 1 < length layout.rings
  below = let two = sound.shaped.two in omega arith

  -- it can
  section_goes : (place : Place) → place_from 0 layout.rings node ≡ Some place → CanGo layout node (Some place) (Some (After target))
  section_goes place at =
      let there = section_stands layout sound name node has in
      let is = section_at layout sound.shaped node there in
      record {
        stands = at;
        here = standing_suits layout node place sound at;
        there = (
          content.Begun is.0 is.1,
          is.2,
          (
            place_out layout node 1 (After target) below (has_without node target (ring_at layout 1) apart ∙ section_stands layout sound after target has_target),
            apart_out layout node (content.Begun is.0 is.1) sound (in_rings layout 1 node there) is.2,
          ),
        );
      }

  -- a ring other than that of the sections is as it was
  ring_other : (index : ℕ) → (1 ≡ index → ⊥) → ring_at now index ≡ ring_at layout index
  ring_other index off = anew_other layout node target index (section_absent layout sound name node has index off) (section_absent layout sound after target has_target index off)

  -- the same is declared
  section_declared : declared_at now ≡ declared_at layout
  section_declared = declared_stays layout now (ring_other 0 (λ same. absurd (omega (arith, same)))) (λ other there. refl)

  -- what stands in the ring of the sections stood there
  before_put : (nodes : List NodeId) (other : NodeId) → has_node nodes node ≡ true → has_node (put_after (After target) node (head_of 1) (nodes_without node nodes)) other ≡ true
      → has_node nodes other ≡ true
  before_put nodes other there put = by_test (λ b. same_node other node ≡ b → has_node nodes other ≡ true) (same_node other node)
      (λ on t. ap (has_node nodes) (same_node_is other node t) ∙ there)
      (λ off t. (before_taken node nodes other (sym (has_put (After target) (head_of 1) node other (nodes_without node nodes) t) ∙ put)).1) refl

  -- and the section stands directly after the other
  section_put : sections_at now ≡ section_moved (sections_at layout) name after
  section_put =
      let f = read_at (section_in layout) layout in
      let nodes = ring_at layout 1 in
      let there = section_stands layout sound name node has in
      let put : ring_at now 1 ≡ put_after (After target) node (head_of 1) (nodes_without node nodes) = anew_put layout node (After target) 1 below in
      let distinct : AreDistinct (nodes_without node nodes) =
      subst AreDistinct (get_without node layout.rings 1) (distinct_ring (rings_without node layout.rings) 1 (once_without node layout.rings sound.laid.once)) in
      let stay : (index : ℕ) → 2 ≤ index → ring_at now index ≡ ring_at layout index = λ index high. ring_other index (λ same. absurd (omega (arith, high, same))) in
      let read = sections_read layout in
      sections_read now
      ∙ (ap (flat_map (read_at (section_in now) now)) put
      ∙ (same_read f (read_at (section_in now) now) (put_after (After target) node (head_of 1) (nodes_without node nodes))
      (λ other in_put. section_still layout sound.shaped now.rings stay other (before_put nodes other there in_put))
      ∙ (put_section f after target node (head_of 1) (nodes_without node nodes) refl distinct
      (λ other in_rest. section_names layout sound after target has_target other (before_taken node nodes other in_rest).1)
      ∙ (ap₂ (λ (ss more : List Section). sections_after ss after more) (take_section f name node nodes (section_names layout sound name node has))
      (sym (only_named f name node nodes (distinct_ring layout.rings 1 sound.laid.once) there (section_names layout sound name node has)))
      ∙ ap (λ ss. section_moved ss name after) (sym read)))))

-- the item of a section makes what the statement makes
pub section_done : (table : TableValue) (name after : List ℕ) (item : Item) (target : NodeId) → IsSoundLayout table.layout → has_key same_name section_names_in table.layout name item.node ≡ true
    → has_key same_name section_names_in table.layout after target ≡ true → IsSome item.old → item.new ≡ Some (After target) → item.weights ≡ None → same_name name after ≡ false
    → AreDone table (item ∷ []) (record (collation table) { sections = section_moved (collation table).sections name after }) 2
unfolding collation CanTurnOn placed_items turned_on steps_of
section_done table name after item target sound has has_target had gets plain differ =
    let layout = table.layout in
    let place = stands 0 layout.rings item.node (both_true _ _ has).0 in
    let from : placed_at item.old layout item.node ≡ Some place.0 = placed_standing layout item.node item.old place.0 had place.1 in
    let can = section_goes layout sound name after item.node target has has_target differ place.0 place.1 in
    let on = linked_anew layout item (After target) plain gets in
    record {
      goes = (
        subst (λ to. ItemGoes to (placed_at item.old layout item.node) layout item.node (placed_at item.old layout item.node) to) (sym gets)
            (subst (λ had. CanGo layout item.node had (Some (After target))) (sym from) can),
        tt,
      );
      made = ap₂ (λ (declared : List Declaration) (sections : List Section). record { rules = table.rules; declared = declared; sections = sections })
          (ap declared_at on ∙ section_declared layout sound name after item.node target has has_target differ)
          (ap sections_at on ∙ section_put layout sound name after item.node target has has_target differ);
      steps = ap₂ (λ (from to : Option Place). steps_between from to + 0) from gets;
    }
