-- A record fits a table that extends one that it fits, and one that such a table extends, if that has the nodes that the record
-- names; and a record in force names no others.
use Rattle.std.proofs.Common.{◌≡◌, ℕ, Bool, true, false, ◌||◌, cond, List, [], ◌∷◌, Option, Some, None, IsSome, flat_map, get_or, sym, ap, subst, ◌∙◌, refl}
use Rattle.std.proofs.lemmas.List.{map-id}
use Rattle.coll_order.specs.Layout.{is_in, place_from, rings_without}
use Rattle.coll_order.specs.Lists.{same_node, has_node}
use Rattle.coll_order.specs.declared.places.NodeId.{NodeId}
use Rattle.coll_order.specs.declared.places.RingId.{RingId}
use Rattle.coll_order.specs.declared.places.Place.{Place}
use Rattle.coll_order.proofs.ListLemmas.{is_in_without, is_in_without_itself, or_first, or_second}
use Rattle.coll_order.proofs.Sameness.{by_test, not_both, same_node_is, same_node_itself}
use Rattle.coll_syntax.specs.declared.weights.Weight.{Weight}
use Rattle.coll_nodes.proofs.LayoutMoves.{declared_stays, sections_changed}
use Rattle.coll_nodes.proofs.LayoutReads.{entries_read, in_rings}
use Rattle.coll_nodes.proofs.NodeLists.{same_read}
use Rattle.coll_table.proofs.ItemsDone.{moved_others}
use Rattle.coll_table.proofs.TurningBack.{back_and_on, on_and_back}
use Rattle.coll_nodes.proofs.TurningKeys.{IsAlike, bare_if, some_alike, stand_alike}
use Rattle.coll_nodes.proofs.TurningNodes.{content_weighed, weighed_if}
use Rattle.coll_table.proofs.TurningSound.{after_item, item_on_sound, reweighed_same}
use Rattle.coll_table.proofs.TurningSteps.{names_linked}
use Rattle.coll_nodes.specs.Bodies.{without_link}
use Rattle.coll_table.specs.Record.{Extends, HasNodesOf, CanTurn, NameNodesOf, named_nodes, turn, turned_layout}
use Rattle.coll_table.specs.RecordLaws.{RecordsFitWider, RecordsFitWhereNamed, RecordsFitNarrower, WiderReadsAlike}
use Rattle.coll_nodes.specs.SoundBodies.{ring_at, read_at}
use Rattle.coll_nodes.specs.SoundLayouts.{IsSoundLayout}
use Rattle.coll_nodes.specs.TableLayout.{TableLayout, TableValue, collation, content_of, declared_at, sections_at, entries_in, entry_in, if_any}
use Rattle.coll_nodes.specs.Moving.{IsAt, Suits, moved_rings}
use Rattle.coll_table.specs.Turning.{CanGoBack, CanTurnBack, CanTurnOn, ItemGoes, item_back, item_on, turned_back, turned_on}
use Rattle.coll_nodes.specs.WellFormed.{IsWellFormed}
use Rattle.coll_nodes.specs.declared.contents.Content.{Content}
use Rattle.coll_table.specs.declared.records.Item.{Item}
use Rattle.coll_table.specs.declared.records.Record.{Record}

-- the rings of two layouts are the same, and each node that stands in them is
pub record SameLinked (old new : TableLayout) : Type 0 where
  pub rings : new.rings ≡ old.rings
  pub contents : (node : NodeId) → is_in old.rings node ≡ true → content_of new node ≡ content_of old node

-- a layout has all that another has, and may have loose nodes more
record IsWider (wide layout : TableLayout) : Type 0 where
  pub rings : wide.rings ≡ layout.rings
  pub nodes : HasNodesOf wide layout

-- what is there is something
module _ (found : Option Content) where
  known : IsSome found → (it : Content) × (found ≡ Some it)
  known there = by found there where
    by : (found : Option Content) → IsSome found → (it : Content) × (found ≡ Some it)
    by None there = not_both there refl
    by (Some it) there = (it, refl)

-- a wider layout has the same linked nodes
wider_linked : (wide layout : TableLayout) → IsSoundLayout layout → IsWider wide layout → SameLinked layout wide
wider_linked wide layout sound wider = record {
  rings = wider.rings;
  contents = λ node there. let is = known (content_of layout node) (sound.laid.made node there) in wider.nodes node is.0 is.1 ∙ sym is.1;
}

-- and so has the other
turned_linked : (old new : TableLayout) → SameLinked old new → SameLinked new old
turned_linked old new same = record {
  rings = sym same.rings;
  contents = λ node there. sym (same.contents node (ap (λ rings. is_in rings node) (sym same.rings) ∙ there));
}

module _ (old new : TableLayout) (same : SameLinked old new) (node : NodeId) where
  -- without a node they are alike
  linked_alike : IsAlike (without_link old node) (without_link new node)
  linked_alike = record {
    rings = ap (rings_without node) same.rings;
    contents = λ other there. ap bare_if (same.contents other (by_test (λ b. same_node other node ≡ b → is_in old.rings other ≡ true) (same_node other node)
        (λ on e. not_both (ap (is_in (rings_without node old.rings)) (sym (same_node_is other node e)) ∙ there) (is_in_without_itself node old.rings))
        (λ off e. sym (is_in_without node other old.rings e) ∙ there) refl));
  }

  module _ (own : (it : Content) → content_of old node ≡ Some it → content_of new node ≡ Some it) where
    -- so a node that may stand in the one may stand in the other
    suits_alike : (at : Option Place) → Suits (without_link old node) node at → Suits (without_link new node) node at
    suits_alike at suits = (suits.0, own suits.0 suits.1, stand_alike (without_link old node) (without_link new node) linked_alike at suits.0 suits.0 refl suits.2)

    stands_alike : (from : Option Place) → IsAt old node from → IsAt new node from
    stands_alike None at = let is = known (content_of old node) at.made in record {
      made = subst (λ (found : Option Content). IsSome found) (sym (own is.0 is.1)) refl;
      apart = ap (λ rings. is_in rings node) same.rings ∙ at.apart;
    }
    stands_alike (Some place) at = ap (λ rings. place_from 0 rings node) same.rings ∙ at

    -- and go where it can go in the one
    goes_alike : (gets had from to : Option Place) → ItemGoes gets had old node from to → ItemGoes gets had new node from to
    goes_alike None had from to goes = (goes.0, ap (λ rings. is_in rings node) same.rings ∙ goes.1)
    goes_alike (Some place) had from to goes = record { stands = stands_alike from goes.stands; here = suits_alike from goes.here; there = suits_alike to goes.there }

-- what a layout has still after an item, the wider one has too
after_wider : (gets : Option Place) (wide layout : TableLayout) (node : NodeId) (to : Option Place) (weights : Option (List Weight)) → IsWider wide layout
    → IsWider (after_item gets wide node to weights) (after_item gets layout node to weights)
after_wider gets wide layout node to weights wider = record {
  rings = ap (λ rings. moved_rings gets rings node to) wider.rings;
  nodes = λ other it is. content_weighed node weights wide.nodes other
      ∙ (by other it (content_of layout other) refl (sym (content_weighed node weights layout.nodes other) ∙ is));
} where
  none_is : (b : Bool) (it : Content) → cond b None None ≡ Some it → ⊥
  none_is true it e = cc
  none_is false it e = cc

  by : (other : NodeId) (it : Content) (found : Option Content) → content_of layout other ≡ found → cond (same_node other node) (weighed_if weights found) found ≡ Some it
      → cond (same_node other node) (weighed_if weights (content_of wide other)) (content_of wide other) ≡ Some it
  by other it None none is = absurd (none_is (same_node other node) it is)
  by other it (Some own) known is = ap (λ found. cond (same_node other node) (weighed_if weights found) found) (wider.nodes other own known) ∙ is

-- Items.

-- what can be taken back can be in a wider layout
wider_back : (wide layout : TableLayout) (items : List Item) → IsSoundLayout layout → IsWider wide layout → CanTurnBack layout items → CanTurnBack wide items
    × IsWider (turned_back wide items) (turned_back layout items)
unfolding CanTurnBack turned_back
wider_back wide layout [] sound wider goes = (tt, wider)
wider_back wide layout (item ∷ items) sound wider goes =
    let later = wider_back wide layout items sound wider goes.0 in
    let before = turned_back layout items in
    let same = wider_linked (turned_back wide items) before (back_and_on layout items sound goes.0).sound later.1 in (
      (later.0, goes_alike before (turned_back wide items) same item.node (later.1.nodes item.node) item.new item.old item.new item.old goes.1),
      after_wider item.new (turned_back wide items) before item.node item.old item.weights later.1,
    )

-- and what can be done
wider_on : (wide layout : TableLayout) (items : List Item) → IsSoundLayout layout → IsWider wide layout → CanTurnOn layout items → CanTurnOn wide items
    × IsWider (turned_on wide items) (turned_on layout items)
unfolding CanTurnOn turned_on
wider_on wide layout [] sound wider goes = (tt, wider)
wider_on wide layout (item ∷ items) sound wider goes =
    let goes_here = goes_alike layout wide (wider_linked wide layout sound wider) item.node (wider.nodes item.node) item.new item.old item.old item.new goes.0 in
    let later = wider_on (item_on wide item) (item_on layout item) items (item_on_sound layout item sound goes.0) (after_wider item.new wide layout item.node item.new item.weights wider) goes.1 in
    ((goes_here, later.0), later.1)

-- what is there is there when an item was turned
stays_made : (gets : Option Place) (layout : TableLayout) (node : NodeId) (to : Option Place) (weights : Option (List Weight)) (other : NodeId) → IsSome (content_of layout other)
    → IsSome (content_of (after_item gets layout node to weights) other)
stays_made gets layout node to weights other there = some_alike (content_of (after_item gets layout node to weights) other) (content_of layout other) (reweighed_same layout node other weights) there

-- and when items were taken back
made_back : (layout : TableLayout) (items : List Item) (node : NodeId) → IsSome (content_of layout node) → IsSome (content_of (turned_back layout items) node)
unfolding turned_back
made_back layout [] node there = there
made_back layout (item ∷ items) node there = stays_made item.new (turned_back layout items) item.node item.old item.weights node (made_back layout items node there)

-- what a layout has is the same in it as in the wider one
was_same : (wide layout : TableLayout) → IsWider wide layout → (node : NodeId) → IsSome (content_of layout node) → (it : Content) → content_of wide node ≡ Some it → content_of layout node ≡ Some it
was_same wide layout wider node there it at = let is = known (content_of layout node) there in is.1 ∙ (sym (wider.nodes node is.0 is.1) ∙ at)

-- the node of the first item is named, and so are those of the others
module _ (layout : TableLayout) (item : Item) (items : List Item) (named : NameNodesOf layout (item ∷ items)) where
  first_named : IsSome (content_of layout item.node)
  first_named = named item.node (or_first (same_node item.node item.node) (has_node (named_nodes items) item.node) (same_node_itself item.node))

  others_named : NameNodesOf layout items
  others_named node there = named node (or_second (same_node node item.node) (has_node (named_nodes items) node) there)

-- what can be taken back in a wider layout can be here, if its nodes are here
narrower_back : (wide layout : TableLayout) (items : List Item) → IsSoundLayout layout → IsWider wide layout → NameNodesOf layout items → CanTurnBack wide items
    → CanTurnBack layout items × IsWider (turned_back wide items) (turned_back layout items)
unfolding CanTurnBack turned_back
narrower_back wide layout [] sound wider named goes = (tt, wider)
narrower_back wide layout (item ∷ items) sound wider named goes =
    let later = narrower_back wide layout items sound wider (others_named layout item items named) goes.0 in
    let before = turned_back layout items in
    let same = wider_linked (turned_back wide items) before (back_and_on layout items sound later.0).sound later.1 in
    let own = was_same (turned_back wide items) before later.1 item.node (made_back layout items item.node (first_named layout item items named)) in (
      (later.0, goes_alike (turned_back wide items) before (turned_linked before (turned_back wide items) same) item.node own item.new item.old item.new item.old goes.1),
      after_wider item.new (turned_back wide items) before item.node item.old item.weights later.1,
    )

-- and what can be done there
narrower_on : (wide layout : TableLayout) (items : List Item) → IsSoundLayout layout → IsWider wide layout → NameNodesOf layout items → CanTurnOn wide items
    → CanTurnOn layout items × IsWider (turned_on wide items) (turned_on layout items)
unfolding CanTurnOn turned_on
narrower_on wide layout [] sound wider named goes = (tt, wider)
narrower_on wide layout (item ∷ items) sound wider named goes =
    let own = was_same wide layout wider item.node (first_named layout item items named) in
    let goes_here = goes_alike wide layout (turned_linked layout wide (wider_linked wide layout sound wider)) item.node own item.new item.old item.old item.new goes.0 in
    let named_after : NameNodesOf (item_on layout item) items = λ node there. stays_made item.new layout item.node item.new item.weights node (others_named layout item items named node there) in
    let later = narrower_on (item_on wide item) (item_on layout item) items (item_on_sound layout item sound goes_here) (after_wider item.new wide layout item.node item.new item.weights wider)
    named_after goes.1 in
    ((goes_here, later.0), later.1)

-- Items in force name nodes that stand in rings.

-- a node that stands in a ring once an item is taken back stood in one
was_linked : (layout : TableLayout) (item : Item) (node : NodeId) → CanGoBack layout item → is_in (item_back layout item).rings node ≡ true → is_in layout.rings node ≡ true
was_linked layout item node goes there =
    by_test (λ b. same_node node item.node ≡ b → is_in layout.rings node ≡ true) (same_node node item.node)
    (λ on e. ap (is_in layout.rings) (same_node_is node item.node e) ∙ names_linked item.new item.old layout item.node goes)
    (λ off e. sym (moved_others item.new item.old layout.rings item.node node e) ∙ there) refl

-- and so it did before items were
were_linked : (layout : TableLayout) (items : List Item) (node : NodeId) → CanTurnBack layout items → is_in (turned_back layout items).rings node ≡ true → is_in layout.rings node ≡ true
unfolding CanTurnBack turned_back
were_linked layout [] node goes there = there
were_linked layout (item ∷ items) node goes there = were_linked layout items node goes.0 (was_linked (turned_back layout items) item node goes.1 there)

-- so each node that items in force name stands in one
named_linked : (layout : TableLayout) (items : List Item) → CanTurnBack layout items → (node : NodeId) → has_node (named_nodes items) node ≡ true → is_in layout.rings node ≡ true
unfolding CanTurnBack
named_linked layout [] goes node there = not_both there refl
named_linked layout (item ∷ items) goes node there =
    by_test (λ b. same_node node item.node ≡ b → (b || has_node (named_nodes items) node) ≡ true → is_in layout.rings node ≡ true) (same_node node item.node)
    (λ on e _. were_linked layout items node goes.0 (ap (is_in (turned_back layout items).rings) (same_node_is node item.node e)
    ∙ names_linked item.new item.old (turned_back layout items) item.node goes.1))
    (λ off e there. named_linked layout items goes.0 node there) refl there

-- Tables.

-- layouts with the same linked nodes
module _ (old new : TableLayout) (sound : IsSoundLayout old) (same : SameLinked old new) where
  same_ring : (index : ℕ) → ring_at new index ≡ ring_at old index
  same_ring index = ap (λ rings. get_or rings index []) same.rings

  same_there : (index : ℕ) (node : NodeId) → has_node (ring_at old index) node ≡ true → content_of new node ≡ content_of old node
  same_there index node there = same.contents node (in_rings old index node there)

  -- declare the same
  same_declared : declared_at new ≡ declared_at old
  same_declared = declared_stays old new (same_ring 0) (same_there 0)

  -- have the same entries in each ring
  same_entries : (ring : RingId) → entries_in new ring ≡ entries_in old ring
  same_entries ring =
      entries_read new ring
      ∙ (ap (flat_map (read_at entry_in new)) (same_ring ring.index)
      ∙ (same_read (read_at entry_in old) (read_at entry_in new) (ring_at old ring.index) (λ node there. ap (λ found. flat_map entry_in (if_any found)) (same_there ring.index node there))
      ∙ sym (entries_read old ring)))

  -- and the same sections
  same_sections : sections_at new ≡ sections_at old
  same_sections = sections_changed old new (λ es. es) sound.shaped (same_ring 1) (same_there 1) (λ ring below. same_entries ring) ∙ map-id (sections_at old)

-- so they stand for the same table
pub same_collation : (old new : TableValue) → old.rules ≡ new.rules → IsSoundLayout old.layout → SameLinked old.layout new.layout → collation new ≡ collation old
unfolding collation
same_collation old new rules sound same =
    ap (λ rules. record { rules = rules; declared = declared_at new.layout; sections = sections_at new.layout }) (sym rules)
    ∙ (ap (λ declared. record { rules = old.rules; declared = declared; sections = sections_at new.layout }) (same_declared old.layout new.layout sound same)
    ∙ ap (λ sections. record { rules = old.rules; declared = declared_at old.layout; sections = sections }) (same_sections old.layout new.layout sound same))

-- a table that extends another one reads as that
pub collation_wider : WiderReadsAlike
collation_wider wide table is extends =
    same_collation table wide (sym extends.rules) is.sound (wider_linked wide.layout table.layout is.sound (record { rings = extends.rings; nodes = extends.nodes }))

-- what can be turned can be in a wider layout
turns_wider : (undone : Bool) (wide layout : TableLayout) (items : List Item) → IsSoundLayout layout → IsWider wide layout → CanTurn undone layout items
    → CanTurn undone wide items × IsWider (turned_layout undone wide items) (turned_layout undone layout items) × IsSoundLayout (turned_layout undone layout items)
turns_wider true wide layout items sound wider goes = let is = wider_on wide layout items sound wider goes in (is.0, is.1, (on_and_back layout items sound goes).sound)
turns_wider false wide layout items sound wider goes = let is = wider_back wide layout items sound wider goes in (is.0, is.1, (back_and_on layout items sound goes).sound)

-- what can be turned in a wider layout can be here, if its nodes are here
turns_narrower : (undone : Bool) (wide layout : TableLayout) (items : List Item) → IsSoundLayout layout → IsWider wide layout → NameNodesOf layout items → CanTurn undone wide items
    → CanTurn undone layout items × IsWider (turned_layout undone wide items) (turned_layout undone layout items) × IsSoundLayout (turned_layout undone layout items)
turns_narrower true wide layout items sound wider named goes = let is = narrower_on wide layout items sound wider named goes in (is.0, is.1, (on_and_back layout items sound is.0).sound)
turns_narrower false wide layout items sound wider named goes = let is = narrower_back wide layout items sound wider named goes in (is.0, is.1, (back_and_on layout items sound is.0).sound)

-- turning it makes of both what makes of the one a wider table than of the other
turns_extends : (wide table : TableValue) (kept : Record) → Extends wide table → IsWider (turned_layout kept.undone wide.layout kept.items) (turned_layout kept.undone table.layout kept.items)
    → Extends (turn wide kept) (turn table kept)
unfolding turn
turns_extends wide table kept extends wider = record { rules = extends.rules; rings = wider.rings; nodes = wider.nodes }

-- the tables that result are the same
turns_same : (wide table : TableValue) (kept : Record) → Extends wide table → IsWider (turned_layout kept.undone wide.layout kept.items) (turned_layout kept.undone table.layout kept.items)
    → IsSoundLayout (turned_layout kept.undone table.layout kept.items) → collation (turn wide kept) ≡ collation (turn table kept)
unfolding turn
turns_same wide table kept extends wider sound =
    same_collation (turn table kept) (turn wide kept) (sym extends.rules) sound
    (wider_linked (turned_layout kept.undone wide.layout kept.items) (turned_layout kept.undone table.layout kept.items) sound wider)

-- a record that fits a table fits each that extends it
pub records_wider : RecordsFitWider
records_wider wide table kept is_wide is extends fits =
    let turns = turns_wider kept.undone wide.layout table.layout kept.items is.sound (record { rings = extends.rings; nodes = extends.nodes }) fits.goes in
    record {
      fits = record { few = fits.few; goes = turns.0; well_formed = subst (λ it. IsWellFormed it) (sym (turns_same wide table kept extends turns.1 turns.2)) fits.well_formed };
      extends = turns_extends wide table kept extends turns.1;
    }

-- a record that fits a table fits each that this one extends, if that has the nodes that the record names
pub records_where_named : RecordsFitWhereNamed
records_where_named wide table kept is_wide is extends named fits =
    let turns = turns_narrower kept.undone wide.layout table.layout kept.items is.sound (record { rings = extends.rings; nodes = extends.nodes }) named fits.goes in
    record {
      fits = record { few = fits.few; goes = turns.0; well_formed = subst (λ it. IsWellFormed it) (turns_same wide table kept extends turns.1 turns.2) fits.well_formed };
      extends = turns_extends wide table kept extends turns.1;
    }

-- a record in force that fits a table fits each that this one extends
pub records_narrower : RecordsFitNarrower
records_narrower wide table kept is_wide is extends in_force fits =
    let back : CanTurnBack wide.layout kept.items = subst (λ undone. CanTurn undone wide.layout kept.items) in_force fits.goes in
    let named : NameNodesOf table.layout kept.items =
    λ node there. is.sound.laid.made node (ap (λ rings. is_in rings node) (sym extends.rings) ∙ named_linked wide.layout kept.items back node there) in
    records_where_named wide table kept is_wide is extends named fits
