-- Items that are done make the table that a statement makes; and the record of them fits it, and takes it back.
use Rattle.std.proofs.Common.{◌≡◌, ℕ, suc, ◌≤◌, true, false, List, [], ◌∷◌, ◌++◌, Option, Some, None, length, sym, ap, ap₂, subst, ◌∙◌, refl}
use Rattle.std.specs.Option.{option_or}
use Rattle.coll_order.specs.Layout.{is_in, place_from}
use Rattle.coll_order.specs.Lists.{same_node, has_node}
use Rattle.coll_order.specs.declared.places.NodeId.{NodeId}
use Rattle.coll_order.specs.declared.places.Place.{Place}
use Rattle.coll_order.proofs.ListLemmas.{neither}
use Rattle.coll_syntax.specs.declared.rules.Rule.{Rule}
use Rattle.coll_table.proofs.ItemEntries.{others_weighed}
use Rattle.coll_table.proofs.TurningRings.{is_in_relinked}
use Rattle.coll_table.specs.Record.{CanTurn, Fits, IsSame, added_by, added_nodes, item_added, named_nodes, turn, turned, turned_layout, without_loose, without_nodes}
use Rattle.coll_table.specs.RecordLaws.{RecordsTurnBack}
use Rattle.coll_nodes.specs.SoundLayouts.{IsSoundLayout, IsTable}
use Rattle.coll_nodes.specs.Table.{Collation}
use Rattle.coll_nodes.specs.TableLayout.{TableLayout, TableValue, collation, content_of, declared_at, sections_at}
use Rattle.coll_nodes.specs.Moving.{moved_rings}
use Rattle.coll_table.specs.Turning.{CanDo, item_on, items_on, placed_at, placed_items, steps_of, turned_on}
use Rattle.coll_nodes.specs.WellFormed.{IsWellFormed}
use Rattle.coll_table.specs.declared.records.Item.{Item}
use Rattle.coll_table.specs.declared.records.Record.{Record}

-- a table with another layout
abbrev pub with_layout : TableValue → TableLayout → TableValue
with_layout table layout = record table { layout = layout }

-- items can be done, which makes a table and takes ring steps
pub record AreDone (table : TableValue) (items : List Item) (after : Collation) (count : ℕ) : Type 0 where
  pub goes : CanDo table.layout items
  pub made : collation (with_layout table (turned_on table.layout items)) ≡ after
  pub steps : steps_of (placed_items table.layout items) ≡ count

-- Items with their places.

-- there are as many
pub length_placed : (layout : TableLayout) (items : List Item) → length (placed_items layout items) ≡ length items
unfolding placed_items
length_placed layout [] = refl
length_placed layout (item ∷ items) = ap suc (length_placed (item_on layout item) items)

-- they make the same layout
pub on_placed : (layout : TableLayout) (items : List Item) → turned_on layout (placed_items layout items) ≡ turned_on layout items
unfolding placed_items turned_on
on_placed layout [] = refl
on_placed layout (item ∷ items) = on_placed (item_on layout item) items

-- and add the same nodes
added_placed : (layout : TableLayout) (items : List Item) → added_nodes (placed_items layout items) ≡ added_nodes items
unfolding added_nodes placed_items
added_placed layout [] = refl
added_placed layout (item ∷ items) = ap₂ (λ (first later : List NodeId). first ++ later) (by item.old) (added_placed (item_on layout item) items) where
  among : (found : Option Place) (place : Place) → added_by (option_or found (Some place)) item.new item.node ≡ []
  among None place = refl
  among (Some own) place = refl

  by : (had : Option Place) → added_by (placed_at had layout item.node) item.new item.node ≡ added_by had item.new item.node
  by None = refl
  by (Some place) = among (place_from 0 layout.rings item.node) place

-- once they are done, too
added_on : (layout : TableLayout) (items : List Item) → added_nodes (items_on layout items) ≡ added_nodes items
unfolding added_nodes items_on
added_on layout [] = refl
added_on layout (item ∷ items) = ap (λ later. item_added item ++ later) (added_on (item_on layout item) items)

-- What items leave.

-- a node that isn't moved stays in the rings, or out of them
pub moved_others : (gets to : Option Place) (rings : List (List NodeId)) (node other : NodeId) → same_node other node ≡ false → is_in (moved_rings gets rings node to) other ≡ is_in rings other
moved_others None to rings node other differ = refl
moved_others (Some place) to rings node other differ = is_in_relinked rings node other to differ

-- one that no item names stays where it is, and what it is
pub others_still : (layout : TableLayout) (items : List Item) (node : NodeId) → has_node (named_nodes items) node ≡ false
    → (is_in (turned_on layout items).rings node ≡ is_in layout.rings node) × (content_of (turned_on layout items) node ≡ content_of layout node)
unfolding turned_on
others_still layout [] node absent = (refl, refl)
others_still layout (item ∷ items) node absent =
    let apart = neither (same_node node item.node) (has_node (named_nodes items) node) absent in
    let later = others_still (item_on layout item) items node apart.1 in
    (later.0 ∙ moved_others item.new item.new layout.rings item.node node apart.0, later.1 ∙ others_weighed item.node node item.weights layout.nodes apart.0)

-- Tables that are the same but for their counts.

-- they read alike
pub same_read : (a b : TableValue) → IsSame a b → collation a ≡ collation b
unfolding collation
same_read a b same = ap₂ (λ (rules : List Rule) (layout : TableLayout). record { rules = rules; declared = declared_at layout; sections = sections_at layout }) same.rules same.layout

-- a record turns them alike
pub same_turn : (a b : TableValue) (kept : Record) → IsSame a b → IsSame (turn a kept) (turn b kept)
unfolding turn
same_turn a b kept same = record { rules = same.rules; layout = ap (λ layout. turned_layout kept.undone layout kept.items) same.layout }

-- they are the same without some nodes
pub same_without : (a b : TableValue) (nodes : List NodeId) → IsSame a b → IsSame (without_nodes a nodes) (without_nodes b nodes)
unfolding without_nodes
same_without a b nodes same = record { rules = same.rules; layout = ap (λ layout. without_loose layout nodes) same.layout }

-- what fits one fits the other
pub same_fits : (a b : TableValue) (kept : Record) → IsSame a b → Fits b kept → Fits a kept
same_fits a b kept same fits = record {
  few = fits.few;
  goes = subst (λ layout. CanTurn kept.undone layout kept.items) (sym same.layout) fits.goes;
  well_formed = subst IsWellFormed (sym (same_read (turn a kept) (turn b kept) (same_turn a b kept same))) fits.well_formed;
}

-- one is a table where the other is
pub same_table : (a b : TableValue) → IsSame a b → IsTable b → IsTable a
same_table a b same is = record { sound = subst IsSoundLayout (sym same.layout) is.sound; well_formed = subst IsWellFormed (sym (same_read a b same)) is.well_formed }

-- The record of a statement.

-- the items as they are once a statement is done, in force
abbrev pub record_of : TableLayout → List Item → Record
record_of layout items = record { undone = false; items = items_on layout (placed_items layout items) }

-- it has added the nodes of the items
pub added_record : (layout : TableLayout) (items : List Item) → added_nodes (record_of layout items).items ≡ added_nodes items
added_record layout items = added_on layout (placed_items layout items) ∙ added_placed layout items

-- it fits the table that is now, takes it back, and takes ring steps
pub record RecordDone (table now : TableValue) (items : List Item) (count : ℕ) : Type 0 where
  pub stands : IsTable now
  pub fits : Fits now (record_of table.layout items)
  pub back : IsSame (turn now (record_of table.layout items)) table
  pub steps : steps_of (items_on table.layout (placed_items table.layout items)) ≡ count

pub done_record : RecordsTurnBack → (table now : TableValue) (items : List Item) (after : Collation) (count : ℕ) → IsTable table → AreDone table items after count → IsWellFormed after
    → length items ≤ 4096
    → now.rules ≡ table.rules → now.layout ≡ turned_on table.layout items → RecordDone table now items count
unfolding turn turned
done_record turns table now items after count is done well few rules layout =
    let undone : Record = record { undone = true; items = placed_items table.layout items } in
    let made : collation (turn table undone) ≡ after = ap (λ (l : TableLayout). collation (with_layout table l)) (on_placed table.layout items) ∙ done.made in
    let fits : Fits table undone = record {
      few = subst (λ n. n ≤ 4096) (sym (length_placed table.layout items)) few;
      goes = done.goes;
      well_formed = subst IsWellFormed (sym made) well;
    } in
    let back = turns table undone is fits in
    let same : IsSame now (turn table undone) = record { rules = rules; layout = layout ∙ sym (on_placed table.layout items) } in
    let turned_same = same_turn now (turn table undone) (record_of table.layout items) same in
    record {
      stands = same_table now (turn table undone) same back.stands;
      fits = same_fits now (turn table undone) (record_of table.layout items) same back.fits;
      back = record { rules = turned_same.rules ∙ ap (λ (t : TableValue). t.rules) back.back; layout = turned_same.layout ∙ ap (λ (t : TableValue). t.layout) back.back };
      steps = back.steps ∙ done.steps;
    }
