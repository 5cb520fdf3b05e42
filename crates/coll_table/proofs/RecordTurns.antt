-- A record that fits a table turns back.
use Rattle.std.proofs.Common.{◌≡◌, ◌≤◌, Bool, true, false, not, List, length, sym, ap, subst}
use Rattle.coll_table.proofs.TurningBack.{added_back, added_on, back_and_on, on_and_back, steps_back, steps_on, length_back, length_on}
use Rattle.coll_table.specs.Record.{CanTurn, added_nodes, turn, turned, turned_items, turned_layout}
use Rattle.coll_table.specs.RecordLaws.{RecordsAddAlike, RecordsTurnBack}
use Rattle.coll_nodes.specs.SoundLayouts.{IsSoundLayout}
use Rattle.coll_nodes.specs.TableLayout.{TableLayout, TableValue, collation}
use Rattle.coll_table.specs.Turning.{steps_of}
use Rattle.coll_nodes.specs.WellFormed.{IsWellFormed}
use Rattle.coll_table.specs.declared.records.Item.{Item}

-- items that can be turned give a sound layout, can be turned again, and give back the layout
pub record ItemsTurn (undone : Bool) (layout : TableLayout) (items : List Item) : Type 0 where
  pub sound : IsSoundLayout (turned_layout undone layout items)
  pub goes : CanTurn (not undone) (turned_layout undone layout items) (turned_items undone layout items)
  pub gives : turned_layout (not undone) (turned_layout undone layout items) (turned_items undone layout items) ≡ layout
  pub steps : steps_of (turned_items undone layout items) ≡ steps_of items
  pub len : length (turned_items undone layout items) ≡ length items

pub items_turn : (undone : Bool) (layout : TableLayout) (items : List Item) → IsSoundLayout layout → CanTurn undone layout items → ItemsTurn undone layout items
items_turn true layout items sound goes =
    let is = on_and_back layout items sound goes in
    record { sound = is.sound; goes = is.goes; gives = is.gives; steps = steps_on layout items; len = length_on layout items }
items_turn false layout items sound goes =
    let is = back_and_on layout items sound goes in
    record { sound = is.sound; goes = is.goes; gives = is.gives; steps = steps_back layout items; len = length_back layout items }

-- a record that fits turns back
pub records_turn : RecordsTurnBack
unfolding turn turned
records_turn table kept is fits =
    let turns = items_turn kept.undone table.layout kept.items is.sound fits.goes in
    let back : turn (turn table kept) (turned table kept) ≡ table = ap (λ layout. record table { layout = layout }) turns.gives in
    record {
      stands = record { sound = turns.sound; well_formed = fits.well_formed };
      fits = record {
        few = subst (λ n. n ≤ 4096) (sym turns.len) fits.few;
        goes = turns.goes;
        well_formed = subst (λ (t : TableValue). IsWellFormed (collation t)) (sym back) is.well_formed;
      };
      back = back;
      steps = turns.steps;
    }

-- and has the nodes that it added before
pub records_add : RecordsAddAlike
unfolding turned
records_add table kept = by kept.undone where
  by : (undone : Bool) → added_nodes (turned_items undone table.layout kept.items) ≡ added_nodes kept.items
  by true = added_on table.layout kept.items
  by false = added_back table.layout kept.items
