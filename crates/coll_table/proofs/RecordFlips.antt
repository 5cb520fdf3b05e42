-- A table that is what turning a record makes of another, but for its count of ring steps.
use Rattle.std.proofs.Common.{◌≡◌, ℕ, ◌++◌, not, List, length, take, drop, sym, ap, subst, ◌∙◌, refl, arith}
use Rattle.std.proofs.lemmas.List.{take-append-le}
use Rattle.std.proofs.Math.Seq.{take-length}
use Rattle.coll_syntax.specs.declared.rules.Rule.{Rule}
use Rattle.coll_table.proofs.RecordTurns.{records_turn}
use Rattle.coll_nodes.specs.Bodies.{BodyValue, value_of}
use Rattle.coll_table.specs.Record.{Fits, IsSame, turn, turned, turned_items, turned_layout}
use Rattle.coll_nodes.specs.SoundLayouts.{IsTable}
use Rattle.coll_nodes.specs.TableLayout.{TableLayout, TableValue, collation}
use Rattle.coll_nodes.specs.WellFormed.{IsWellFormed}
use Rattle.coll_table.specs.declared.records.Item.{Item}
use Rattle.coll_table.specs.declared.records.Record.{Record}

-- a list of which all members are written through a loan is what was written
pub all_written : {X : Type 0} (old new : List X) → length new ≡ length old → take (length old) (new ++ drop (length new) old) ≡ new
all_written old new same =
    take-append-le (length old) new (drop (length new) old) (omega (arith, same)) ∙ (ap (λ n. take n new) (sym same) ∙ take-length new)

-- a table with another count of ring steps
abbrev pub counted : TableValue → ℕ → TableValue
counted table steps = record table { steps = steps }

-- what fits a table fits it whatever its count
fits_counted : (table : TableValue) (kept : Record) (steps : ℕ) → Fits table kept → Fits (counted table steps) kept
unfolding turn collation
fits_counted table kept steps fits = record { few = fits.few; goes = fits.goes; well_formed = fits.well_formed }

-- what turning makes of it is the same but for the count
turn_counted : (table : TableValue) (kept : Record) (steps : ℕ) → turn (counted table steps) kept ≡ counted (turn table kept) steps
unfolding turn
turn_counted table kept steps = refl

-- it stands for the same table
collation_counted : (table : TableValue) (steps : ℕ) → collation (counted table steps) ≡ collation table
unfolding collation
collation_counted table steps = refl

-- a table and a record after a turn
pub record IsFlipped (table : TableValue) (kept : Record) (after : TableValue) (new : Record) : Type 0 where
  pub well_formed : IsWellFormed (collation after)
  pub same : IsSame after (turn table kept)
  pub is_turned : new ≡ turned table kept
  pub fits : Fits after new
  pub back : IsSame (turn after new) table

-- they are those of the turn, but for the count
flipped_with : (table : TableValue) (kept : Record) (steps : ℕ) → IsTable table → Fits table kept → IsFlipped table kept (counted (turn table kept) steps) (turned table kept)
flipped_with table kept steps is fits =
    let turns = records_turn table kept is fits in
    let back : turn (counted (turn table kept) steps) (turned table kept) ≡ counted table steps = turn_counted (turn table kept) (turned table kept) steps ∙ ap (λ t. counted t steps) turns.back in
    record {
      well_formed = subst (λ it. IsWellFormed it) (sym (collation_counted (turn table kept) steps)) turns.stands.well_formed;
      same = record { rules = refl; layout = refl };
      is_turned = refl;
      fits = fits_counted (turn table kept) (turned table kept) steps turns.fits;
      back = record { rules = ap (λ (t : TableValue). t.rules) back; layout = ap (λ (t : TableValue). t.layout) back };
    }

pub flipped : (table : TableValue) (kept : Record) (layout : TableLayout) (items : List Item) (steps : ℕ) → IsTable table → Fits table kept → layout ≡ turned_layout kept.undone table.layout kept.items
    → items ≡ turned_items kept.undone table.layout kept.items
    → IsFlipped table kept (record { rules = table.rules; layout = layout; steps = steps }) (record { undone = not kept.undone; items = items })
unfolding turn turned
flipped table kept layout items steps is fits is_layout is_items =
    subst (λ own. IsFlipped table kept (record { rules = table.rules; layout = layout; steps = steps }) (record { undone = not kept.undone; items = own })) (sym is_items)
    (subst (λ own. IsFlipped table kept (record { rules = table.rules; layout = own; steps = steps }) (turned table kept)) (sym is_layout) (flipped_with table kept steps is fits))

-- a body and a record that were turned
pub flipped_body : (rules : List Rule) (body new : BodyValue) (table : TableValue) (kept after : Record) → value_of rules body ≡ table → IsTable table → Fits table kept
    → new.layout ≡ turned_layout kept.undone body.layout kept.items → after.undone ≡ not kept.undone → after.items ≡ turned_items kept.undone body.layout kept.items
    → IsFlipped table kept (value_of rules new) after
flipped_body rules body new table kept after view is fits is_layout is_undone is_items =
    let layout : body.layout ≡ table.layout = ap (λ (t : TableValue). t.layout) view in
    let items : after.items ≡ turned_items kept.undone table.layout kept.items = is_items ∙ ap (λ l. turned_items kept.undone l kept.items) layout in
    let turned : new.layout ≡ turned_layout kept.undone table.layout kept.items = is_layout ∙ ap (λ l. turned_layout kept.undone l kept.items) layout in
    subst (λ own. IsFlipped table kept (record { rules = own; layout = new.layout; steps = new.steps }) after) (sym (ap (λ (t : TableValue). t.rules) view))
    (subst (λ own. IsFlipped table kept (record { rules = table.rules; layout = new.layout; steps = new.steps }) (record { undone = own; items = after.items })) (sym is_undone)
    (flipped table kept new.layout after.items new.steps is fits turned items))
