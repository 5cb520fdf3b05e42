-- Places that were handed to a session, over what it does with its table.
use Rattle.std.proofs.Common.{◌≡◌, ℕ, List, [], ◌∷◌, ◌++◌, reverse, refl, sym, ap, ◌∙◌, subst}
use Rattle.coll_nodes.specs.NodeNumbers.{AreNumbersOf}
use Rattle.coll_nodes.specs.SoundLayouts.{IsTable}
use Rattle.coll_nodes.specs.TableLayout.{TableValue}
use Rattle.coll_table.specs.Record.{turn}
use Rattle.coll_table.specs.RecordLaws.{RecordsTurnBack, RecordsFitNarrower, WiderNumberedAlike}
use Rattle.coll_history.specs.Following.{AreBehindLast, ArePlaces, AreCaughtUp, behind_redo, behind_statement, behind_undo}
use Rattle.coll_history.specs.Kept.{uncounted}
use Rattle.coll_history.specs.Withdrawing.{IsTurned}
use Rattle.coll_history.specs.declared.following.Standing.{Standing}
use Rattle.coll_history.specs.declared.following.Standing.TheVariants.{Unknown, Now, BeforeStatement, BeforeUndo}
use Rattle.coll_history.specs.declared.histories.Kept.{Kept}
use Rattle.coll_history.proofs.HistorySteps.{reversed, Accepts}

-- the places before a record was turned, whatever is counted
pub places_counted : (numbers : List ℕ) (t : TableValue) (k : Kept) → AreNumbersOf numbers (turn (uncounted t) k.change).layout → AreNumbersOf numbers (turn t k.change).layout
unfolding turn
places_counted numbers t k are = are

-- a list has one last statement
last_is : (before rest : List Kept) (k last : Kept) → before ++ k ∷ [] ≡ rest ++ last ∷ [] → k ≡ last
last_is before rest k last same =
    let turned : k ∷ reverse before ≡ last ∷ reverse rest = sym (reversed before k) ∙ (ap reverse same ∙ reversed rest last) in
    cc

-- places that have caught up are those that they are said to be, whatever statements there are
pub caught_up_places : (numbers : List ℕ) (table : TableValue) (remaining undone : List Kept) (s : Standing) → AreCaughtUp s numbers table → ArePlaces s numbers table remaining undone
caught_up_places numbers table remaining undone Unknown are = tt
caught_up_places numbers table remaining undone Now are = are
caught_up_places numbers table remaining undone BeforeStatement are = absurd are
caught_up_places numbers table remaining undone BeforeUndo are = absurd are

-- places that have caught up with a table have so with each table with the same layout
pub caught_up_over : (numbers : List ℕ) (table other : TableValue) (s : Standing) → other.layout ≡ table.layout → AreCaughtUp s numbers table → AreCaughtUp s numbers other
caught_up_over numbers table other Unknown same are = tt
caught_up_over numbers table other Now same are = subst (AreNumbersOf numbers) (sym same) are
caught_up_over numbers table other BeforeStatement same are = absurd are
caught_up_over numbers table other BeforeUndo same are = absurd are

-- places of a table are one behind, once a record was turned
behind_turned : (numbers : List ℕ) (table table1 : TableValue) (onto : List Kept) (k k1 : Kept) → IsTurned table k k1 table1 → AreNumbersOf numbers table.layout
    → AreBehindLast numbers table1 (onto ++ k1 ∷ [])
behind_turned numbers table table1 onto k k1 t are = λ rest last same.
    subst (λ (x : Kept). AreNumbersOf numbers (turn table1 x.change).layout) (last_is onto rest k1 last same)
    (subst (λ (x : TableValue). AreNumbersOf numbers x.layout) (sym t.back) are)

-- places that were one behind are those of the table, once the record was turned back
turned_to : (numbers : List ℕ) (table table1 : TableValue) (from : List Kept) (k k1 : Kept) → IsTurned table k k1 table1 → AreBehindLast numbers table (from ++ k ∷ [])
    → AreNumbersOf numbers table1.layout
turned_to numbers table table1 from k k1 t are = subst (λ (x : TableValue). AreNumbersOf numbers x.layout) (sym t.table_is) (are from k refl)

-- an undo
pub places_undone : (numbers : List ℕ) (table table1 : TableValue) (kept undone : List Kept) (k k1 : Kept) → IsTurned table k k1 table1
    → (s : Standing) → ArePlaces s numbers table (kept ++ k ∷ []) undone → ArePlaces (behind_undo s) numbers table1 kept (undone ++ k1 ∷ [])
places_undone numbers table table1 kept undone k k1 t Unknown are = tt
places_undone numbers table table1 kept undone k k1 t Now are = behind_turned numbers table table1 undone k k1 t are
places_undone numbers table table1 kept undone k k1 t BeforeStatement are = turned_to numbers table table1 kept k k1 t are
places_undone numbers table table1 kept undone k k1 t BeforeUndo are = tt

-- a redo
pub places_redone : (numbers : List ℕ) (table table1 : TableValue) (kept undone : List Kept) (k k1 : Kept) → IsTurned table k k1 table1
    → (s : Standing) → ArePlaces s numbers table kept (undone ++ k ∷ []) → ArePlaces (behind_redo s) numbers table1 (kept ++ k1 ∷ []) undone
places_redone numbers table table1 kept undone k k1 t Unknown are = tt
places_redone numbers table table1 kept undone k k1 t Now are = behind_turned numbers table table1 kept k k1 t are
places_redone numbers table table1 kept undone k k1 t BeforeStatement are = tt
places_redone numbers table table1 kept undone k k1 t BeforeUndo are = turned_to numbers table table1 undone k k1 t are

module _ (turns : RecordsTurnBack) (narrower : RecordsFitNarrower) (alike : WiderNumberedAlike) where
  -- the places before a statement that was accepted
  before_accepted : (numbers : List ℕ) (old after new : TableValue) (k : Kept) → Accepts old after new k → AreNumbersOf numbers old.layout → AreNumbersOf numbers (turn new k.change).layout
  before_accepted numbers old after new k a are =
      let narrow = narrower after new k.change a.after_is a.new_is a.given_up a.in_force a.fits in
      let turned_is : IsTable (turn new k.change) = (turns new k.change a.new_is narrow.fits).stands in
      (alike (turn after k.change) (turn new k.change) numbers turned_is narrow.extends).narrower ((alike (turn after k.change) old numbers a.old_is a.back).wider are)

  -- a statement
  pub places_accepted : (numbers : List ℕ) (old after new : TableValue) (kept undone : List Kept) (k : Kept) → Accepts old after new k
      → (s : Standing) → AreCaughtUp s numbers old → ArePlaces (behind_statement s) numbers new (kept ++ k ∷ []) undone
  places_accepted numbers old after new kept undone k a Unknown are = tt
  places_accepted numbers old after new kept undone k a Now are = λ rest last same.
      subst (λ (x : Kept). AreNumbersOf numbers (turn new x.change).layout) (last_is kept rest k last same) (before_accepted numbers old after new k a are)
  places_accepted numbers old after new kept undone k a BeforeStatement are = absurd are
  places_accepted numbers old after new kept undone k a BeforeUndo are = absurd are
