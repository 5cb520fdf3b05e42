-- The undo of an accepted statement gives the table in which it was accepted.
use Rattle.std.proofs.Common.{◌≡◌, Bool, true, false, [], ◌∷◌, Result, Ok, Err, refl, subst, length}
use Rattle.std.specs.Prelude.{nat_le, if◌then◌else◌}
use Rattle.coll_syntax.specs.declared.statements.Statement.{Statement}
use Rattle.coll_nodes.specs.Table.{Collation}
use Rattle.coll_table.specs.Delta.{delta}
use Rattle.coll_table.specs.declared.refusals.Refusal.{Refusal}
use Rattle.coll_history.specs.Histories.{History, table_now, with_statement, judged_by, judged, put_again}
use Rattle.coll_history.specs.Laws.{Restores, UndoRestores}
use Rattle.coll_history.specs.Limits.{most_remaining}
use Rattle.coll_history.specs.declared.history_faults.BenchFault.TheVariants.{HistoryFull}
use Rattle.coll_history.proofs.HistoryLemmas.{taken_back_push}

-- the history before a statement, with the statement as the next to be put again
abbrev before_with : History → Statement → History
before_with h s = record { start = h.start; remaining = h.remaining; undone = s ∷ [] }

restores : (h : History) (s : Statement) → Restores h (with_statement h s) (before_with h s)
unfolding put_again
restores h s = record {
  is_undone = taken_back_push h.start h.remaining s [];
  table = refl;
  start = refl;
  remaining = refl;
  again = refl;
}

-- a statement that the table accepts, and none else, is added to the history
added_by : (h after : History) (s : Statement) (r : Result Collation Refusal) → judged_by h s r ≡ Ok after → with_statement h s ≡ after
added_by h after s (Ok table) e = cc
added_by h after s (Err reason) e = cc

added_if : (h after : History) (s : Statement) (full : Bool) → (if full then Err HistoryFull else judged_by h s (delta (table_now h) s)) ≡ Ok after → with_statement h s ≡ after
added_if h after s true e = cc
added_if h after s false e = added_by h after s (delta (table_now h) s) e

added : (h after : History) (s : Statement) → judged h s ≡ Ok after → with_statement h s ≡ after
unfolding judged
added h after s e = added_if h after s (nat_le most_remaining (length h.remaining)) e

pub undo_restores : UndoRestores
undo_restores before after s e = (before_with before s, subst (λ (h : History). Restores before h (before_with before s)) (added before after s e) (restores before s))
