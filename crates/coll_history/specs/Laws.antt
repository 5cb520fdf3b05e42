-- What follows from the definitions of a history, for every history and every statement.
use Rattle.std.specs.Prelude.{◌≡◌, Ok}
use Rattle.coll_syntax.specs.declared.statements.Statement.{Statement}
use Rattle.coll_history.specs.Histories.{History, judged, taken_back, put_again, table_now}

-- the undo of a statement: the table is the one that it was accepted in, what remains is what remained then, and a redo puts it
-- again
pub record Restores (before after undone : History) : Type 0 where
  pub is_undone : taken_back after ≡ Ok undone
  pub table : table_now undone ≡ table_now before
  pub start : undone.start ≡ before.start
  pub remaining : undone.remaining ≡ before.remaining
  pub again : put_again undone ≡ Ok after

-- what an accepted statement adds, the undo after it takes back
abbrev pub UndoRestores : Type 0
UndoRestores = (before after : History) (statement : Statement) → judged before statement ≡ Ok after → (undone : History)
    × Restores before after undone
