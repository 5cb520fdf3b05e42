-- Places of entries that are handed to a session and follow its table: which table they are those of.
use Rattle.std.specs.Prelude.{◌≡◌, ℕ, List, [], ◌∷◌, ◌++◌}
use Rattle.coll_nodes.specs.NodeNumbers.{AreNumbersOf}
use Rattle.coll_nodes.specs.TableLayout.{TableValue}
use Rattle.coll_table.specs.Record.{turn}
use Rattle.coll_history.specs.declared.following.Standing.{Standing}
use Rattle.coll_history.specs.declared.following.Standing.TheVariants.{Unknown, Now, BeforeStatement, BeforeUndo}
use Rattle.coll_history.specs.declared.histories.Kept.{Kept}

-- numbers are the places of entries in the table as it was before the last of these records was turned
abbrev pub AreBehindLast : List ℕ → TableValue → List Kept → Type 0
AreBehindLast numbers table kept = (rest : List Kept) (k : Kept) → kept ≡ rest ++ k ∷ [] → AreNumbersOf numbers (turn table k.change).layout

-- numbers are the places of entries in the table that they are said to be those of, which has these statements
abbrev pub ArePlaces : Standing → List ℕ → TableValue → (remaining undone : List Kept) → Type 0
ArePlaces Unknown numbers table remaining undone = Unit {0}
ArePlaces Now numbers table remaining undone = AreNumbersOf numbers table.layout
ArePlaces BeforeStatement numbers table remaining undone = AreBehindLast numbers table remaining
ArePlaces BeforeUndo numbers table remaining undone = AreBehindLast numbers table undone

-- numbers are said to be the places of entries in the table as it stands, and are, or nothing is said of them
abbrev pub AreCaughtUp : Standing → List ℕ → TableValue → Type 0
AreCaughtUp Unknown numbers table = Unit {0}
AreCaughtUp Now numbers table = AreNumbersOf numbers table.layout
AreCaughtUp BeforeStatement numbers table = ⊥
AreCaughtUp BeforeUndo numbers table = ⊥

-- which table the same numbers are those of once a statement was accepted
abbrev pub behind_statement : Standing → Standing
behind_statement Unknown = Unknown
behind_statement Now = BeforeStatement
behind_statement BeforeStatement = Unknown
behind_statement BeforeUndo = Unknown

-- once the last statement was taken back: what had not followed it needn't
abbrev pub behind_undo : Standing → Standing
behind_undo Unknown = Unknown
behind_undo Now = BeforeUndo
behind_undo BeforeStatement = Now
behind_undo BeforeUndo = Unknown

-- once the statement that was taken back last was put again
abbrev pub behind_redo : Standing → Standing
behind_redo Unknown = Unknown
behind_redo Now = BeforeStatement
behind_redo BeforeStatement = Unknown
behind_redo BeforeUndo = Now
