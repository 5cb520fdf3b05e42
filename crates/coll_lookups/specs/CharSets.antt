-- Characters of a set, read from their marks.
--
-- No public clause cites this module: it is the view of a set.
use Rattle.std.specs.Prelude.{ℕ, zero, suc, ◌*◌, Bool, false, cond, List, [], ◌∷◌, length}
use Rattle.coll_lookups.specs.CharPages.{slot_of}

-- those of so many code points that are marked, the last of them first
unfoldable pub marked_below : (ℕ → Bool) → (count : ℕ) → List ℕ
marked_below mark zero = []
marked_below mark (suc c) = cond (mark c) (c ∷ marked_below mark c) (marked_below mark c)

-- the characters that are marked in pages
abbrev pub marked_at : List ℕ → List Bool → List ℕ
marked_at pages marks = marked_below (slot_of false pages marks) (length pages * 128)
