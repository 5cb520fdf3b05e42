-- Numbers of nodes, as a list by their keys, and what becomes of them where an entry goes from one place to another.
use Rattle.std.specs.Prelude.{ℕ, ◌+◌, ◌-◌, ◌^◌, ◌<◌, ◌≤◌, nat_lt, nat_le, min, if◌then◌else◌, List, [], ◌∷◌, All, drop, length, map, slice_index_or}
use Rattle.coll_order.specs.declared.places.NodeId.{NodeId}
use Rattle.coll_lookups.specs.declared.entry_numbers.Move.{Move}
use Rattle.coll_lookups.specs.declared.entry_numbers.Slot.{Slot}

-- the number that is kept for a node's key; 0 where none is
abbrev pub number_at : List ℕ → NodeId → ℕ
number_at numbers node = slice_index_or numbers node.key 0

-- a number where a place is left: each above it is one less
abbrev pub lowered : (from number : ℕ) → ℕ
lowered from number = if nat_lt from number then number - 1 else number

-- a number where a place is taken: each from it on is one more, as far as there are numbers
abbrev pub raised : (to number : ℕ) → ℕ
raised to number = if nat_le to number then min (number + 1) (2 ^ 32 - 1) else number

-- a number where one place is left and then another is taken
abbrev pub moved : (from to number : ℕ) → ℕ
moved from to number = raised to (lowered from number)

-- a number behind some moves, from the first to the last
unfoldable pub behind_moves : List Move → (number : ℕ) → ℕ
behind_moves [] number = number
behind_moves (first ∷ later) number = behind_moves later (moved first.from first.to number)

-- the number of a slot, where so many moves were before those that are kept: none where it is stale, which it is where it has not
-- had these; else behind the moves that it hasn't had yet
abbrev pub number_of : (before : ℕ) → List Move → Slot → ℕ
number_of before moves slot = if nat_lt slot.had before then 0 else behind_moves (drop (slot.had - before) moves) slot.number

-- a slot in which no number is kept, and which has had so many moves
abbrev pub blank : (had : ℕ) → Slot
blank had = record { number = 0; had = had }

-- the numbers of slots
abbrev pub numbers_of : (before : ℕ) → List Move → List Slot → List ℕ
numbers_of before moves slots = map (number_of before moves) slots

-- all moves since ever can be counted, and no slot has had more than there were
pub record AreCounted (before : ℕ) (moves : List Move) (slots : List Slot) : Type 0 where
  pub few : before + length moves < 2 ^ 32
  pub had_only : All (λ (slot : Slot). slot.had ≤ before + length moves) slots
