-- What a session keeps beside its table (the project's own): what is kept is true of the table now.
use Rattle.std.specs.Prelude.{◌≡◌, ◌+◌, ◌/◌, ℕ, nat_le, if◌then◌else◌, List, length}
use Rattle.std.specs.Prelude.{true, Option, Some, None, is_some, unwrap_or}
use Rattle.coll_nodes.specs.NodeNumbers.{AreNumbersOf}
use Rattle.coll_nodes.specs.Table.{Collation, entries_of}
use Rattle.coll_nodes.specs.TableLayout.{TableLayout}
use Rattle.coll_ranks.specs.Ranks.{RanksValue, AreRanksOf}

-- the ranks, if they were made; the places of entries, by their nodes, if they are here; and how many characters were looked up by
-- themselves since the last change
pub record KeptValue : Type 0 where
  pub ranks : Option RanksValue
  pub places : Option (List ℕ)
  pub looked : ℕ

-- there are no ranks, or they are those of this table
abbrev pub AreRanksIfAny : Option RanksValue → Collation → Type 0
AreRanksIfAny None table = Unit {0}
AreRanksIfAny (Some ranks) table = AreRanksOf ranks table

-- there are no places, or they are those of this layout
abbrev pub ArePlacesIfAny : Option (List ℕ) → TableLayout → Type 0
ArePlacesIfAny None layout = Unit {0}
ArePlacesIfAny (Some places) layout = AreNumbersOf places layout

-- what is kept is true of this table, which has this layout
pub record IsKeptFor (kept : KeptValue) (table : Collation) (layout : TableLayout) : Type 0 where
  pub true_ranks : AreRanksIfAny kept.ranks table
  pub true_places : ArePlacesIfAny kept.places layout

-- nothing was kept yet
abbrev pub kept_nothing : KeptValue
kept_nothing = record { ranks = None; places = None; looked = 0 }

-- a look can be served: by the ranks, or by the places
abbrev pub CanServe : Option RanksValue → Option (List ℕ) → Type 0
CanServe None places = is_some places ≡ true
CanServe (Some ranks) places = Unit {0}

-- the most characters that are looked up by themselves between two changes: 64, and one more for each 32 entries
abbrev pub most_looked : Collation → ℕ
most_looked table = 64 + length (entries_of table) / 32

-- the characters that were looked up by themselves with those of a further look, if it is to be a short one
abbrev pub with_look : Collation → (looked further : ℕ) → Option ℕ
with_look table looked further = if nat_le (looked + further) (most_looked table) then Some (looked + further) else None

-- how many were looked up so behind a look, which is no short one where there are ranks
abbrev pub looked_after : Collation → KeptValue → (further : ℕ) → ℕ
looked_after table kept further = if is_some kept.ranks then kept.looked else unwrap_or (with_look table kept.looked further) kept.looked
