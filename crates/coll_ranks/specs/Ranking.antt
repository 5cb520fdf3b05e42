-- How the ranks of a table are found on a walk through it.
use Rattle.std.specs.Prelude.{◌≡◌, ◌+◌, ℕ, suc, if◌then◌else◌, List, [], ◌∷◌, Option, Some, None}
use Rattle.std.specs.Option.{option_or}
use Rattle.coll_syntax.specs.Identifier.{same_id}
use Rattle.coll_syntax.specs.declared.identifiers.Id.{Id}
use Rattle.coll_syntax.specs.declared.identifiers.Id.TheVariants.{Char}
use Rattle.coll_nodes.specs.Table.{Collation}
use Rattle.coll_nodes.specs.Walks.{Visited, VisitedSection, VisitedEntry}
use Rattle.coll_nodes.specs.declared.entries.Entry.{Entry}
use Rattle.coll_elements.specs.Rank.{rank_of, known_rank}
use Rattle.coll_ranks.specs.Ranks.{RanksById, rank_of_char, rank_with}

-- the last place of an identifier among entries, before which so many others stand
abbrev pub last_place : (before : ℕ) → List Entry → Id → Option ℕ
last_place before [] id = None
last_place before (entry ∷ entries) id =
    option_or (last_place (suc before) entries id) (if same_id id entry.id then Some (suc before) else None)

-- what a walk visits, if it is an entry, has the next rank in a table, behind so many others
abbrev pub HasNextRank : Collation → (before : ℕ) → Visited → Type 0
HasNextRank table before (VisitedSection name) = Unit {0}
HasNextRank table before (VisitedEntry entry) = known_rank table entry.id ≡ before + 1

-- these are the ranks of the characters of a table
abbrev pub AreCharRanksOf : (characters : List ℕ) → Collation → Type 0
AreCharRanksOf characters table = (c : ℕ) → rank_of_char characters c ≡ rank_of table (Char c)

-- these are the ranks of the identifiers of a table
abbrev pub AreIdRanksOf : RanksById → Collation → Type 0
AreIdRanksOf ids table = (id : Id) → rank_with ids id ≡ rank_of table id
