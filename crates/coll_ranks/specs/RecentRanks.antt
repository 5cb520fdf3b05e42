-- Ranks of a table that are kept, each with its identifier.
use denote.Ref.{Bor}
use Rattle.std.specs.Prelude.{◌≡◌, ◌+◌, ℕ, List, Option, Some, None, slice_get}
use Rattle.coll_syntax.specs.declared.identifiers.Id.{Id}
use Rattle.coll_nodes.specs.Table.{Collation}
use Rattle.coll_elements.specs.Rank.{known_rank}
use Rattle.coll_ranks.specs.declared.recent_ranks.RecentRank.{RecentRank}

-- a rank that is kept, if there is one, is that of its identifier
abbrev pub IsRecent : Collation → Option RecentRank → Type 0
IsRecent table None = Unit {0}
IsRecent table (Some kept) = kept.rank ≡ known_rank table kept.id.now

-- these are the identifiers of the first entries: each has its place among them, counted from 1, as its rank
abbrev pub AreFirst : Collation → List (Bor Id) → Type 0
AreFirst table ids = (place : ℕ) (id : Bor Id) → slice_get ids place ≡ Some id → known_rank table id.now ≡ place + 1
