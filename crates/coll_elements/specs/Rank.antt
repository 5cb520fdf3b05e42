-- The rank of an identifier: its place in the order of a table (POSIX.1-2017, 7.3.2.4; the count from 1 is the project's own).
use Rattle.std.specs.Prelude.{ℕ, suc, List, Option, Some, None, length}
use Rattle.std.specs.Option.{option_or, unwrap_or}
use Rattle.coll_syntax.specs.declared.identifiers.Id.{Id}
use Rattle.coll_syntax.specs.declared.identifiers.Id.TheVariants.{Char, Named, Undefined}
use Rattle.coll_nodes.specs.Placement.{place_among}
use Rattle.coll_nodes.specs.Table.{Collation, entries_of}
use Rattle.coll_nodes.specs.declared.entries.Entry.{Entry}

-- the rank of an identifier without an entry: UNDEFINED stands behind all entries, and others have none (the project's own)
abbrev pub rank_unplaced : (entries : ℕ) → Id → Option ℕ
rank_unplaced entries (Char c) = None
rank_unplaced entries (Named name) = None
rank_unplaced entries Undefined = Some (suc entries)

-- the rank of an identifier: its place, from 1, in all sections joined
abbrev pub rank_among : List Entry → Id → Option ℕ
rank_among entries id = option_or (place_among entries id) (rank_unplaced (length entries) id)

-- the rank of an identifier in a table, if it has one
abbrev pub rank_of : Collation → Id → Option ℕ
rank_of table id = rank_among (entries_of table) id

-- the rank of an identifier, and 0 for one that has none
abbrev pub known_rank : Collation → Id → ℕ
known_rank table id = unwrap_or (rank_of table id) 0
