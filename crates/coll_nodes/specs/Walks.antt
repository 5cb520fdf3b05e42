-- A walk through the sections of a table: what it visits, in order.
use Rattle.std.specs.Prelude.{ℕ, List, [], ◌∷◌, ◌++◌, Option, Some, None, map}
use Rattle.std.specs.List.{flat_map}
use Rattle.coll_nodes.specs.declared.entries.Entry.{Entry}
use Rattle.coll_nodes.specs.Table.{Section}

-- what a walk visits: the name of a section, or an entry
pub data Visited : Type 0 where
  VisitedSection : List ℕ → Visited
  VisitedEntry : Entry → Visited

-- the name of a section, which the first has not
abbrev pub visited_name : Option (List ℕ) → List Visited
visited_name None = []
visited_name (Some name) = VisitedSection name ∷ []

-- what a walk visits of a section: its name, and then its entries
abbrev pub visited_in : Section → List Visited
visited_in section = visited_name section.name ++ map VisitedEntry section.entries

-- what a walk through sections visits
abbrev pub visited : List Section → List Visited
visited sections = flat_map visited_in sections

-- the entry that a walk visits, if it is one
abbrev pub entry_visited : Visited → List Entry
entry_visited (VisitedSection name) = []
entry_visited (VisitedEntry entry) = entry ∷ []

-- the entries among what a walk visits
abbrev pub entries_visited : List Visited → List Entry
entries_visited items = flat_map entry_visited items
