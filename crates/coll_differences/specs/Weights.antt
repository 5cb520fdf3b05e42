-- Entries that two tables have, with other weights in the second.
use Rattle.std.specs.Prelude.{Bool, false, if◌then◌else◌, not, List, Option, Some, None, filter}
use Rattle.coll_nodes.specs.Placement.{entry_at}
use Rattle.coll_nodes.specs.Walks.{Visited, VisitedSection, VisitedEntry}
use Rattle.coll_nodes.specs.declared.entries.Entry.{Entry}
use Rattle.coll_differences.specs.Sameness.{same_weights}

-- an entry has other weights than the one that was found
abbrev pub has_others : Option Entry → Entry → Bool
has_others None entry = false
has_others (Some found) entry = not (same_weights found.weights entry.weights)

-- an entry stands among others, with other weights
abbrev pub is_reweighted : List Entry → Entry → Bool
is_reweighted entries entry = has_others (entry_at entries entry.id) entry

-- the entries that stand among others, with other weights there
abbrev pub all_reweighted : (others entries : List Entry) → List Entry
all_reweighted others entries = filter (is_reweighted others) entries

-- the entry that a walk visits, if it visits one that stands among others, with other weights there
abbrev pub reweighted_visited : List Entry → Visited → Option Entry
reweighted_visited others (VisitedSection name) = None
reweighted_visited others (VisitedEntry entry) = if is_reweighted others entry then Some entry else None
