-- The lines of a listing, as a walk through the table meets its sections and entries.
use Rattle.std.specs.Prelude.{ℕ, suc, List, [], ◌∷◌, ◌++◌}
use Rattle.coll_nodes.specs.Walks.{Visited, VisitedSection, VisitedEntry}
use Rattle.coll_bench.specs.Replies.{section_line, listed_line}

-- the line of what is visited: a section's name, or an entry with its rank
abbrev pub visited_line : ℕ → Visited → List ℕ
visited_line rank (VisitedSection name) = section_line name
visited_line rank (VisitedEntry entry) = listed_line rank entry

-- the rank of the next entry
abbrev pub rank_after : ℕ → Visited → ℕ
rank_after rank (VisitedSection name) = rank
rank_after rank (VisitedEntry entry) = suc rank

-- the lines of all that is visited, from a rank on
unfoldable pub listed_visited : ℕ → List Visited → List ℕ
listed_visited rank [] = []
listed_visited rank (first ∷ later) = visited_line rank first ++ listed_visited (rank_after rank first) later
