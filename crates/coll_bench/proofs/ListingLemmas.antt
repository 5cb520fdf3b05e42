-- The lines of all that a walk meets are the listing by sections.
use Rattle.std.proofs.Common.{◌≡◌, ℕ, ◌+◌, ◌≤◌, List, [], ◌∷◌, ◌++◌, Option, Some, None, length, map, suc, refl, sym, ap, ◌∙◌, append_assoc, length-append, arith}
use Rattle.coll_nodes.specs.declared.entries.Entry.{Entry}
use Rattle.coll_nodes.specs.Table.{Section, joined_entries}
use Rattle.coll_nodes.specs.Walks.{Visited, VisitedSection, VisitedEntry, visited, visited_name}
use Rattle.coll_bench.specs.Replies.{header, listed_line, listed_lines, listed_sections}
use Rattle.coll_bench.specs.Listing.{listed_visited, visited_line, rank_after}

entries_listed : (rank : ℕ) (entries : List Entry) (rest : List Visited) → listed_visited rank (map VisitedEntry entries ++ rest)
    ≡ listed_lines rank entries ++ listed_visited (rank + length entries) rest
unfolding listed_visited listed_lines
entries_listed rank [] rest =
    let same : rank ≡ rank + 0 = omega (arith) in
    ap (λ (n : ℕ). listed_visited n rest) same
entries_listed rank (entry ∷ entries) rest =
    let same : suc rank + length entries ≡ rank + suc (length entries) = omega (arith) in
    ap (λ (l : List ℕ). listed_line rank entry ++ l) (entries_listed (suc rank) entries rest ∙ ap (λ (n : ℕ). listed_lines (suc rank) entries ++ listed_visited n rest) same)
    ∙ sym (append_assoc (listed_line rank entry) (listed_lines (suc rank) entries) (listed_visited (rank + suc (length entries)) rest))

name_listed : (rank : ℕ) (name : Option (List ℕ)) (rest : List Visited) → listed_visited rank (visited_name name ++ rest) ≡ header name ++ listed_visited rank rest
unfolding listed_visited
name_listed rank None rest = refl
name_listed rank (Some name) rest = refl

-- the lines of a walk through sections
pub sections_listed : (rank : ℕ) (sections : List Section) → listed_visited rank (visited sections) ≡ listed_sections rank sections
unfolding listed_visited listed_sections
sections_listed rank [] = refl
sections_listed rank (section ∷ later) =
    ap (listed_visited rank) (append_assoc (visited_name section.name) (map VisitedEntry section.entries) (visited later))
    ∙ name_listed rank section.name (map VisitedEntry section.entries ++ visited later)
    ∙ ap (λ (l : List ℕ). header section.name ++ l)
    (entries_listed rank section.entries (visited later) ∙ ap (λ (l : List ℕ). listed_lines rank section.entries ++ l) (sections_listed (rank + length section.entries) later))

length-mapped : (entries : List Entry) → length (map VisitedEntry entries) ≡ length entries
length-mapped [] = refl
length-mapped (entry ∷ entries) = ap suc (length-mapped entries)

length-name : (name : Option (List ℕ)) → length (visited_name name) ≤ 1
length-name None = omega (arith)
length-name (Some name) = omega (arith)

-- no more is met than there are entries and sections
pub length-visited : (sections : List Section) → length (visited sections) ≤ length (joined_entries sections) + length sections
length-visited [] = omega (arith)
length-visited (section ∷ later) =
    let entries = map VisitedEntry section.entries in
    omega (
      arith,
      length-append (visited_name section.name ++ entries) (visited later),
      length-append (visited_name section.name) entries,
      length-mapped section.entries,
      length-name section.name,
      length-append section.entries (joined_entries later),
      length-visited later,
    )

-- the lines of what is met begin with that of the first
pub visited_more : (rank next : ℕ) (first : Visited) (left later : List Visited) → left ≡ first ∷ later → next ≡ rank_after rank first
    → listed_visited rank left ≡ visited_line rank first ++ listed_visited next later
unfolding listed_visited
visited_more rank next first left later steps counted =
    ap (listed_visited rank) steps ∙ ap (λ (n : ℕ). visited_line rank first ++ listed_visited n later) (sym counted)

-- where nothing is met no line follows
pub visited_none : (rank : ℕ) (left : List Visited) → left ≡ [] → listed_visited rank left ≡ []
unfolding listed_visited
visited_none rank left none = ap (listed_visited rank) none

-- the rank of the next entry is at most one higher
pub rank-after : (rank : ℕ) (first : Visited) → rank_after rank first ≤ suc rank
rank-after rank (VisitedSection name) = omega (arith)
rank-after rank (VisitedEntry entry) = omega (arith)
