-- Sections are known by what a walk through them visits.
use Rattle.std.proofs.Common.{◌≡◌, ℕ, List, [], ◌∷◌, ◌++◌, map, All, Option, Some, None, sym, ap, ap₂, ◌∙◌, refl, append-nil}
use Rattle.std.proofs.lemmas.List.Elements.{All-head, All-tail}
use Rattle.coll_nodes.specs.Table.{Section}
use Rattle.coll_nodes.specs.WellFormed.{IsNamed, FirstIsUnnamed}
use Rattle.coll_nodes.specs.Walks.{Visited, VisitedSection, VisitedEntry, visited, visited_in, visited_name}
use Rattle.coll_nodes.specs.declared.entries.Entry.{Entry}

-- a section of a name with these entries
abbrev made : Option (List ℕ) → List Entry → Section
made name entries = record { name = name; entries = entries }

-- the entries that are visited before the next section begins
abbrev entries_first : List Visited → List Entry
entries_first [] = []
entries_first (VisitedSection name ∷ items) = []
entries_first (VisitedEntry entry ∷ items) = entry ∷ entries_first items

-- the sections that begin
abbrev sections_later : List Visited → List Section
sections_later [] = []
sections_later (VisitedSection name ∷ items) = made (Some name) (entries_first items) ∷ sections_later items
sections_later (VisitedEntry entry ∷ items) = sections_later items

-- entries go first
entries_then : (entries : List Entry) (items : List Visited) → entries_first (map VisitedEntry entries ++ items) ≡ entries ++ entries_first items
entries_then [] items = refl
entries_then (entry ∷ entries) items = ap (λ es. entry ∷ es) (entries_then entries items)

-- and begin no section
sections_then : (entries : List Entry) (items : List Visited) → sections_later (map VisitedEntry entries ++ items) ≡ sections_later items
sections_then [] items = refl
sections_then (entry ∷ entries) items = sections_then entries items

-- a section with a name is visited by its name
named_visited : (section : Section) (name : List ℕ) (later : List Visited) → section.name ≡ Some name
    → visited_in section ++ later ≡ VisitedSection name ∷ (map VisitedEntry section.entries ++ later)
named_visited section name later e = ap (λ n. (visited_name n ++ map VisitedEntry section.entries) ++ later) e

-- sections with names begin with no entries
none_first : (sections : List Section) → All IsNamed sections → entries_first (visited sections) ≡ []
none_first [] h = refl
none_first (section ∷ later) h =
    let named = All-head IsNamed section later h in
    ap entries_first (named_visited section named.0 (visited later) named.1)

-- and are those that begin
all_later : (sections : List Section) → All IsNamed sections → sections_later (visited sections) ≡ sections
all_later [] h = refl
all_later (section ∷ later) h =
    let named = All-head IsNamed section later h in
    let others = All-tail IsNamed section later h in
    let entries = section.entries in
    let first : entries_first (map VisitedEntry entries ++ visited later) ≡ entries =
    entries_then entries (visited later) ∙ (ap (λ es. entries ++ es) (none_first later others) ∙ append-nil entries) in
    let rest : sections_later (map VisitedEntry entries ++ visited later) ≡ later = sections_then entries (visited later) ∙ all_later later others in
    ap sections_later (named_visited section named.0 (visited later) named.1) ∙ ap₂ (λ es ss. made (Some named.0) es ∷ ss) first rest
    ∙ ap (λ n. made n entries ∷ later) (sym named.1)

-- sections of which the first alone has no name are told by what is visited of them
told_by : (sections : List Section) → FirstIsUnnamed sections → made None (entries_first (visited sections)) ∷ sections_later (visited sections) ≡ sections
told_by [] h = absurd h
told_by (first ∷ others) h =
    let entries = first.entries in
    let all : visited (first ∷ others) ≡ map VisitedEntry entries ++ visited others = ap (λ n. (visited_name n ++ map VisitedEntry entries) ++ visited others) h.0 in
    let entered : entries_first (visited (first ∷ others)) ≡ entries =
    ap entries_first all ∙ (entries_then entries (visited others) ∙ (ap (λ es. entries ++ es) (none_first others h.1) ∙ append-nil entries)) in
    let begun : sections_later (visited (first ∷ others)) ≡ others = ap sections_later all ∙ (sections_then entries (visited others) ∙ all_later others h.1) in
    ap₂ (λ es ss. made None es ∷ ss) entered begun ∙ ap (λ n. made n entries ∷ others) (sym h.0)

-- two lists of such sections of which the same is visited are the same
pub sections_by_visits : (sections others : List Section) → FirstIsUnnamed sections → FirstIsUnnamed others → visited sections ≡ visited others → sections ≡ others
sections_by_visits sections others p q same =
    sym (told_by sections p) ∙ (ap (λ items. made None (entries_first items) ∷ sections_later items) same ∙ told_by others q)
