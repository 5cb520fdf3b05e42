-- A walk through sections meets their entries, in order.
use Rattle.std.proofs.Common.{◌≡◌, ℕ, List, [], ◌∷◌, ◌++◌, length, map, Option, Some, None, sym, ap, ap₂, ◌∙◌, refl}
use Rattle.std.proofs.lemmas.Grind.{flat_map-append}
use Rattle.coll_texts.specs.BuilderStates.{BuilderState, entries_fault, weights_fault}
use Rattle.coll_texts.specs.SoundStates.{IsSoundBuilderState}
use Rattle.coll_nodes.specs.Table.{Section, joined_entries}
use Rattle.coll_nodes.specs.Walks.{Visited, VisitedEntry, visited_name, visited_in, visited, entry_visited, entries_visited}
use Rattle.coll_nodes.specs.declared.entries.Entry.{Entry}

-- those met of a list of entries are these
visited_each : (entries : List Entry) → entries_visited (map VisitedEntry entries) ≡ entries
visited_each [] = refl
visited_each (entry ∷ entries) = ap (λ es. entry ∷ es) (visited_each entries)

-- the name of a section is no entry
visited_behind : (name : Option (List ℕ)) (items : List Visited) → entries_visited (visited_name name ++ items) ≡ entries_visited items
visited_behind None items = refl
visited_behind (Some name) items = refl

-- those met in sections are those of the sections
pub visited_all : (sections : List Section) → entries_visited (visited sections) ≡ joined_entries sections
visited_all [] = refl
visited_all (section ∷ later) =
    flat_map-append entry_visited (visited_in section) (visited later)
    ∙ ap₂ (λ (xs ys : List Entry). xs ++ ys) (visited_behind section.name (map VisitedEntry section.entries) ∙ visited_each section.entries) (visited_all later)

-- each entry that is met has the number of its line
pub visited_numbered : (d : BuilderState) (numbers : List ℕ) (items : List Visited) → IsSoundBuilderState d → numbers ≡ d.numbers → items ≡ visited d.sections
    → length numbers ≡ length (entries_visited items)
visited_numbered d numbers items sound all walked = ap length all ∙ (sound.numbered ∙ ap length (sym (ap entries_visited walked ∙ visited_all d.sections)))

-- what is judged on a walk is what the weights are judged by
pub visited_judged : (now d : BuilderState) (numbers : List ℕ) (items : List Visited) → d ≡ now → numbers ≡ d.numbers → items ≡ visited d.sections → entries_fault now numbers (entries_visited items)
    ≡ weights_fault now
visited_judged now d numbers items same all walked =
    ap₂ (entries_fault now) all (ap entries_visited walked ∙ visited_all d.sections) ∙ ap (λ (s : BuilderState). entries_fault now s.numbers (joined_entries s.sections)) same
