-- What is told of a table that is exported is told of what a walk visits.
use Rattle.std.proofs.Common.{◌≡◌, ℕ, true, false, if◌then◌else◌, List, [], ◌∷◌, ◌++◌, sym, ap, ◌∙◌, refl}
use Rattle.std.specs.List.{flat_map}
use Rattle.std.proofs.lemmas.Grind.{flat_map-append}
use Rattle.coll_nodes.specs.Table.{Collation}
use Rattle.coll_nodes.specs.Walks.{Visited, visited}
use Rattle.coll_import.specs.Exports.{visits_character, behind_character, symbol_visited, symbols_behind, behind_line, export_told, visited_told}

-- the lines of what is visited are those of its symbols
told_each : (file : List ℕ) (table : Collation) (items : List Visited) → flat_map (behind_line file) (flat_map (symbol_visited table.declared) items) ≡ flat_map
    (visited_told file table.declared) items
told_each file table [] = refl
told_each file table (item ∷ items) =
    flat_map-append (behind_line file) (symbol_visited table.declared item) (flat_map (symbol_visited table.declared) items)
    ∙ ap (λ l. visited_told file table.declared item ++ l) (told_each file table items)

pub told_visited : (file : List ℕ) (table : Collation) → export_told file table ≡ flat_map (visited_told file table.declared) (behind_character (visited table.sections))
unfolding export_told symbols_behind
told_visited file table = told_each file table (behind_character (visited table.sections))

-- a step of a walk that visits a character, and one that doesn't
pub at_character : (left later : List Visited) (item : Visited) → left ≡ item ∷ later → visits_character item ≡ true → behind_character left ≡ later
at_character left later item step is = ap behind_character step ∙ ap (λ b. if b then later else behind_character later) is

pub before_character : (left later : List Visited) (item : Visited) → left ≡ item ∷ later → visits_character item ≡ false → behind_character later ≡ behind_character left
before_character left later item step is = sym (ap behind_character step ∙ ap (λ b. if b then later else behind_character later) is)
