-- The parts of an exported text that are written one behind another. A walk meets the first section by no name, so each line that
-- begins a later one stands behind the `order_end` of the section before it.
use Rattle.std.specs.Prelude.{ℕ, List, [], ◌∷◌, ◌++◌, codes, Some}
use Rattle.std.specs.List.{flat_map}
use Rattle.coll_syntax.specs.declared.rules.Rule.{Rule}
use Rattle.coll_nodes.specs.declared.declarations.Declaration.{Declaration}
use Rattle.coll_nodes.specs.Walks.{Visited, VisitedSection, VisitedEntry}
use Rattle.coll_texts.specs.CanonicalText.{entry_line, rules_line, line_bytes}
use Rattle.coll_texts.specs.ExportedText.{script_line, start_line}
use Rattle.coll_texts.specs.PrintedParts.{opening_bytes, rules_bytes, symbol_bytes}

-- the lines before the first section of what a walk visits: that of a section's name
abbrev pub noted_bytes : Visited → List ℕ
noted_bytes (VisitedSection name) = line_bytes (script_line name)
noted_bytes (VisitedEntry entry) = []

-- the lines of what a walk visits, by those that begin a section
abbrev pub lines_visited : (begun : List ℕ → List (List ℕ)) → Visited → List (List ℕ)
lines_visited begun (VisitedSection name) = begun name
lines_visited begun (VisitedEntry entry) = entry_line entry ∷ []

-- the lines between two sections: the end of one, and the line that begins the next
abbrev pub next_lines : List Rule → (name : List ℕ) → List (List ℕ)
next_lines rules name = codes "order_end" ∷ start_line rules (Some name) ∷ []

-- what a walk visits, as bytes
abbrev pub walked_bytes : List Rule → Visited → List ℕ
walked_bytes rules item = flat_map line_bytes (lines_visited (next_lines rules) item)

-- the end of a section, and the line that begins the next, up to its rules
abbrev pub start_bytes : (name : List ℕ) → List ℕ
start_bytes name = codes "order_end\norder_start " ++ (symbol_bytes name ++ codes ";")

-- the end of a section, and the line that begins the next
abbrev pub next_bytes : List Rule → (name : List ℕ) → List ℕ
next_bytes rules name = start_bytes name ++ rules_bytes rules

-- the exported text of a table with these rules, that declares this, and of which a walk visits this, the names once before
abbrev pub exported_bytes : List Rule → List Declaration → (names items : List Visited) → List ℕ
exported_bytes rules declared names items =
    opening_bytes declared
    ++ (flat_map noted_bytes names
    ++ (line_bytes (rules_line rules) ++ (flat_map (walked_bytes rules) items ++ codes "order_end\nEND LC_COLLATE\n")))
