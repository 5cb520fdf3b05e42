-- The text of a table in the form that `localedef` takes, as `Table::export` writes it: another one that `reads` gives the table
-- back from. `script`, and the name of a section before the rules, are glibc's.
--
-- It differs from the canonical text in its sections alone: each has an `order_start` and an `order_end` of its own, and the names
-- of all are told before the first, since `localedef` takes no name that it doesn't know yet.
use Rattle.std.specs.Prelude.{◌≡◌, Ok, ℕ, List, [], ◌∷◌, ◌++◌, map, codes, Option, Some, None}
use Rattle.std.specs.List.{flat_map}
use Rattle.coll_lex.specs.Characters.{semicolon}
use Rattle.coll_lex.specs.Spelling.{spelled_symbol}
use Rattle.coll_syntax.specs.declared.rules.Rule.{Rule}
use Rattle.coll_nodes.specs.Table.{Collation, Section, section_names}
use Rattle.coll_nodes.specs.WellFormed.{IsWellFormed}
use Rattle.coll_texts.specs.CanonicalText.{spelled_joined, spelled_rule, declaration_line, entry_line, rules_line, opening_lines}
use Rattle.coll_texts.specs.CanonicalText.{line_bytes}
use Rattle.coll_texts.specs.Reading.{reads}

-- the line that tells the name of a section
abbrev pub script_line : List ℕ → List ℕ
script_line name = codes "script " ++ spelled_symbol name []

-- the line that begins a section: its name, if it has one, and the rules
abbrev pub start_line : List Rule → (name : Option (List ℕ)) → List ℕ
start_line rules None = rules_line rules
start_line rules (Some name) = codes "order_start " ++ spelled_symbol name (semicolon ∷ spelled_joined spelled_rule rules [])

-- the lines of a section
abbrev pub section_lines : List Rule → Section → List (List ℕ)
section_lines rules section = start_line rules section.name ∷ (map entry_line section.entries ++ codes "order_end" ∷ [])

-- the lines of a table that is exported
unfoldable pub exported_lines : Collation → List (List ℕ)
exported_lines table =
    opening_lines ++ (map declaration_line table.declared
    ++ (map script_line (section_names table.sections)
    ++ (flat_map (section_lines table.rules) table.sections ++ codes "END LC_COLLATE" ∷ [])))

-- the text of a table that is exported: the bytes of its lines
unfoldable pub exported_text : Collation → List ℕ
exported_text table = flat_map line_bytes (exported_lines table)

-- the exported text of a well-formed table is read as that table
abbrev pub ExportedTablesAreReadBack : Type 0
ExportedTablesAreReadBack = (table : Collation) → IsWellFormed table → reads (exported_text table) ≡ Ok table
