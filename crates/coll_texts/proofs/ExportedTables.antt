-- The exported text of a table is read as that table.
use Rattle.std.proofs.Common.{ℕ, List, [], ◌∷◌, map, Some, ap, ◌∙◌, arith}
use Rattle.std.specs.Prelude.{All}
use Rattle.std.specs.List.{flat_map}
use Rattle.std.proofs.lemmas.List.{length-map}
use Rattle.std.proofs.lemmas.List.Elements.{All-head, All-tail}
use Rattle.coll_lex.specs.Names.{IsName}
use Rattle.coll_syntax.specs.TableLines.{table_line}
use Rattle.coll_syntax.specs.declared.lines.TableLine.{TableLine}
use Rattle.coll_syntax.specs.declared.lines.TableLine.TheVariants as line
use Rattle.coll_syntax.specs.declared.rules.Rule.{Rule}
use Rattle.coll_nodes.specs.Table.{Collation, section_names}
use Rattle.coll_nodes.specs.WellFormed.{IsWellFormed}
use Rattle.coll_texts.specs.Reading.{reads}
use Rattle.coll_texts.specs.CanonicalText.{line_bytes}
use Rattle.coll_texts.specs.ExportedText.{script_line, exported_text, ExportedTablesAreReadBack}
use Rattle.coll_texts.specs.ExportedParts.{next_lines}
use Rattle.coll_texts.proofs.ExportedLines.{script_says, start_says}
use Rattle.coll_texts.proofs.ExportedParts.{exported_walked}
use Rattle.coll_texts.proofs.PrintedLines.{order_end_says}
use Rattle.coll_texts.proofs.PrintedReading.{SayAll}
use Rattle.coll_texts.proofs.PrintedStates.{script_read, start_begins, names_of_first}
use Rattle.coll_texts.proofs.PrintedTables.{IsForm, body_lines, text_is_read_back}

-- the lines that tell the names of sections
scripts_say : (names : List (List ℕ)) → All IsName names → SayAll table_line (map script_line names) (map script_read (map script_line names))
unfolding SayAll
scripts_say [] h = tt
scripts_say (name ∷ names) h = (script_says name (All-head IsName name names h), scripts_say names (All-tail IsName name names h))

-- what begins a section, as it is read
abbrev begins : List Rule → List ℕ → List TableLine
begins rules name = line.OrderEnd ∷ line.OrderStart (Some name) (Some rules) ∷ []

abbrev notes : Collation → List (List ℕ)
notes table = map script_line (section_names table.sections)

exported_form : (table : Collation) → IsWellFormed table → IsForm table (notes table) (next_lines table.rules) (begins table.rules)
unfolding SayAll
exported_form table w =
    let names = names_of_first table.sections w.built.first_unnamed in
    record {
      notes_say = scripts_say (section_names table.sections) names.0;
      begun_say = λ name is. (order_end_says, (start_says name table.rules is w.some_levels w.built.few_levels, tt));
      leads = start_begins table.rules;
      few_notes = omega (arith, length-map (section_names table.sections) script_line, names.1);
      few_begun = λ name. omega arith;
    }

-- the exported text of a well-formed table is read as that table
pub exported_tables_are_read_back : ExportedTablesAreReadBack
unfolding exported_text body_lines
exported_tables_are_read_back table w =
    ap (λ ls. reads (flat_map line_bytes ls)) (exported_walked table w.built.first_unnamed)
    ∙ text_is_read_back table w (notes table) (next_lines table.rules) (begins table.rules) (exported_form table w)
