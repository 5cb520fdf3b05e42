-- The text of what is made of a source (the project's own).
use Rattle.std.specs.Prelude.{ℕ, List}
use Rattle.coll_nodes.specs.TableLayout.{collation}
use Rattle.coll_texts.specs.CanonicalText.{text}
use Rattle.coll_delta_texts.specs.DeltaText.{delta_text}
use Rattle.collbench.specs.declared.importing.Made.{Made}
use Rattle.collbench.specs.declared.importing.Made.TheVariants.{Table, Delta}

-- what is printed: of a table its canonical text, and of a tailoring its delta file
abbrev pub made_text : Made → List ℕ
made_text (Table table) = text (collation table)
made_text (Delta tailored) = delta_text tailored.copies.items tailored.statements.items
