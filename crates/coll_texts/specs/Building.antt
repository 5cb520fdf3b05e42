-- A table that grows, behind what it has: what is declared, and the sections, without the rules.
use Rattle.std.specs.Prelude.{List, [], ◌∷◌, None}
use Rattle.coll_syntax.specs.declared.rules.Rule.{Rule}
use Rattle.coll_nodes.specs.declared.declarations.Declaration.{Declaration}
use Rattle.coll_nodes.specs.Table.{Collation, Section}
use Rattle.coll_nodes.specs.TableLayout.{TableLayout, declared_at, sections_at}

-- what is declared so far, and the sections so far
pub record Parts : Type 0 where
  pub declared : List Declaration
  pub sections : List Section

-- nothing is declared, and the first section is empty
abbrev pub no_parts : Parts
no_parts = record { declared = []; sections = record { name = None; entries = [] } ∷ [] }

-- the table of these parts and these rules
abbrev pub table_with : List Rule → Parts → Collation
table_with rules parts = record { rules = rules; declared = parts.declared; sections = parts.sections }

-- the parts that a layout stands for
abbrev pub parts_at : TableLayout → Parts
parts_at layout = record { declared = declared_at layout; sections = sections_at layout }
