-- The text of a statement of a delta: its lines, as `write_statement` writes them.
--
-- All is spelled as in a canonical table (`CanonicalText`), but weights as they are given: one of the entry's own is an empty operand,
-- as it is for UNDEFINED in a table.
use Rattle.std.specs.Prelude.{ℕ, List, [], ◌∷◌, ◌++◌, map, codes, Option, Some, None}
use Rattle.std.specs.List.{flat_map}
use Rattle.coll_lex.specs.Characters.{space}
use Rattle.coll_lex.specs.Spelling.{spelled_symbol}
use Rattle.coll_syntax.specs.declared.identifiers.Id.{Id}
use Rattle.coll_syntax.specs.declared.identifiers.Id.TheVariants.{Undefined}
use Rattle.coll_syntax.specs.declared.weights.Weight.{Weight}
use Rattle.coll_syntax.specs.declared.statements.OrderLine.{OrderLine}
use Rattle.coll_syntax.specs.declared.statements.Statement.{Statement}
use Rattle.coll_syntax.specs.declared.statements.Statement.TheVariants as statement
use Rattle.coll_nodes.specs.declared.declarations.Declaration.TheVariants as declaration
use Rattle.coll_texts.specs.CanonicalText.{spelled_id, spelled_joined, spelled_weight, declaration_line, line_bytes}

-- a weight that a line gives: `IGNORE`, nothing for the entry's own, one identifier, or a string
abbrev pub spelled_given : Weight → List ℕ → List ℕ
spelled_given = spelled_weight Undefined

-- the weights behind an identifier, if any are given
abbrev pub given_behind : Option (List Weight) → List ℕ
given_behind None = []
given_behind (Some weights) = space ∷ spelled_joined spelled_given weights []

-- an order line
abbrev pub order_line : OrderLine → List ℕ
order_line line = spelled_id line.id (given_behind line.weights)

-- the line that begins a block
abbrev pub target_line : Id → List ℕ
target_line target = codes "reorder-after " ++ spelled_id target []

-- the line that moves a section
abbrev pub section_after_line : (moved after : List ℕ) → List ℕ
section_after_line moved after = codes "reorder-section-after " ++ spelled_symbol moved (space ∷ spelled_symbol after [])

-- the lines of a block
abbrev pub block_lines : Id → List OrderLine → List (List ℕ)
block_lines target lines = target_line target ∷ (map order_line lines ++ codes "reorder-end" ∷ [])

-- the lines of a statement: a block has several, and each other statement one
abbrev pub statement_lines : Statement → List (List ℕ)
statement_lines (statement.Symbol name) = declaration_line (declaration.Symbol name) ∷ []
statement_lines (statement.Element name text) = declaration_line (declaration.Element name text) ∷ []
statement_lines (statement.Equivalence name symbol) = declaration_line (declaration.Equivalence name symbol) ∷ []
statement_lines (statement.Block target lines) = block_lines target lines
statement_lines (statement.SectionAfter moved after) = section_after_line moved after ∷ []
statement_lines (statement.Reweight line) = order_line line ∷ []

-- the bytes of a statement: those of its lines, each with its line feed
abbrev pub statement_bytes : Statement → List ℕ
statement_bytes statement = flat_map line_bytes (statement_lines statement)

-- the bytes of an order line
abbrev pub order_bytes : OrderLine → List ℕ
order_bytes line = line_bytes (order_line line)
