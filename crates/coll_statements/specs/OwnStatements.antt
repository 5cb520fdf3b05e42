-- Statements by own names: what a second name in a statement stands for, and which statements use one (the project's own).
use Rattle.std.specs.Prelude.{Bool, false, ◌||◌, List, map, option_map}
use Rattle.std.specs.List.{list_any}
use Rattle.coll_syntax.specs.declared.identifiers.Id.TheVariants.{Named}
use Rattle.coll_syntax.specs.declared.statements.OrderLine.{OrderLine}
use Rattle.coll_syntax.specs.declared.statements.Statement.{Statement}
use Rattle.coll_syntax.specs.declared.statements.Statement.TheVariants as statement
use Rattle.coll_nodes.specs.Entries.{given_weights}
use Rattle.coll_nodes.specs.OwnNames.{named_own, own_id, own_weights, is_second, names_second}
use Rattle.coll_nodes.specs.declared.declarations.Declaration.{Declaration}

-- an order line of a statement by own names: its identifier, and those in the weights that it gives
abbrev pub own_line : List Declaration → OrderLine → OrderLine
own_line declared line = record { id = own_id declared line.id; weights = option_map (own_weights declared) line.weights }

-- order lines by own names
abbrev pub own_lines : List Declaration → List OrderLine → List OrderLine
own_lines declared lines = map (own_line declared) lines

-- a statement by own names, where this is declared: the identifiers of its target, its lines and their weights, and the symbol
-- that a second name is for
abbrev pub by_own_names : List Declaration → Statement → Statement
by_own_names declared (statement.Symbol name) = statement.Symbol name
by_own_names declared (statement.Element name text) = statement.Element name text
by_own_names declared (statement.Equivalence name symbol) = statement.Equivalence name (named_own declared symbol)
by_own_names declared (statement.Block target lines) = statement.Block (own_id declared target) (own_lines declared lines)
by_own_names declared (statement.SectionAfter name after) = statement.SectionAfter name after
by_own_names declared (statement.Reweight line) = statement.Reweight (own_line declared line)

-- an order line uses a second name: as its identifier, or in the weights that it gives
abbrev pub line_uses_second : List Declaration → OrderLine → Bool
line_uses_second declared line = is_second declared line.id || list_any (names_second declared) (given_weights line.weights)

-- a statement uses a second name: as its target, in one of its lines, or as the symbol that another name is for
abbrev pub uses_second : List Declaration → Statement → Bool
uses_second declared (statement.Symbol name) = false
uses_second declared (statement.Element name text) = false
uses_second declared (statement.Equivalence name symbol) = is_second declared (Named symbol)
uses_second declared (statement.Block target lines) = is_second declared target || list_any (line_uses_second declared) lines
uses_second declared (statement.SectionAfter name after) = false
uses_second declared (statement.Reweight line) = line_uses_second declared line
