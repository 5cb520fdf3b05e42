-- What is told of a statement that is left out, and which order lines are.
use Rattle.std.specs.Prelude.{ℕ, if◌then◌else◌, List, Option, Some, None}
use Rattle.coll_syntax.specs.Proper.{is_proper}
use Rattle.coll_syntax.specs.declared.identifiers.Id.TheVariants.{Named}
use Rattle.coll_syntax.specs.declared.statements.OrderLine.{OrderLine}
use Rattle.coll_syntax.specs.declared.statements.Statement.{Statement}
use Rattle.coll_syntax.specs.declared.statements.Statement.TheVariants as statement
use Rattle.coll_source_lines.specs.declared.adjustments.Lost.{Lost}
use Rattle.coll_source_lines.specs.declared.adjustments.Lost.TheVariants.{Id}

-- a name that is lost
abbrev pub name_lost : List ℕ → Lost
name_lost name = Id (Named name)

-- what is lost with a statement: the name that it declares, its target, the section that it moves, or what it gives weights
abbrev pub lost_with : Statement → Lost
lost_with (statement.Symbol name) = name_lost name
lost_with (statement.Element name text) = name_lost name
lost_with (statement.Equivalence name symbol) = name_lost name
lost_with (statement.Block target lines) = Id target
lost_with (statement.SectionAfter moved after) = name_lost moved
lost_with (statement.Reweight line) = Id line.id

-- the order line of a statement that gives weights to what is placed
abbrev pub reweighted : Statement → Option OrderLine
reweighted (statement.Symbol name) = None
reweighted (statement.Element name text) = None
reweighted (statement.Equivalence name symbol) = None
reweighted (statement.Block target lines) = None
reweighted (statement.SectionAfter moved after) = None
reweighted (statement.Reweight line) = Some line

-- an order line, where a statement can give its weights: within the limits of the language
abbrev pub within_limits : OrderLine → Option OrderLine
within_limits line = if is_proper (statement.Reweight line) then Some line else None
