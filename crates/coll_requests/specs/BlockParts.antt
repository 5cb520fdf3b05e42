-- The parts of a block that isn't spoiled: its target and its order lines so far.
use Rattle.std.specs.Prelude.{List}
use Rattle.coll_syntax.specs.declared.identifiers.Id.{Id}
use Rattle.coll_syntax.specs.declared.statements.OrderLine.{OrderLine}

-- the target, and the order lines so far
pub record BlockParts : Type 0 where
  pub target : Id
  pub lines : List OrderLine
