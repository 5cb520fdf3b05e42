-- A name that is one names a section.
use Rattle.std.proofs.Common.{rules}
use Rattle.coll_syntax.specs.Proper.{is_proper}
use Rattle.coll_syntax.specs.declared.statements.Statement.TheVariants as statement
use Rattle.coll_syntax.proofs.ProperTests.{is_proper_tells}
use Rattle.coll_import.proofs.proper_lines.section_line.Goals as goal

pub returns : goal.returns
unfolding is_proper
returns c = (is_proper_tells (statement.Symbol c.args.name)).0 (search rules)
