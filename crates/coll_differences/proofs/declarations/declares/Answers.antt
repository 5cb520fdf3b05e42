-- A name is declared where it stands for an own name.
use Rattle.std.proofs.Common.{chars, ◌∙◌}
use Rattle.coll_nodes.specs.TableLayout.{collation}
use Rattle.coll_differences.proofs.DeclaredNames.{name_told}
use Rattle.coll_differences.proofs.declarations.declares.Goals as goal

pub returns : goal.returns
returns c = c.is_some.ensures ∙ name_told (collation c.args.table.now).declared (chars c.args.name.now) c.resolve.result c.resolve.ensures
