-- The point at the place tells it.
use Rattle.std.proofs.Common.{arith}
use Rattle.coll_nodes.specs.WalkItems.{declared_by}
use Rattle.coll_differences.proofs.DeclaredNames.{told_where}
use Rattle.coll_differences.proofs.declarations.told_at.Goals as goal

pub returns : goal.returns
returns c =
    told_where c.args.declared.now c.in-Some.place c.index-declared-place.result (declared_by c.args.item) c.told_by.result (omega arith) c.index-declared-place.is c.told_by.ensures
