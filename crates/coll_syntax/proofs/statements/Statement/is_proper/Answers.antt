use Rattle.std.proofs.lemmas.Bool.Decides.{Decides-at}
use Rattle.coll_syntax.proofs.ProperTests.{is_proper_tells}
use Rattle.coll_syntax.proofs.statements.Statement.is_proper.Goals as goal

pub returns-clause-tells : goal.returns-clause-tells
returns-clause-tells c = Decides-at _ _ c.is_proper.ensures (is_proper_tells c.args.self.now)
