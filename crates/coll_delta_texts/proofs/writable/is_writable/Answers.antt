use Rattle.std.proofs.lemmas.Bool.Decides.{Decides-at}
use Rattle.coll_delta_texts.proofs.WritableTests.{is_writable_tells}
use Rattle.coll_delta_texts.proofs.writable.is_writable.Goals as goal

pub returns-clause-tells : goal.returns-clause-tells
returns-clause-tells c = Decides-at _ _ c.can_write.ensures (is_writable_tells c.args.statement.now)
