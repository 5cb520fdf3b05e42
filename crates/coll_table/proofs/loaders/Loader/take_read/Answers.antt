-- What a builder refuses a line for is a cause of lines.
use Rattle.std.proofs.lemmas.Result.{err_from_is_err_and}
use Rattle.coll_table.proofs.LineCauses.{refused_cause}
use Rattle.coll_table.proofs.loaders.Loader.take_read.Goals as goal

pub returns-in_err-self-inside-clause-cause : goal.returns-in_err-self-inside-clause-cause
returns-in_err-self-inside-clause-cause c =
    let p = err_from_is_err_and c.from_residual.result c.from_residual.ensures.1 in
    rw (p.1, p.2) (refused_cause c.self.inside.builder (record { number = c.args.number; line = c.args.read }) c.in_err-self-inside.field-0.0 c.in_err-self-inside.ensures.err)
