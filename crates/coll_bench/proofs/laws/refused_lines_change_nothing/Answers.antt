-- The law, by the kind of request.
use Rattle.coll_bench.proofs.LawLemmas.{refused_changes_nothing}
use Rattle.coll_bench.proofs.laws.refused_lines_change_nothing.Goals as goal

pub returns : goal.returns
returns g = refused_changes_nothing
