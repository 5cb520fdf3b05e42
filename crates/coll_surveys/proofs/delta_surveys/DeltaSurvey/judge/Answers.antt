-- A statement with faults is refused.
use Rattle.std.proofs.Common.{arith, vec_len}
use Rattle.coll_surveys.specs.DeltaSurveys.{table_left}
use Rattle.coll_surveys.proofs.MendingLemmas.{refused_behind}
use Rattle.coll_surveys.proofs.delta_surveys.DeltaSurvey.judge.Goals as goal

pub returns-clause-left : goal.returns-clause-left
returns-clause-left c =
    let found = c.in_ok-found.found in
    refused_behind (table_left c.args.self.now) c.args.statement.now found.items (vec_len found) (omega (arith, found.ok.0)) (cc) c.in_ok-found.ensures.accepted
