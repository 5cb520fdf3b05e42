-- Where no block is open, none ends.
use Rattle.coll_surveys.specs.DeltaSurveys.{table_left}
use Rattle.coll_surveys.proofs.DeltaLemmas.{none_ends}
use Rattle.coll_surveys.proofs.TellingLemmas.{on_ok}
use Rattle.coll_surveys.proofs.delta_surveys.DeltaSurvey.take_end.Goals as goal

pub returns-in-None-clause-left : goal.returns-in-None-clause-left
returns-in-None-clause-left c =
    on_ok c.tell_saying.result (none_ends (table_left c.args.self.now) c.args.self.now.block c.args.self.now.block c.in-None.is c.in-None.is)
