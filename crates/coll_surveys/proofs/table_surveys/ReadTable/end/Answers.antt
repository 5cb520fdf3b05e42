-- What is told of weights is told in the table that the builder gives.
use Rattle.coll_texts.specs.BuilderStates.{table_of}
use Rattle.coll_surveys.specs.TableSurveys.{ended_by}
use Rattle.coll_surveys.proofs.TableLemmas.{told_if_done}
use Rattle.coll_surveys.proofs.table_surveys.ReadTable.end.Goals as goal

pub returns-in-Ok-clause-told : goal.returns-in-Ok-clause-told
returns-in-Ok-clause-told c =
    told_if_done c.in-Ok.table (table_of (ended_by c.args.builder)) c.args.self.ruled c.args.text.now c.args.self.told.told.faults.items c.look_up-looked.new.self.told.told.faults.items c.over.result
    c.look_up-looked.result c.if_done.result c.in-Ok.ensures c.look_up-looked.ensures c.over.ensures.told c.if_done.ensures.surveyed c.if_done.ensures.done
