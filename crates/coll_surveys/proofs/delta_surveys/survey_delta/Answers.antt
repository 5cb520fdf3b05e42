-- What is told of the lines of a text over a table is told of it, and the table is the one that they leave.
use Rattle.std.proofs.Common.{refl}
use Rattle.coll_nodes.specs.TableLayout.{collation}
use Rattle.coll_surveys.specs.DeltaSurveys.{first_state}
use Rattle.coll_surveys.proofs.DeltaLemmas.{left_of_text, told_of_text}
use Rattle.coll_surveys.proofs.delta_surveys.survey_delta.Goals as goal

pub returns-clause-told : goal.returns-clause-told
returns-clause-told c =
    told_of_text c.args.text.now (collation c.args.table) c.new.result.told.faults.items (first_state (collation c.args.table)) c.take_all-taken.new.self c.end.result c.take_all-taken.result
    c.if_done.result c.new.ensures refl c.take_all-taken.ensures.told c.end.ensures.told c.if_done.ensures.surveyed c.if_done.ensures.done

pub returns-clause-table : goal.returns-clause-table
returns-clause-table c =
    left_of_text c.args.text.now (collation c.args.table) (first_state (collation c.args.table)) c.take_all-taken.new.self c.end.result c.take_all-taken.result c.if_done.result refl
    c.take_all-taken.ensures.left c.end.ensures.table c.if_done.ensures.surveyed c.if_done.ensures.done
