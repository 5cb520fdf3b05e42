-- What is told of the weights of all lines is told of those of the text.
use Rattle.coll_surveys.specs.TableSurveys.{table_lines}
use Rattle.coll_surveys.proofs.TableLemmas.{weights_lent, weights_told}
use Rattle.coll_surveys.proofs.table_weights.WeightSurvey.take_all.Goals as goal

pub returns-clause-told : goal.returns-clause-told
returns-clause-told c = weights_told (table_lines c.args.text.now) c.args.self.now c.survey_lines.new.taker c.in_ok-survey_lines.ensures.taken

pub returns-clause-reference : goal.returns-clause-reference
returns-clause-reference c = weights_lent (table_lines c.args.text.now) c.args.self.now c.survey_lines.new.taker c.in_ok-survey_lines.ensures.taken
