-- What is told behind the first fault is what judging the lines gives.
use Rattle.coll_surveys.specs.TableWeights.{table_faults}
use Rattle.coll_lint.proofs.GivenLemmas.{given_surveyed}
use Rattle.coll_lint.proofs.linting.lint_faulty.Goals as goal

pub returns-clause-given : goal.returns-clause-given
returns-clause-given c = given_surveyed (table_faults c.args.table.now) c.survey_table-surveyed.result c.lint_if_refused.result c.survey_table-surveyed.ensures.told c.lint_if_refused.ensures.given
