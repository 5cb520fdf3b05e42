-- What is told behind the first fault is what judging the lines gives.
use Rattle.coll_nodes.specs.TableLayout.{collation}
use Rattle.coll_surveys.specs.DeltaSurveys.{delta_faults}
use Rattle.coll_lint.proofs.GivenLemmas.{given_surveyed}
use Rattle.coll_lint.proofs.linting.lint_faulty_delta.Goals as goal

pub returns-clause-given : goal.returns-clause-given
returns-clause-given c = given_surveyed (delta_faults (collation c.args.read) c.args.delta.now) c.survey_delta-surveyed.result c.lint_if_refused.result c.survey_delta-surveyed.ensures.told c.lint_if_refused.ensures.given
