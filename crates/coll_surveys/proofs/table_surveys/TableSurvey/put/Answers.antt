-- What judging the line gives is told behind where it stands.
use Rattle.coll_surveys.proofs.TellingLemmas.{line_told}
use Rattle.coll_surveys.proofs.table_surveys.TableSurvey.put.Goals as goal

pub returns-in-Ok-clause-told : goal.returns-in-Ok-clause-told
returns-in-Ok-clause-told c =
    line_told c.args.self.now c.prepare.new.self c.put_bare.new.self c.args.line.now.number c.args.read c.without_weights.result c.put_bare.result c.in-Ok.ensures.told c.in-Ok.ensures.judging
    c.without_weights.ensures.bare c.put_bare.ensures.told
