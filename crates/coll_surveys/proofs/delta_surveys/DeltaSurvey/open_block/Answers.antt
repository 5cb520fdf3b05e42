-- A block begins behind the one that has ended.
use Rattle.coll_surveys.proofs.DeltaLemmas.{opened_behind}
use Rattle.coll_surveys.proofs.delta_surveys.DeltaSurvey.open_block.Goals as goal

pub returns-clause-left : goal.returns-clause-left
returns-clause-left c =
    opened_behind c.args.self.now c.end_block.new.self c.replace.new.self c.new.result c.args.number c.args.target c.in_ok-end_block.ensures.left c.replace.ensures.after c.new.ensures
