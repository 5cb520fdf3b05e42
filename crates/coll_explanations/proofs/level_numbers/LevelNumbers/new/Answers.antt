-- Nothing is taken yet.
use Rattle.coll_explanations.specs.Sources.{source, sources_at}
use Rattle.coll_explanations.proofs.ToldLemmas.{few_new, none_taken}
use Rattle.coll_explanations.proofs.level_numbers.LevelNumbers.new.Goals as goal

pub returns-clause-items : goal.returns-clause-items
returns-clause-items c =
    none_taken c.args.backward (sources_at c.args.weighing.now c.args.level) (source c.args.weighing.now 0 c.undefined.result.now) c.args.elements.now

pub returns-clause-few : goal.returns-clause-few
returns-clause-few c =
    few_new c.args.backward (sources_at c.args.weighing.now c.args.level) (source c.args.weighing.now 0 c.undefined.result.now) c.args.elements.now
    (λ element. c.undefined.ensures.few c.args.level element) c.requires.few
