use Rattle.coll_nodes.specs.TableLayout.{collation}
use Rattle.coll_explanations.proofs.SourceLemmas.{few_sources}
use Rattle.coll_explanations.proofs.weighing.Weighing.undefined.Goals as goal

pub returns-clause-few : goal.returns-clause-few
returns-clause-few c = rw (← c.self.view_is) (λ level element. few_sources (collation c.self.inside.table.now) c.self.invariant.1 level element)
