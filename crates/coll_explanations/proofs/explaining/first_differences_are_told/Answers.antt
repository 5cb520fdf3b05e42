use Rattle.coll_explanations.proofs.ToldLemmas.{told_first}
use Rattle.coll_explanations.proofs.explaining.first_differences_are_told.Goals as goal

pub returns : goal.returns
returns c = told_first
