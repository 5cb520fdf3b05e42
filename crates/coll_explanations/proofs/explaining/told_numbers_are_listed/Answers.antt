use Rattle.coll_explanations.proofs.ToldLemmas.{told_are_listed}
use Rattle.coll_explanations.proofs.explaining.told_numbers_are_listed.Goals as goal

pub returns : goal.returns
returns c = told_are_listed
