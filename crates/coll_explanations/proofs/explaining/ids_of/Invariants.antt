-- What is put in, and what is left, is the whole.
use Rattle.std.proofs.Common.{◌≡◌, ◌++◌, drop, map}
use Rattle.coll_explanations.specs.ToldSteps.{id_of}
use Rattle.coll_explanations.proofs.explaining.ids_of.Given as goal

abbrev pub invariant-loop-element : goal.invariant-loop-element
invariant-loop-element l = map id_of l.elements ≡ l.ids.items ++ map id_of (drop l.element-index l.elements)
