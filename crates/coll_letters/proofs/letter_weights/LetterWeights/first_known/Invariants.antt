-- Longer prefixes are no strings of elements.
use Rattle.std.proofs.Common.{chars}
use Rattle.coll_nodes.specs.TableLayout.{collation}
use Rattle.coll_letters.proofs.FirstPieceLemmas.{SameFrom}
use Rattle.coll_letters.proofs.letter_weights.LetterWeights.first_known.Given as goal

abbrev pub invariant-sizes : goal.invariant-sizes
invariant-sizes l = SameFrom (collation l.table) (chars l.text) l.size

abbrev pub decreases-sizes : goal.decreases-sizes
decreases-sizes l = l.size
