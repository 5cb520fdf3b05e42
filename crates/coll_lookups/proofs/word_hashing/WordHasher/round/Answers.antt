-- A round is the round of the definition.
use Rattle.coll_lookups.specs.WordHashing.{round}
use Rattle.coll_lookups.proofs.word_hashing.WordHasher.round.Goals as goal

pub returns : goal.returns
unfolding round
returns c = simp (c.rotate_left-self-2.ensures, c.rotate_left-4.ensures, c.rotate_left-3.ensures, c.rotate_left-self.ensures, c.rotate_left-2.ensures, c.rotate_left.ensures)
