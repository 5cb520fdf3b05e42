-- A hash ends with three rounds.
use Rattle.coll_lookups.specs.WordHashing.{finished}
use Rattle.coll_lookups.proofs.word_hashing.WordHasherHasher.finish.Goals as goal

pub returns : goal.returns
unfolding finished
returns c = simp (c.round-3.ensures, c.round-2.ensures, c.round.ensures)
