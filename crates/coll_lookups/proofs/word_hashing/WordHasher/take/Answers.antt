-- A word is taken in by one round.
use Rattle.coll_lookups.specs.WordHashing.{with_word}
use Rattle.coll_lookups.proofs.word_hashing.WordHasher.take.Goals as goal

pub returns : goal.returns
unfolding with_word
returns c = simp c.round.ensures
