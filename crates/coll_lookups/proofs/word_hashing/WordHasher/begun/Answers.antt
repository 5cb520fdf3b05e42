-- The words of the state are the keys, each with its constant.
use Rattle.std.proofs.Common.{refl}
use Rattle.coll_lookups.specs.WordHashing.{begun}
use Rattle.coll_lookups.proofs.word_hashing.WordHasher.begun.Goals as goal

pub returns : goal.returns
unfolding begun
returns c = refl
