-- What is left to write leads from the state of now to that of the end.
use Rattle.std.specs.Prelude.{◌≡◌, length}
use Rattle.coll_lookups.specs.WordHashing.{written}
use Rattle.coll_lookups.proofs.word_hashing.WordHasherHasher.write.Given as goal

abbrev pub invariant-loop-rest : goal.invariant-loop-rest
invariant-loop-rest l = written l.self l.rest ≡ written l.initial.self l.bytes

abbrev pub decreases-loop-rest : goal.decreases-loop-rest
decreases-loop-rest l = length l.rest
