-- The words so far are kept.
use Rattle.std.proofs.Common.{◌≡◌, map, take}
use Rattle.coll_reviews.specs.KeptWords.{keyed_line, kept_line}
use Rattle.coll_reviews.proofs.numbered_words.kept_words.Given as goal

abbrev pub invariant-loop-keyed : goal.invariant-loop-keyed
invariant-loop-keyed l = map kept_line l.kept.items ≡ map keyed_line (take l.keyed-index l.list)
