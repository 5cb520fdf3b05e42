-- The words so far are numbered, and there is room for the others.
use Rattle.std.proofs.Common.{◌≡◌, vec_len, vec_capacity}
use Rattle.coll_reviews.proofs.KeptLemmas.{NumberedSoFar}
use Rattle.coll_reviews.proofs.numbered_words.numbered.Given as goal

abbrev pub invariant-loop-word : goal.invariant-loop-word
invariant-loop-word l =
    record {
      numbered : NumberedSoFar l.yielded l.list.items;
      room : vec_capacity l.list ≡ vec_len l.fn.words;
    }
