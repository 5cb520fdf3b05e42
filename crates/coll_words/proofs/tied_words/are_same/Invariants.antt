-- The words so far are the same.
use Rattle.std.proofs.Common.{◌≡◌, ◌-◌, ◌<◌, length}
use Rattle.std.specs.List.{AllAdjacentBelow}
use Rattle.coll_word_lists.specs.KeyedWords.{texts_of}
use Rattle.coll_words.proofs.tied_words.are_same.Given as goal

abbrev pub invariant-words : goal.invariant-words
invariant-words l = record {
  above : 0 < l.place;
  alike : AllAdjacentBelow (λ word other. word ≡ other) (texts_of l.words) l.place;
}

abbrev pub decreases-words : goal.decreases-words
decreases-words l = length l.words - l.place
