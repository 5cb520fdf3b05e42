-- The words so far are lent.
use Rattle.std.proofs.Common.{◌≡◌, map, take}
use Rattle.coll_reviews.specs.KeptWords.{kept_line}
use Rattle.coll_reviews.specs.ListedWords.{all_numbered}
use Rattle.coll_reviews.proofs.listed_words.listed.Given as goal

abbrev pub invariant-loop-word : goal.invariant-loop-word
invariant-loop-word l = all_numbered l.list.items ≡ map kept_line (take l.word-index l.kept)
