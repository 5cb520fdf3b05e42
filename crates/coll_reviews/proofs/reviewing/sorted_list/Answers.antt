-- The words are numbered, and then sorted.
use Rattle.std.proofs.Common.{map}
use Rattle.coll_reviews.specs.KeptWords.{kept_line}
use Rattle.coll_reviews.proofs.ReviewLemmas.{sorts_some}
use Rattle.coll_reviews.proofs.reviewing.sorted_list.Goals as goal

pub returns-in-Ok : goal.returns-in-Ok
returns-in-Ok c =
    sorts_some c.sorted_words-kept.result (λ kept. map kept_line kept.items) c.args.words.items c.in-Ok.list.items c.in-Ok.ensures.lines c.in-Ok.ensures.words c.sorted_words-kept.ensures
