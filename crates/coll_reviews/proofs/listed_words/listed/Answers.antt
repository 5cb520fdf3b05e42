-- Each word is lent with its line.
use Rattle.std.proofs.Common.{ℕ, List, ap, arith, ◌∙◌}
use Rattle.coll_reviews.specs.KeptWords.{kept_line}
use Rattle.coll_reviews.specs.ListedWords.{numbered_of}
use Rattle.coll_word_lists.specs.Neighbours.{NumberedWord}
use Rattle.coll_reviews.proofs.KeptLemmas.{one_more_alike}
use Rattle.coll_reviews.proofs.listed_words.listed.Goals as goal

pub loop-word-preserved : goal.loop-word-preserved
loop-word-preserved c =
    let with_text : List ℕ → NumberedWord = λ text. record { line = c.word-item.result.line; text = text } in
    one_more_alike numbered_of kept_line c.loop-word.list.items c.push.new.self.items _ c.args.kept.now c.loop-word.word-index c.word-item.result (omega (arith, c.loop-word-test.true))
    c.loop-word.invariant c.in_ok-push.ensures.items (ap with_text c.get.ensures.characters ∙ ap kept_line c.word-item.is)
