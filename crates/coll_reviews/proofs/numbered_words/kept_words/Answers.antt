-- Each word is kept with its line.
use Rattle.std.proofs.Common.{ℕ, List, ap, arith, ◌∙◌}
use Rattle.coll_reviews.specs.KeptWords.{kept_line, keyed_line}
use Rattle.coll_word_lists.specs.Neighbours.{NumberedWord}
use Rattle.coll_reviews.proofs.KeptLemmas.{all_alike, one_more_alike}
use Rattle.coll_reviews.proofs.numbered_words.kept_words.Goals as goal

pub loop-keyed-preserved : goal.loop-keyed-preserved
loop-keyed-preserved c =
    let with_text : List ℕ → NumberedWord = λ text. record { line = c.keyed-item.result.line; text = text } in
    one_more_alike kept_line keyed_line c.loop-keyed.kept.items c.push.new.self.items _ c.args.list.now c.loop-keyed.keyed-index c.keyed-item.result (omega (arith, c.loop-keyed-test.true))
    c.loop-keyed.invariant c.in_ok-push.ensures.items (ap with_text (c.in_ok-text.ensures ∙ c.text.ensures.characters) ∙ ap keyed_line c.keyed-item.is)

pub returns : goal.returns
returns c = all_alike kept_line keyed_line c.loop-keyed.kept.items c.args.list.now c.loop-keyed.keyed-index c.loop-keyed-test.false c.loop-keyed.invariant
