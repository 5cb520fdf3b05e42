-- Each word gets its key, down to the last.
use Rattle.std.proofs.Common.{arith, refl, ◌∙◌}
use Rattle.coll_nodes.specs.TableLayout.{collation}
use Rattle.coll_reviews.specs.ListedKeys.{word_of}
use Rattle.coll_reviews.specs.declared.listed_words.ListedWord.{ListedWord}
use Rattle.coll_reviews.proofs.KeptLemmas.{all_alike, one_more_alike, same_words}
use Rattle.coll_reviews.proofs.ListedKeyLemmas.{one_more_key}
use Rattle.coll_reviews.proofs.listed_keys.with_keys.Goals as goal

pub loop-listed-preserved : goal.loop-listed-preserved
loop-listed-preserved c = record {
  words = one_more_alike word_of (λ (listed : ListedWord). listed) c.loop-listed.keyed.items c.push.new.self.items _ c.args.list.now c.loop-listed.listed-index _
      (omega (arith, c.loop-listed-test.true)) c.loop-listed.invariant.words c.in_ok-push.ensures.items refl;
  keys = one_more_key (collation c.args.table.now) c.loop-listed.keyed.items c.push.new.self.items _ c.loop-listed.invariant.keys c.in_ok-key.ensures c.in_ok-push.ensures.items;
}

pub returns-clause-words : goal.returns-clause-words
returns-clause-words c =
    all_alike word_of (λ (listed : ListedWord). listed) c.loop-listed.keyed.items c.args.list.now c.loop-listed.listed-index c.loop-listed-test.false c.loop-listed.invariant.words
    ∙ same_words c.args.list.now
