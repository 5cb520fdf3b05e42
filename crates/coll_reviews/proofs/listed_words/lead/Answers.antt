-- Each word is led by the one before it.
use Rattle.std.proofs.Common.{arith}
use Rattle.coll_reviews.proofs.ListedLemmas.{one_more_led_at, all_led}
use Rattle.coll_reviews.proofs.listed_words.lead.Goals as goal

pub loop-listed-preserved : goal.loop-listed-preserved
loop-listed-preserved c =
    one_more_led_at c.args.list.now c.loop-listed.list c.loop-listed.listed-index c.loop-listed.leader c.loop-listed.invariant _ (omega (arith, c.loop-listed-test.true))
    (omega (arith, c.loop-listed-test.true, c.loop-listed.auto.list))

pub returns : goal.returns
returns c = all_led c.args.list.now c.loop-listed.list c.loop-listed.listed-index c.loop-listed.leader c.loop-listed.invariant c.loop-listed-test.false
