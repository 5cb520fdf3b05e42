-- Each word in turn is told.
use Rattle.std.proofs.Common.{arith}
use Rattle.coll_edit_replies.proofs.ToldLemmas.{told_more}
use Rattle.coll_edit_replies.proofs.word_lists.tell.Goals as goal

pub loop-place-preserved : goal.loop-place-preserved
loop-place-preserved c =
    told_more c.args.list.now c.loop-place.list c.loop-place.place c.loop-place.before c.loop-place.invariant c.line_at-behind.result c.index-list-place.result
    (omega (arith, c.loop-place-test.true, c.loop-place.auto.list)) c.line_at-behind.ensures
