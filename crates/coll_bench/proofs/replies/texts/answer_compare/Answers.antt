-- The order that was found is written, or its refusal.
use Rattle.coll_bench.proofs.ReplyLemmas.{sends_order, refuses_order}
use Rattle.coll_bench.proofs.replies.texts.answer_compare.Goals as goal

pub returns-in-Ok-clause-answered : goal.returns-in-Ok-clause-answered
returns-in-Ok-clause-answered g c =
    let taken = g.W.Sink.taken in
    let h = c.args.session.now.history in
    let order_is = rw (c.get.ensures.characters, c.get-2.ensures.characters) at c.in-Ok.ensures.ok in
    let short = rw (c.get.ensures.characters, c.get-2.ensures.characters) at c.in-Ok.ensures.short in
    sends_order (taken c.args.out.now) (taken c.write_order.new.out) h c.args.text.now c.args.other.now c.in-Ok.order c.write_order.result order_is short c.write_order.ensures.sent

pub returns-in-Err-clause-answered : goal.returns-in-Err-clause-answered
returns-in-Err-clause-answered g c =
    let taken = g.W.Sink.taken in
    let long = rw (c.get.ensures.characters, c.get-2.ensures.characters) at c.in-Err.ensures.err in
    refuses_order (taken c.args.out.now) (taken c.write_refused.new.out) c.args.session.now.history c.args.text.now c.args.other.now c.in-Err.fault c.write_refused.result long
    c.write_refused.ensures.sent
