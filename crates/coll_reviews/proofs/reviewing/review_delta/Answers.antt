-- The statements were put, and what is told of them is written.
use Rattle.coll_reviews.proofs.ReviewCases.{writes_review}
use Rattle.coll_reviews.proofs.reviewing.review_delta.Goals as goal

pub returns-in-Ok-clause-run : goal.returns-in-Ok-clause-run
returns-in-Ok-clause-run g c =
    let left = g.D.Source.left in
    let taken = g.W.Sink.taken in
    writes_review c.args.watched.now.review c.read_delta.new.taker.review (left c.args.delta.now) (left c.read_delta.new.delta) (taken c.args.output.now) (taken c.write_review.new.output)
    c.write_review.result (λ text e. (c.in-Ok.ensures.file text e, c.in-Ok.ensures.reaches text e)) c.write_review.ensures.sent c.write_review.ensures.fault
