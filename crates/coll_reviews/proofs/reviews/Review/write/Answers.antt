-- What is told, and then the counts.
use Rattle.std.proofs.Common.{ℕ, length, subst, refl, ◌∙◌, rules}
use Rattle.coll_devices.specs.Devices.{Sends}
use Rattle.coll_devices.proofs.WritingLemmas.{Sends-after}
use Rattle.coll_texts.proofs.PrintedParts.{stops_first}
use Rattle.coll_reviews.specs.ReviewLines.{review_line}
use Rattle.coll_reviews.proofs.reviews.Review.write.Goals as goal

pub returns-in_err-write_bytes : goal.returns-in_err-write_bytes
returns-in_err-write_bytes g c =
    let taken = g.W.Sink.taken in
    let told = c.args.self.now.told.bytes.items in
    let part = rw c.bytes.ensures at c.in_err-write_bytes.ensures.sent in
    record {
      sent = stops_first (taken c.args.out.now) (taken c.write_bytes.new.out) _ told (review_line c.args.self.now.count (length c.args.self.now.list.items)) c.from_residual.result refl
          c.from_residual.ensures.0 part;
      errors = search rules;
    }

pub returns : goal.returns
returns g c =
    let taken = g.W.Sink.taken in
    let told = c.args.self.now.told.bytes.items in
    let sent = rw c.bytes.ensures at c.in_ok-write_bytes.ensures.sent in
    let counts = subst (λ (n : ℕ). Sends (taken c.write_bytes.new.out) (taken c.write_counts.new.out) (review_line c.args.self.now.count n) c.write_counts.result)
    (c.len.ensures ∙ c.args.self.now.list.ok.0)
    c.write_counts.ensures.sent in
    record {
      sent = Sends-after (taken c.args.out.now) (taken c.write_bytes.new.out) (taken c.write_counts.new.out) told (review_line c.args.self.now.count (length c.args.self.now.list.items))
          c.write_counts.result sent counts;
      errors = search rules;
    }
