-- The first weight, and the later ones.
use Rattle.std.proofs.Common.{codes, ap, rules}
use Rattle.std.specs.List.{flat_map}
use Rattle.coll_texts.proofs.PrintedParts.{stops_first, writes_rest}
use Rattle.coll_texts.specs.WeighedEntries.{all_weights, marked_weight}
use Rattle.coll_texts.proofs.weighed_entries.write_all_weights.Goals as goal

pub returns-in_err-write_marked_weight : goal.returns-in_err-write_marked_weight
returns-in_err-write_marked_weight g c =
    let taken = g.W.Sink.taken in
    let owner = c.args.owner.now in
    record {
      sent = stops_first (taken c.args.out.now) (taken c.write_marked_weight.new.out) (all_weights owner c.args.weights.now) (marked_weight (codes " ") owner c.in-Some.first.now)
          (flat_map (marked_weight (codes ";") owner) c.in-Some.later.now) c.from_residual.result (ap (all_weights owner)
          c.in-Some.ensures.cases.0) c.from_residual.ensures.0 c.in_err-write_marked_weight.ensures.sent;
      errors = search rules;
    }

pub returns : goal.returns
returns g c =
    let taken = g.W.Sink.taken in
    let owner = c.args.owner.now in
    record {
      sent = writes_rest (taken c.args.out.now) (taken c.write_marked_weight.new.out) (taken c.write_further_weights.new.out) (all_weights owner c.args.weights.now)
          (marked_weight (codes " ") owner c.in-Some.first.now)
          (flat_map (marked_weight (codes ";") owner) c.in-Some.later.now) c.write_further_weights.result (ap (all_weights owner) c.in-Some.ensures.cases.0) c.in_ok-write_marked_weight.ensures.sent
          c.write_further_weights.ensures.sent;
      errors = search rules;
    }
