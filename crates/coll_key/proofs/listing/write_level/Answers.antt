-- The words of a weight, and the end of its level.
use Rattle.std.proofs.Common.{refl, rules}
use Rattle.coll_key.specs.WrittenKey.{level_end}
use Rattle.coll_key.specs.ListingParts.{is_star, level_bytes, spaced, weight_bytes}
use Rattle.coll_texts.proofs.PrintedParts.{stops_first, writes_rest}
use Rattle.coll_key.proofs.listing.write_level.Goals as goal

pub returns-in_err-write_weight : goal.returns-in_err-write_weight
returns-in_err-write_weight g c =
    let taken = g.W.Sink.taken in
    record {
      sent = stops_first (taken c.args.out.now) (taken c.write_weight.new.out) (level_bytes (is_star c.args.owner.now c.args.weight.now) c.args.compiled.now)
          (weight_bytes (is_star c.args.owner.now c.args.weight.now) c.args.compiled.now) (spaced level_end) c.from_residual.result (refl) c.from_residual.ensures.0 c.in_err-write_weight.ensures.sent;
      errors = search rules;
    }

pub returns : goal.returns
returns g c =
    let taken = g.W.Sink.taken in
    record {
      sent = writes_rest (taken c.args.out.now) (taken c.write_weight.new.out) (taken c.write_bytes.new.out) (level_bytes (is_star c.args.owner.now c.args.weight.now) c.args.compiled.now)
          (weight_bytes (is_star c.args.owner.now c.args.weight.now) c.args.compiled.now) (spaced level_end) c.write_bytes.result (refl) c.in_ok-write_weight.ensures.sent c.write_bytes.ensures.sent;
      errors = search rules;
    }
