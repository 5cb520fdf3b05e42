-- A space, and the number.
use Rattle.std.proofs.Common.{codes, refl, rules}
use Rattle.std.specs.Prelude.{decimal}
use Rattle.coll_key.specs.ListingParts.{spaced_number}
use Rattle.coll_texts.proofs.PrintedParts.{stops_first, writes_rest}
use Rattle.coll_key.proofs.listing.write_spaced_number.Goals as goal

pub returns-in_err-write_bytes : goal.returns-in_err-write_bytes
returns-in_err-write_bytes g c =
    let taken = g.W.Sink.taken in
    record {
      sent = stops_first (taken c.args.out.now) (taken c.write_bytes.new.out) (spaced_number c.args.number) (codes " ") (decimal c.args.number) c.from_residual.result (refl) c.from_residual.ensures.0
          c.in_err-write_bytes.ensures.sent;
      errors = search rules;
    }

pub returns : goal.returns
returns g c =
    let taken = g.W.Sink.taken in
    record {
      sent = writes_rest (taken c.args.out.now) (taken c.write_bytes.new.out) (taken c.write_number.new.out) (spaced_number c.args.number) (codes " ") (decimal c.args.number) c.write_number.result
          (refl)
          c.in_ok-write_bytes.ensures.sent c.write_number.ensures.sent;
      errors = search rules;
    }
