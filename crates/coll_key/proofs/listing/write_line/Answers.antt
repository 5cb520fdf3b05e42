-- The rank, a space, the identifier, and the levels.
use Rattle.std.proofs.Common.{◌++◌, codes, decimal, refl, append_assoc, rules}
use Rattle.coll_key.specs.ListingParts.{levels_ended, ranked_line, spaced, spelled_with}
use Rattle.coll_texts.proofs.PrintedParts.{stops_first, writes_rest}
use Rattle.coll_key.proofs.listing.write_line.Goals as goal

pub returns-in_err-write_number : goal.returns-in_err-write_number
returns-in_err-write_number g c =
    let id = spelled_with c.args.ranks.now c.args.id.now in
    let levels = levels_ended c.args.ranks.now c.args.rank c.args.id.now c.args.weights.now in
    let part = rw c.from.ensures at c.in_err-write_number.ensures.sent in
    record {
      sent = stops_first _ _ (ranked_line c.args.ranks.now c.args.rank c.args.id.now c.args.weights.now) (decimal c.args.rank) (codes " " ++ (id ++ levels)) c.from_residual.result
          (append_assoc (decimal c.args.rank) (spaced id) levels) c.from_residual.ensures.0 part;
      errors = search rules;
    }

pub returns-in_err-write_bytes : goal.returns-in_err-write_bytes
returns-in_err-write_bytes g c =
    let id = spelled_with c.args.ranks.now c.args.id.now in
    let levels = levels_ended c.args.ranks.now c.args.rank c.args.id.now c.args.weights.now in
    let rank = rw c.from.ensures at c.in_ok-write_number.ensures.sent in
    record {
      sent = writes_rest _ _ _ (ranked_line c.args.ranks.now c.args.rank c.args.id.now c.args.weights.now) (decimal c.args.rank) (codes " " ++ (id ++ levels)) c.from_residual-in_err-write_bytes.result
          (append_assoc (decimal c.args.rank) (spaced id) levels) rank
          (stops_first _ _ (codes " " ++ (id ++ levels)) (codes " ") (id ++ levels) c.from_residual-in_err-write_bytes.result refl c.from_residual-in_err-write_bytes.ensures.0
          c.in_err-write_bytes.ensures.sent);
      errors = search rules;
    }

pub returns-in_err-write_id : goal.returns-in_err-write_id
returns-in_err-write_id g c =
    let id = spelled_with c.args.ranks.now c.args.id.now in
    let levels = levels_ended c.args.ranks.now c.args.rank c.args.id.now c.args.weights.now in
    let rank = rw c.from.ensures at c.in_ok-write_number.ensures.sent in
    record {
      sent = writes_rest _ _ _ (ranked_line c.args.ranks.now c.args.rank c.args.id.now c.args.weights.now) (decimal c.args.rank) (codes " " ++ (id ++ levels)) c.from_residual-in_err-write_id.result
          (append_assoc (decimal c.args.rank) (spaced id) levels) rank
          (writes_rest _ _ _ (codes " " ++ (id ++ levels)) (codes " ") (id ++ levels) c.from_residual-in_err-write_id.result refl c.in_ok-write_bytes.ensures.sent
          (stops_first _ _ (id ++ levels) id levels c.from_residual-in_err-write_id.result refl c.from_residual-in_err-write_id.ensures.0 c.in_err-write_id.ensures.sent));
      errors = search rules;
    }

pub returns : goal.returns
returns g c =
    let id = spelled_with c.args.ranks.now c.args.id.now in
    let levels = levels_ended c.args.ranks.now c.args.rank c.args.id.now c.args.weights.now in
    let rank = rw c.from.ensures at c.in_ok-write_number.ensures.sent in
    record {
      sent = writes_rest _ _ _ (ranked_line c.args.ranks.now c.args.rank c.args.id.now c.args.weights.now) (decimal c.args.rank) (codes " " ++ (id ++ levels)) c.write_levels.result
          (append_assoc (decimal c.args.rank) (spaced id) levels) rank
          (writes_rest _ _ _ (codes " " ++ (id ++ levels)) (codes " ") (id ++ levels) c.write_levels.result refl c.in_ok-write_bytes.ensures.sent
          (writes_rest _ _ _ (id ++ levels) id levels c.write_levels.result refl c.in_ok-write_id.ensures.sent c.write_levels.ensures.sent));
      errors = search rules;
    }
