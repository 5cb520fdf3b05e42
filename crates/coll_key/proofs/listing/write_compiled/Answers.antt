-- The first line, and those behind it.
use Rattle.std.proofs.Common.{◌++◌, rules}
use Rattle.std.specs.List.{flat_map}
use Rattle.coll_nodes.specs.TableLayout.{collation}
use Rattle.coll_key.specs.CompiledListing.{compiled_listing, listing_head, listed_rule}
use Rattle.coll_key.specs.ListingParts.{entries_part}
use Rattle.coll_key.proofs.ListingLemmas.{listing_parts}
use Rattle.coll_texts.proofs.PrintedParts.{stops_first, writes_rest}
use Rattle.coll_key.proofs.listing.write_compiled.Goals as goal

pub returns-in_err-write_head : goal.returns-in_err-write_head
returns-in_err-write_head g c =
    let taken = g.W.Sink.taken in
    record {
      sent = stops_first (taken c.args.out.now) (taken c.write_head.new.out) (compiled_listing (collation c.args.table.now)) (listing_head (collation c.args.table.now))
          (flat_map listed_rule (collation c.args.table.now).rules ++ entries_part (collation c.args.table.now)) c.from_residual.result (listing_parts (collation c.args.table.now))
          c.from_residual.ensures.0 c.in_err-write_head.ensures.sent;
      errors = search rules;
    }

pub returns : goal.returns
returns g c =
    let taken = g.W.Sink.taken in
    record {
      sent = writes_rest (taken c.args.out.now) (taken c.write_head.new.out) (taken c.write_body.new.out) (compiled_listing (collation c.args.table.now)) (listing_head (collation c.args.table.now))
          (flat_map listed_rule (collation c.args.table.now).rules ++ entries_part (collation c.args.table.now)) c.write_body.result (listing_parts (collation c.args.table.now))
          c.in_ok-write_head.ensures.sent c.write_body.ensures.sent;
      errors = search rules;
    }
