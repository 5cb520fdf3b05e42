-- UNDEFINED, and the last line.
use Rattle.std.proofs.Common.{◌++◌, codes, refl, rules}
use Rattle.coll_nodes.specs.TableLayout.{collation}
use Rattle.coll_key.specs.CompiledListing.{listed_undefined}
use Rattle.coll_texts.proofs.PrintedParts.{stops_first, writes_rest}
use Rattle.coll_key.proofs.listing.write_end.Goals as goal

pub returns-in_err-write_unplaced : goal.returns-in_err-write_unplaced
returns-in_err-write_unplaced g c =
    let taken = g.W.Sink.taken in
    record {
      sent = stops_first (taken c.args.out.now) (taken c.write_unplaced.new.out) (listed_undefined (collation c.args.table.now) ++ codes "end\n") (listed_undefined (collation c.args.table.now))
          (codes "end\n")
          c.from_residual.result (refl) c.from_residual.ensures.0 c.in_err-write_unplaced.ensures.sent;
      errors = search rules;
    }

pub returns : goal.returns
returns g c =
    let taken = g.W.Sink.taken in
    record {
      sent = writes_rest (taken c.args.out.now) (taken c.write_unplaced.new.out) (taken c.write_bytes.new.out) (listed_undefined (collation c.args.table.now) ++ codes "end\n")
          (listed_undefined (collation c.args.table.now)) (codes "end\n") c.write_bytes.result (refl) c.in_ok-write_unplaced.ensures.sent c.write_bytes.ensures.sent;
      errors = search rules;
    }
