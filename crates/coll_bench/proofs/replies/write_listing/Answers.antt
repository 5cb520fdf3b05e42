use Rattle.std.proofs.Common.{◌++◌, length, codes, rules}
use Rattle.coll_devices.proofs.WritingLemmas.{AppendsPrefix-before, Sends-after, Sends-stopped}
use Rattle.coll_nodes.specs.Table.{entries_of}
use Rattle.coll_nodes.specs.TableLayout.{collation}
use Rattle.coll_bench.specs.Replies.{listed_sections, counted_line, listing}
use Rattle.coll_bench.proofs.replies.write_listing.Goals as goal

pub returns-in_err-write_walk : goal.returns-in_err-write_walk
unfolding listing
returns-in_err-write_walk g c =
    record {
      sent = let taken = g.W.Sink.taken in
          let table = collation c.args.table.now in
          Sends-stopped (taken c.args.out.now) (taken c.write_walk.new.out) (listed_sections 1 table.sections ++ counted_line (codes "listed") (length (entries_of table))) c.from_residual.result
          c.from_residual.ensures.0
          (AppendsPrefix-before (taken c.args.out.now) (taken c.write_walk.new.out) (listed_sections 1 table.sections) (counted_line (codes "listed") (length (entries_of table)))
          c.in_err-write_walk.ensures.sent);
      errors = search rules;
    }

pub returns : goal.returns
unfolding listing
returns g c =
    record {
      sent = let taken = g.W.Sink.taken in
          let table = collation c.args.table.now in
          let last = rw c.len.ensures at c.write_counted.ensures.sent in
          Sends-after (taken c.args.out.now) (taken c.write_walk.new.out) (taken c.write_counted.new.out) (listed_sections 1 table.sections) (counted_line (codes "listed") (length (entries_of table)))
          c.write_counted.result c.in_ok-write_walk.ensures.sent last;
      errors = search rules;
    }
