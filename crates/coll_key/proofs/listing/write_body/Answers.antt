-- The rules, and the entries.
use Rattle.std.proofs.Common.{◌++◌, refl, rules}
use Rattle.std.specs.List.{flat_map}
use Rattle.coll_nodes.specs.TableLayout.{collation}
use Rattle.coll_key.specs.CompiledListing.{listed_rule}
use Rattle.coll_key.specs.ListingParts.{entries_part}
use Rattle.coll_texts.proofs.PrintedParts.{stops_first, writes_rest}
use Rattle.coll_key.proofs.listing.write_body.Goals as goal

pub returns-in_err-write_rules : goal.returns-in_err-write_rules
returns-in_err-write_rules g c =
    let taken = g.W.Sink.taken in
    record {
      sent = stops_first (taken c.args.out.now) (taken c.write_rules.new.out) (flat_map listed_rule (collation c.args.table.now).rules ++ entries_part (collation c.args.table.now))
          (flat_map listed_rule (collation c.args.table.now).rules) (entries_part (collation c.args.table.now)) c.from_residual.result (refl) c.from_residual.ensures.0
          (let part = rw c.rules.ensures at c.in_err-write_rules.ensures.sent in part);
      errors = search rules;
    }

pub returns : goal.returns
returns g c =
    let taken = g.W.Sink.taken in
    record {
      sent = writes_rest (taken c.args.out.now) (taken c.write_rules.new.out) (taken c.write_entries.new.out)
          (flat_map listed_rule (collation c.args.table.now).rules ++ entries_part (collation c.args.table.now)) (flat_map listed_rule (collation c.args.table.now).rules)
          (entries_part (collation c.args.table.now)) c.write_entries.result (refl) (let part = rw c.rules.ensures at c.in_ok-write_rules.ensures.sent in part) c.write_entries.ensures.sent;
      errors = search rules;
    }
