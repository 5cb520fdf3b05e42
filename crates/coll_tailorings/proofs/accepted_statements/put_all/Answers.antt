-- Before the first statement nothing is kept, and each one leads on.
use Rattle.std.proofs.Common.{◌+◌, arith}
use Rattle.coll_nodes.specs.TableLayout.{collation}
use Rattle.coll_tailorings.proofs.LineCountLemmas.{counted_none, counted_on, none_is_written}
use Rattle.coll_tailorings.proofs.RewritingLemmas.{led_on, rewritten_by_none}
use Rattle.coll_tailorings.proofs.accepted_statements.put_all.Goals as goal

pub loop-statement-init : goal.loop-statement-init
loop-statement-init c = record {
  kept = rewritten_by_none (collation c.args.table.now) c.new-kept.result.items c.new-kept.ensures.items;
  written = none_is_written c.new-kept.result.items c.new-kept.ensures.items;
  counted = counted_none (c.args.copies + 4) c.new-kept.result.items c.new-kept.ensures.items;
  few = omega (arith, c.if-copies.false);
}

pub loop-statement-preserved : goal.loop-statement-preserved
loop-statement-preserved c = record {
  kept = led_on (collation c.args.table.now) c.loop-statement.kept.items (collation c.loop-statement.table) c.put.new.kept.items
      (collation c.put.new.table) c.in_ok-lines.ensures.rewritten c.loop-statement.invariant.kept;
  written = c.in_ok-lines.ensures.writable c.loop-statement.invariant.written;
  counted = counted_on c.in_ok-lines.lines c.loop-statement.kept.items c.loop-statement.lines c.put.new.kept.items (c.args.copies + 4)
      c.in_ok-lines.ensures.counted c.loop-statement.invariant.counted;
  few = c.in_ok-lines.ensures.few;
}
