-- A statement that is kept is one that the table accepts; else all is as it was.
use Rattle.std.proofs.Common.{refl}
use Rattle.coll_nodes.specs.TableLayout.{collation}
use Rattle.coll_tailorings.proofs.LineCountLemmas.{counted_with, written_with}
use Rattle.coll_tailorings.proofs.RewritingLemmas.{leads_on_with, leads_on_without}
use Rattle.coll_tailorings.proofs.accepted_statements.put.Goals as goal

pub returns-in_ok-push-in-Ok-Some-clause-rewritten : goal.returns-in_ok-push-in-Ok-Some-clause-rewritten
returns-in_ok-push-in-Ok-Some-clause-rewritten c =
    leads_on_with c.args.kept.now.items c.push.new.self.items (collation c.args.table.now) c.args.made.statement
    (collation c.lines_with.new.table) (rw c.in-Ok-Some.field-0-is at c.in-Ok-Some.ensures.put) c.in_ok-push-in-Ok-Some.ensures.items

pub returns-in-Ok-None-clause-rewritten : goal.returns-in-Ok-None-clause-rewritten
returns-in-Ok-None-clause-rewritten c =
    leads_on_without c.args.kept.now.items (collation c.args.table.now) (collation c.lines_with.new.table)
    (rw c.in-Ok-None.field-0-is at c.in-Ok-None.ensures.put)

pub returns-in_ok-push-in-Ok-Some-clause-writable : goal.returns-in_ok-push-in-Ok-Some-clause-writable
returns-in_ok-push-in-Ok-Some-clause-writable c = λ before.
    written_with c.args.kept.now.items c.push.new.self.items c.args.made.statement
    (rw c.in-Ok-Some.field-0-is at c.in-Ok-Some.ensures.writable refl) c.in_ok-push-in-Ok-Some.ensures.items before

pub returns-in_ok-push-in-Ok-Some-clause-counted : goal.returns-in_ok-push-in-Ok-Some-clause-counted
returns-in_ok-push-in-Ok-Some-clause-counted c =
    counted_with c.in-Ok-Some.after c.args.lines c.args.kept.now.items c.push.new.self.items c.args.made.statement
    (rw c.in-Ok-Some.field-0-is at c.in-Ok-Some.ensures.counted) c.in_ok-push-in-Ok-Some.ensures.items
