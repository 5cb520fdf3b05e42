-- What is told stands before the others.
use Rattle.std.proofs.Common.{sym, subst}
use Rattle.coll_findings.specs.ToldFaults.{AreOnce}
use Rattle.coll_lint.proofs.first_faults.put_first.Goals as goal

pub returns-clause-once : goal.returns-clause-once
returns-clause-once c = λ once. subst AreOnce (sym c.in_ok-insert.ensures.items) (c.found_as-told.ensures.once once)

pub returns-clause-others : goal.returns-clause-others
returns-clause-others c = (c.found_as-told.result, c.found_as-told.new.faults.items, c.in_ok-insert.ensures.items, c.found_as-told.ensures.fault, c.found_as-told.ensures.others)
