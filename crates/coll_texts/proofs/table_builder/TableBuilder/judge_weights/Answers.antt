-- A walk meets the entries in order, and each has the number of its line.
use Rattle.std.proofs.Common.{◌≡◌, Option, Some, None, OnOk, IfErr, subst}
use Rattle.coll_texts.specs.declared.load_faults.LoadFault.{LoadFault}
use Rattle.coll_texts.proofs.VisitedEntries.{visited_numbered, visited_judged}
use Rattle.coll_texts.proofs.table_builder.TableBuilder.judge_weights.Goals as goal

pub judge_visited-requires : goal.judge_visited-requires
judge_visited-requires c = visited_numbered _ c.deref.result.now c.walk.result c.self.invariant c.deref.ensures.value c.walk.ensures

pub returns-clause-ok : goal.returns-clause-ok
returns-clause-ok c =
    subst (λ (f : Option LoadFault). OnOk c.judge_visited.result (f ≡ None)) (visited_judged c.args.self.now _ c.deref.result.now c.walk.result c.self.view_is c.deref.ensures.value c.walk.ensures)
    c.judge_visited.ensures.ok

pub returns-clause-err : goal.returns-clause-err
returns-clause-err c =
    subst (λ (f : Option LoadFault). IfErr c.judge_visited.result (λ fault. f ≡ Some fault))
    (visited_judged c.args.self.now _ c.deref.result.now c.walk.result c.self.view_is c.deref.ensures.value c.walk.ensures) c.judge_visited.ensures.err
