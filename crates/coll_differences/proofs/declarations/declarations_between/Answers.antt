-- No declaration of a table stands twice.
use Rattle.std.proofs.Common.{List, ap, sym, subst, ◌∙◌}
use Rattle.coll_nodes.specs.TableLayout.{collation}
use Rattle.coll_nodes.specs.WellFormed.{AreDistinct}
use Rattle.coll_differences.specs.Orders.{Mark, marks_of, same_mark}
use Rattle.coll_differences.proofs.DeclaredNames.{distinct_declared}
use Rattle.coll_differences.proofs.declarations.declarations_between.Goals as goal

pub changes_of_orders-requires-clause-apart : goal.changes_of_orders-requires-clause-apart
changes_of_orders-requires-clause-apart c =
    subst (λ (ms : List Mark). AreDistinct same_mark ms) (sym (ap marks_of c.as_slice-5.ensures.value ∙ c.in_ok-points.ensures))
    (distinct_declared (collation c.args.first.now).declared c.lemma_well_formed.ensures.well_formed.built.distinct_names)

pub changes_of_orders-requires-clause-wanted_apart : goal.changes_of_orders-requires-clause-wanted_apart
changes_of_orders-requires-clause-wanted_apart c =
    subst (λ (ms : List Mark). AreDistinct same_mark ms) (sym (ap marks_of c.as_slice-6.ensures.value ∙ c.in_ok-wanted.ensures))
    (distinct_declared (collation c.args.second.now).declared c.lemma_well_formed-2.ensures.well_formed.built.distinct_names)
