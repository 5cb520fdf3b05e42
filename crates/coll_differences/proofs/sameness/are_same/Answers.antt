-- The tables are the same where all their parts are.
use Rattle.std.proofs.Common.{true, false, ap₂, refl, ◌∙◌}
use Rattle.coll_nodes.specs.TableLayout.{collation}
use Rattle.coll_differences.specs.Sameness.{same_list, same_declaration, same_visited}
use Rattle.coll_differences.proofs.SameTables.{other_declared, same_walked}
use Rattle.coll_differences.proofs.sameness.are_same.Goals as goal

pub returns-then-not-is_same_declared : goal.returns-then-not-is_same_declared
returns-then-not-is_same_declared c =
    other_declared (collation c.args.first.now) (collation c.args.second.now) false (c.if-not-is_same_declared.ensures ∙ ap₂ (same_list same_declaration) c.declared.ensures c.declared-2.ensures)
    refl

pub returns : goal.returns
returns c =
    same_walked (collation c.args.first.now) (collation c.args.second.now) true true c.is_same_walk.result c.if-not-has_same_rules.ensures refl
    (c.if-not-is_same_declared.ensures ∙ ap₂ (same_list same_declaration) c.declared.ensures c.declared-2.ensures) refl
    c.lemma_well_formed.ensures.well_formed.built.first_unnamed c.lemma_well_formed-2.ensures.well_formed.built.first_unnamed
    (c.is_same_walk.ensures ∙ ap₂ (same_list same_visited) c.walk.ensures c.walk-2.ensures)
