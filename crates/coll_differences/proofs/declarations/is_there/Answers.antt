-- The point that declares its name tells whether a declaration is there, or its name isn't declared.
use Rattle.std.proofs.Common.{ap, sym, ◌∙◌}
use Rattle.coll_nodes.specs.Table.{is_declared}
use Rattle.coll_nodes.specs.TableLayout.{collation}
use Rattle.coll_nodes.specs.WalkItems.{declared_by}
use Rattle.coll_differences.specs.Orders.{marks_of}
use Rattle.coll_differences.proofs.DeclaredNames.{told_named, undeclared}
use Rattle.coll_differences.proofs.declarations.is_there.Goals as goal

pub returns-in-Some : goal.returns-in-Some
returns-in-Some c =
    told_named (collation c.args.table.now).declared (marks_of c.args.declared.now) (declared_by c.args.item) c.in-Some.is_same c.requires
    c.lemma_well_formed.ensures.well_formed.built.distinct_names c.in-Some.ensures

pub returns-then-not-declares : goal.returns-then-not-declares
returns-then-not-declares c =
    let declared = (collation c.args.table.now).declared in
    sym (undeclared declared (declared_by c.args.item) (ap (is_declared declared) (sym c.name_of.ensures) ∙ (sym c.declares.ensures ∙ c.if-not-declares.true)))
