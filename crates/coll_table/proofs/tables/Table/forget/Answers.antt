-- The table is the one without the nodes that an undone record would put in again.
use Rattle.std.proofs.Common.{◌≡◌, subst, sym}
use Rattle.coll_table.proofs.RecordForgets.{forgotten_body, kept_nodes, well_formed_without}
use Rattle.coll_nodes.specs.Bodies.{value_of}
use Rattle.coll_table.specs.Record.{dropped_nodes, without_nodes}
use Rattle.coll_nodes.specs.TableLayout.{TableValue, collation}
use Rattle.coll_nodes.specs.WellFormed.{IsWellFormed}
use Rattle.coll_table.proofs.tables.Table.forget.Goals as goal

pub returns-then-not-kept : goal.returns-then-not-kept
returns-then-not-kept c = kept_nodes c.args.self.now c.args.kept c.if-not-kept.true

pub invariant_of-self : goal.invariant_of-self
invariant_of-self c =
    let forgotten : value_of c.self.inside.rules c.drop_added.new.body ≡ without_nodes c.args.self.now (dropped_nodes c.args.kept) =
    forgotten_body c.self.inside.rules c.self.inside.body c.drop_added.new.body c.args.self.now c.args.kept c.get.result.now c.self.view_is c.if-not-kept.false c.get.ensures
    c.drop_added.ensures.layout c.drop_added.ensures.steps in
    subst (λ (table : TableValue). IsWellFormed (collation table)) (sym forgotten) (well_formed_without c.args.self.now (dropped_nodes c.args.kept) c.lemma_well_formed.ensures.table c.requires.loose)

pub returns : goal.returns
returns c =
    forgotten_body c.self.inside.rules c.self.inside.body c.drop_added.new.body c.args.self.now c.args.kept c.get.result.now c.self.view_is c.if-not-kept.false c.get.ensures
    c.drop_added.ensures.layout c.drop_added.ensures.steps
