-- An order line outside a block is prepared, and carried out.
use Rattle.coll_syntax.specs.declared.statements.Statement.TheVariants as statement
use Rattle.coll_table.specs.Delta.{own_delta}
use Rattle.coll_nodes.specs.TableLayout.{collation}
use Rattle.coll_table.proofs.AcceptedStatements.{reweight_accepted}
use Rattle.coll_table.proofs.AppliedStatements.{IsReady, applied, ready_well_formed, reweight_adds, reweight_ready}
use Rattle.coll_table.proofs.ListedItems.{reweight_listed}
use Rattle.coll_table.proofs.tables.Table.reweight.Goals as goal

pub prepare_reweight-requires : goal.prepare_reweight-requires
unfolding own_delta
prepare_reweight-requires c = record { placed = (reweight_accepted (collation c.args.self.now) c.args.line.now c.requires.accepted).placed }

ready : (c : goal.After-carry_out-arg-1) → IsReady c.args.self.now (statement.Reweight c.args.line.now) c.in_ok-items.items.items
ready c = reweight_ready c.args.self.now c.args.line.now c.in_ok-items.items.items c.lemma_well_formed.ensures.table c.requires.proper c.requires.accepted c.in_ok-items.ensures

pub carry_out-requires-clause-goes : goal.carry_out-requires-clause-goes
carry_out-requires-clause-goes c = (ready c).done.goes

pub carry_out-requires-clause-few : goal.carry_out-requires-clause-few
carry_out-requires-clause-few c = (ready c).few

pub carry_out-requires-clause-well_formed : goal.carry_out-requires-clause-well_formed
carry_out-requires-clause-well_formed c = ready_well_formed c.args.self.now (statement.Reweight c.args.line.now) c.in_ok-items.items.items (ready c)

pub returns-clause-applied : goal.returns-clause-applied
returns-clause-applied c =
    applied c.args.self.now c.args.self.now c.carry_out.new.self (statement.Reweight c.args.line.now) c.in_ok-items.items.items c.carry_out.result c.lemma_well_formed.ensures.table
    (reweight_adds c.args.self.now c.args.line.now c.in_ok-items.items.items c.in_ok-items.ensures)
    (reweight_ready c.args.self.now c.args.line.now c.in_ok-items.items.items c.lemma_well_formed.ensures.table c.requires.proper c.requires.accepted c.in_ok-items.ensures)
    c.carry_out.ensures.rules c.carry_out.ensures.layout c.carry_out.ensures.record
    (reweight_listed c.args.self.now c.args.line.now c.in_ok-items.items.items c.lemma_well_formed.ensures.table c.in_ok-items.ensures)
