-- A block is prepared, and carried out.
use Rattle.coll_syntax.specs.declared.statements.Statement.TheVariants as statement
use Rattle.coll_table.specs.Delta.{own_delta}
use Rattle.coll_nodes.specs.TableLayout.{collation}
use Rattle.coll_table.proofs.AcceptedStatements.{block_accepted}
use Rattle.coll_table.proofs.AppliedStatements.{IsReady, applied, block_ready, ready_well_formed}
use Rattle.coll_table.proofs.ListedItems.{block_listed}
use Rattle.coll_table.proofs.tables.Table.apply_block.Goals as goal

pub prepare_block-requires : goal.prepare_block-requires
unfolding own_delta
prepare_block-requires c = record { placed = (block_accepted (collation c.args.self.now) c.args.target.now c.args.lines.now c.requires.accepted).placed }

ready : (c : goal.After-carry_out-arg-1) → IsReady c.prepare_block.new.self (statement.Block c.args.target.now c.args.lines.now) c.in_ok-items.items.items
ready c = block_ready c.args.self.now c.prepare_block.new.self c.args.target.now c.args.lines.now c.in_ok-items.items.items c.lemma_well_formed.ensures.table c.in_ok-items.ensures.added
    c.requires.proper c.requires.accepted c.in_ok-items.ensures.prepared

pub carry_out-requires-clause-goes : goal.carry_out-requires-clause-goes
carry_out-requires-clause-goes c = (ready c).done.goes

pub carry_out-requires-clause-few : goal.carry_out-requires-clause-few
carry_out-requires-clause-few c = (ready c).few

pub carry_out-requires-clause-well_formed : goal.carry_out-requires-clause-well_formed
carry_out-requires-clause-well_formed c = ready_well_formed c.prepare_block.new.self (statement.Block c.args.target.now c.args.lines.now) c.in_ok-items.items.items (ready c)

pub returns-clause-applied : goal.returns-clause-applied
returns-clause-applied c =
    applied c.args.self.now c.prepare_block.new.self c.carry_out.new.self (statement.Block c.args.target.now c.args.lines.now) c.in_ok-items.items.items c.carry_out.result
    c.lemma_well_formed.ensures.table c.in_ok-items.ensures.added
    (block_ready c.args.self.now c.prepare_block.new.self c.args.target.now c.args.lines.now c.in_ok-items.items.items c.lemma_well_formed.ensures.table c.in_ok-items.ensures.added c.requires.proper
    c.requires.accepted c.in_ok-items.ensures.prepared)
    c.carry_out.ensures.rules c.carry_out.ensures.layout c.carry_out.ensures.record
    (block_listed c.args.self.now c.prepare_block.new.self c.args.target.now c.args.lines.now c.in_ok-items.items.items c.lemma_well_formed.ensures.table c.in_ok-items.ensures.added
    c.requires.accepted c.in_ok-items.ensures.prepared)
