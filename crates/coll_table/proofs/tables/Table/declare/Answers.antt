-- A declaration is prepared, and carried out.
use Rattle.coll_table.specs.Applied.{declaring}
use Rattle.coll_table.proofs.AppliedStatements.{IsReady, applied, declaration_ready, ready_well_formed}
use Rattle.coll_table.proofs.ListedItems.{declaration_listed}
use Rattle.coll_table.proofs.tables.Table.declare.Goals as goal

ready : (c : goal.After-carry_out-arg-1) → IsReady c.prepare_declaration.new.self (declaring c.args.new) c.in_ok-items.items.items
ready c = declaration_ready c.args.self.now c.prepare_declaration.new.self c.args.new c.in_ok-items.items.items c.lemma_well_formed.ensures.table c.in_ok-items.ensures.added c.requires.proper
    c.requires.accepted c.in_ok-items.ensures.prepared

pub carry_out-requires-clause-goes : goal.carry_out-requires-clause-goes
carry_out-requires-clause-goes c = (ready c).done.goes

pub carry_out-requires-clause-few : goal.carry_out-requires-clause-few
carry_out-requires-clause-few c = (ready c).few

pub carry_out-requires-clause-well_formed : goal.carry_out-requires-clause-well_formed
carry_out-requires-clause-well_formed c = ready_well_formed c.prepare_declaration.new.self (declaring c.args.new) c.in_ok-items.items.items (ready c)

pub returns-clause-applied : goal.returns-clause-applied
returns-clause-applied c =
    applied c.args.self.now c.prepare_declaration.new.self c.carry_out.new.self (declaring c.args.new) c.in_ok-items.items.items c.carry_out.result c.lemma_well_formed.ensures.table
    c.in_ok-items.ensures.added
    (declaration_ready c.args.self.now c.prepare_declaration.new.self c.args.new c.in_ok-items.items.items c.lemma_well_formed.ensures.table c.in_ok-items.ensures.added c.requires.proper
    c.requires.accepted c.in_ok-items.ensures.prepared)
    c.carry_out.ensures.rules c.carry_out.ensures.layout c.carry_out.ensures.record
    (declaration_listed c.args.self.now c.prepare_declaration.new.self c.args.new c.in_ok-items.items.items c.in_ok-items.ensures.added c.in_ok-items.ensures.prepared)
