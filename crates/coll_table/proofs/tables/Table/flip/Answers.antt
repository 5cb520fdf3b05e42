-- The table and the record are those of the turn.
use Rattle.coll_table.proofs.RecordFlips.{IsFlipped, flipped_body}
use Rattle.coll_nodes.specs.Bodies.{value_of}
use Rattle.coll_table.proofs.tables.Table.flip.Goals as goal

-- once the record is turned
flips : (c : goal.After-turn_record) → IsFlipped c.args.self.now c.args.kept.now (value_of c.self.inside.rules c.turn_record.new.body) c.turn_record.new.kept
flips c =
    let turns = c.turn_record.ensures in
    flipped_body c.self.inside.rules c.self.inside.body c.turn_record.new.body c.args.self.now c.args.kept.now c.turn_record.new.kept c.self.view_is c.lemma_well_formed.ensures.table c.requires.fits
    turns.layout turns.undone turns.items

pub invariant_of-self : goal.invariant_of-self
invariant_of-self c = (flips c).well_formed

pub returns-clause-turned : goal.returns-clause-turned
returns-clause-turned c = (flips c).same

pub returns-clause-record : goal.returns-clause-record
returns-clause-record c = (flips c).is_turned

pub returns-clause-fits : goal.returns-clause-fits
returns-clause-fits c = (flips c).fits

pub returns-clause-back : goal.returns-clause-back
returns-clause-back c = (flips c).back
