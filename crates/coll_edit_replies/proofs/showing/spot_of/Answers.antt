-- The place of an entry, found by its identifier, and what stands beside it.
use Rattle.coll_nodes.specs.Table.{entries_of}
use Rattle.coll_nodes.specs.TableLayout.{collation}
use Rattle.coll_edit_replies.proofs.ShowingLemmas.{spot_around, spot_placed}
use Rattle.coll_edit_replies.proofs.showing.spot_of.Goals as goal

pub returns-clause-around : goal.returns-clause-around
returns-clause-around c =
    spot_around (entries_of (collation c.args.table.now)) c.args.entry.now c.id-id.result.now c.rank_of.result _ _ c.lemma_well_formed.ensures.well_formed.built.distinct_entries c.requires.entry
    c.id-id.ensures c.rank_of.ensures c.entry_before.ensures c.entry_behind.ensures

pub returns-clause-place : goal.returns-clause-place
returns-clause-place c = spot_placed (collation c.args.table.now) c.args.entry.now c.id-id.result.now c.rank_of.result _ c.requires.entry c.id-id.ensures c.rank_of.ensures c.section_name.ensures
