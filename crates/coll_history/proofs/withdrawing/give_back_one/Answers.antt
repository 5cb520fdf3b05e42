-- The record is turned, and what it added is loose then.
use Rattle.coll_history.proofs.RebuiltTables.{is_given_back, is_undone, record_fits_counted, turned_loose}
use Rattle.coll_history.proofs.withdrawing.give_back_one.Goals as goal

pub flip-requires : goal.flip-requires
flip-requires c = record { fits = record_fits_counted c.args.table.now c.args.change c.requires.fits }

pub forget-requires : goal.forget-requires
forget-requires c = record {
  loose = turned_loose c.lemma_undone_records_put_in.ensures c.flip.new.self c.flip.new.kept c.lemma_well_formed.ensures.table
      (is_undone c.args.table.now c.args.change c.flip.new.kept c.requires.in_force c.flip.ensures.record) c.flip.ensures.fits;
}

pub returns : goal.returns
returns c = is_given_back c.lemma_records_add_alike.ensures c.args.table.now c.flip.new.self c.forget.new.self c.args.change c.flip.new.kept c.requires.in_force c.flip.ensures.turned
    c.flip.ensures.record c.forget.ensures
