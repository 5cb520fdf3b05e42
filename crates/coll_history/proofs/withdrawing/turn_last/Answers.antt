-- The record that was taken fits, and it alone is turned.
use Rattle.std.proofs.Common.{refl}
use Rattle.coll_history.specs.declared.histories.Kept.{Kept}
use Rattle.coll_history.proofs.HistorySteps.{fits_counted, is_turned}
use Rattle.coll_history.proofs.withdrawing.turn_last.Goals as goal

pub flip-requires : goal.flip-requires
flip-requires c =
    let k = c.take_last-kept.result in
    record { fits = fits_counted c.args.table.now k (c.requires.fits c.take_last-kept.new.self.items k c.take_last-kept.ensures.items) }

pub returns-clause-turned : goal.returns-clause-turned
returns-clause-turned c =
    let k = c.take_last-kept.result in
    let k1 : Kept = record { statement = k.statement; change = c.flip.new.kept } in
    record {
      kept = k;
      kept_turned = k1;
      from_is = c.take_last-kept.ensures.items;
      onto_is = c.push_reserved.ensures.items;
      is_turned = is_turned c.lemma_records_turn_back.ensures c.args.table.now c.flip.new.self k k1 c.lemma_well_formed.ensures.table
          (c.requires.fits c.take_last-kept.new.self.items k c.take_last-kept.ensures.items) refl c.flip.ensures.turned c.flip.ensures.record;
    }
