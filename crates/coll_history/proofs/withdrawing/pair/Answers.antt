-- The next statement gets its new record, and its old one's nodes are none of the others'.
use Rattle.std.proofs.Common.{sym, ◌∙◌, subst, reverse, arith}
use Rattle.coll_history.specs.Kept.{added_by_all}
use Rattle.coll_table.specs.Record.{AreLoose, Extends, dropped_nodes}
use Rattle.coll_nodes.specs.TableLayout.{TableValue}
use Rattle.coll_history.proofs.GivenUp.{extends_on, extends_without, in_order, loose_first, loose_later, without_first}
use Rattle.coll_history.proofs.PairedStatements.{all_paired, paired_next}
use Rattle.coll_history.proofs.RebuiltTables.{none_left}
use Rattle.coll_history.proofs.withdrawing.pair.Goals as goal

pub renew-kept-requires : goal.renew-kept-requires
renew-kept-requires c =
    let k = c.take_last.result in
    let rest = c.take_last.new.self.items in
    record {
      loose = loose_first c.pairs.table.layout (dropped_nodes k.change) (added_by_all (reverse rest))
          (in_order c.pairs.table.layout c.pairs.undone.items rest k c.take_last.ensures.items c.pairs.invariant.loose);
    }

pub pairs-preserved : goal.pairs-preserved
pairs-preserved c =
    let k = c.take_last.result in
    let rest = c.take_last.new.self.items in
    record {
      table = subst (Extends c.args.table.now) (sym c.renew-kept.ensures.table) (extends_on _ _ _ c.pairs.invariant.table (extends_without c.pairs.table (dropped_nodes k.change)));
      dropped = without_first c.pairs.table c.renew-kept.new.table c.pairs.undone.items rest k c.take_last.ensures.items c.renew-kept.ensures.table ∙ c.pairs.invariant.dropped;
      loose = subst (λ (t : TableValue). AreLoose t.layout (added_by_all (reverse rest))) (sym c.renew-kept.ensures.table)
          (loose_later c.pairs.table (dropped_nodes k.change) (added_by_all (reverse rest))
          (in_order c.pairs.table.layout c.pairs.undone.items rest k c.take_last.ensures.items c.pairs.invariant.loose));
      whole = paired_next c.pairs.remaining.items c.push_reserved.new.self.items c.pairs.undone.items rest c.pairs.fresh.items c.pop.new.self.items k c.renew-kept.result c.in-Some.change
          c.take_last.ensures.items c.in-Some.ensures.items c.renew-kept.ensures.kept c.push_reserved.ensures.items
          ∙ c.pairs.invariant.whole;
      count = omega (arith, c.pairs.invariant.count, c.in-Some.ensures.cases, c.take_last.ensures.len);
      len = omega (arith, c.pairs.invariant.len, c.in-Some.ensures.cases, c.push_reserved.ensures.len);
      remaining_room = c.push_reserved.ensures.capacity ∙ c.pairs.invariant.remaining_room;
      undone_room = c.take_last.ensures.capacity ∙ c.pairs.invariant.undone_room;
    }

pub returns-clause-remaining : goal.returns-clause-remaining
returns-clause-remaining c =
    all_paired c.pairs.remaining.items c.pairs.undone.items c.pairs.fresh.items (none_left c.pairs.fresh.items (omega (arith, c.in_default.ensures.cases.0, c.pairs.fresh.ok.0)))
    ∙ c.pairs.invariant.whole
