-- One change after another is done.
use Rattle.std.proofs.Common.{subst}
use Rattle.std.specs.Prelude.{All, IsTrue}
use Rattle.std.specs.Vec.Iter.{into_iter_items}
use Rattle.std.proofs.lemmas.List.Elements.{All-tail}
use Rattle.coll_order.specs.Layout.{is_in}
use Rattle.coll_texts.specs.declared.own_weights.Change.{Change}
use Rattle.coll_texts.proofs.OwnChanges.{one_exchanged}
use Rattle.coll_texts.proofs.own_weights.exchange_all.Goals as goal

pub loop-change-preserved : goal.loop-change-preserved
loop-change-preserved c =
    let old = c.args.body.now.layout in
    let stands = λ (change : Change). IsTrue (is_in old.rings change.node) in
    let done = one_exchanged old c.loop-change.body.layout c.exchange.new.body.layout _ c.in-Some.change (into_iter_items c.loop-change.change-iterator) (into_iter_items c.next.new.self)
    c.in-Some.ensures.steps.0 c.loop-change.invariant.rings c.loop-change.invariant.left c.exchange.ensures in
    record {
      rings = done.0;
      stand = All-tail stands c.in-Some.change (into_iter_items c.next.new.self) (subst (All stands) c.in-Some.ensures.steps.0 c.loop-change.invariant.stand);
      left = done.1;
    }
