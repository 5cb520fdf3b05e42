-- From the last item on, one more is taken back at each turn of the loop.
use Rattle.std.proofs.Common.{◌≡◌, ◌-◌, ◌<◌, suc, length, set, ◌+◌, subst, arith}
use Rattle.coll_table.proofs.TurningSteps.{AreBack, back_done, back_few, back_init, back_more, back_next}
use Rattle.coll_table.proofs.turning.take_items_back.Goals as goal

-- the loop stands behind an item
stands : (c : goal.After-index-items-at) → AreBack c.args.body.now.layout c.args.items.now c.args.body.now.steps (suc (c.loop-at.at - 1)) c.loop-at.body.layout c.loop-at.items c.loop-at.count
    c.loop-at.body.steps
stands c =
    let same : c.loop-at.at ≡ suc (c.loop-at.at - 1) = let some = c.loop-at-test.true in omega (arith, some) in
    subst (λ at. AreBack c.args.body.now.layout c.args.items.now c.args.body.now.steps at c.loop-at.body.layout c.loop-at.items c.loop-at.count c.loop-at.body.steps) same c.loop-at.invariant

-- which is one of them
within : (c : goal.After-index-items-at) → c.loop-at.at - 1 < length c.args.items.now
within c = let some = c.loop-at-test.true in let most = c.loop-at.auto.at in omega (arith, some, most)

-- and is taken back
taken : (c : goal.After-take_back-count) → AreBack c.args.body.now.layout c.args.items.now c.args.body.now.steps (c.loop-at.at - 1) c.take_back-count.new.body.layout
    (set c.loop-at.items (c.loop-at.at - 1) c.take_back-count.new.item) (c.loop-at.count + c.take_back-count.result) c.take_back-count.new.body.steps
taken c = back_more c.args.body.now.layout c.args.items.now c.args.body.now.steps (c.loop-at.at - 1) c.loop-at.body.layout c.loop-at.items c.loop-at.count c.loop-at.body.steps (stands c.before)
    (within c.before) c.index-items-at.result
    c.take_back-count.new.body.layout c.take_back-count.new.item c.take_back-count.result c.take_back-count.new.body.steps c.take_back-count.ensures.layout c.take_back-count.ensures.item
    c.take_back-count.ensures.count c.take_back-count.ensures.steps

pub loop-at-init : goal.loop-at-init
loop-at-init c = back_init c.args.body.now.layout c.args.items.now c.args.body.now.steps c.lemma_steps.ensures

pub take_back-count-requires : goal.take_back-count-requires
take_back-count-requires c = record {
  goes = back_next c.args.body.now.layout c.args.items.now c.args.body.now.steps (c.loop-at.at - 1) c.loop-at.body.layout c.loop-at.items c.loop-at.count c.loop-at.body.steps (stands c) (within c)
      c.index-items-at.result c.requires.goes;
}

pub overflow_add-count : goal.overflow_add-count
overflow_add-count c =
    let few = back_few c.args.body.now.layout c.args.items.now c.args.body.now.steps (c.loop-at.at - 1) c.take_back-count.new.body.layout
    (set c.loop-at.items (c.loop-at.at - 1) c.take_back-count.new.item) (c.loop-at.count + c.take_back-count.result) c.take_back-count.new.body.steps (taken c) c.requires.few in
    omega (arith, few)

pub loop-at-preserved : goal.loop-at-preserved
loop-at-preserved c = taken c

-- at the end all are
done : (c : goal.After-loop-at) → AreBack c.args.body.now.layout c.args.items.now c.args.body.now.steps 0 c.loop-at.body.layout c.loop-at.items c.loop-at.count c.loop-at.body.steps
done c = back_done c.args.body.now.layout c.args.items.now c.args.body.now.steps c.loop-at.at c.loop-at.body.layout c.loop-at.items c.loop-at.count c.loop-at.body.steps c.loop-at.invariant
    c.loop-at-test.false

pub returns-clause-layout : goal.returns-clause-layout
returns-clause-layout c = (done c).turned

pub returns-clause-items : goal.returns-clause-items
returns-clause-items c = (done c).exchanged
