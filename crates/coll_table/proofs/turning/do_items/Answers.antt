-- From the first item on, one more is done at each turn of the loop.
use Rattle.std.proofs.Common.{◌≡◌, ◌+◌, suc, set, subst, arith}
use Rattle.coll_table.proofs.TurningSteps.{AllOn, AreOn, on_done, on_few, on_init, on_more, on_next}
use Rattle.coll_table.proofs.turning.do_items.Goals as goal

-- one more is done
done_more : (c : goal.After-do_item-count) → AreOn c.args.body.now.layout c.args.items.now c.args.body.now.steps (suc c.loop-item.item-index) c.do_item-count.new.body.layout
    (set c.loop-item.items c.loop-item.item-index c.do_item-count.new.item) (c.loop-item.count + c.do_item-count.result) c.do_item-count.new.body.steps
done_more c = on_more c.args.body.now.layout c.args.items.now c.args.body.now.steps c.loop-item.item-index c.loop-item.body.layout c.loop-item.items c.loop-item.count c.loop-item.body.steps
    c.loop-item.invariant c.loop-item-test.true c.loop-item.auto.items c.item-item.result
    c.do_item-count.new.body.layout c.do_item-count.new.item c.do_item-count.result c.do_item-count.new.body.steps c.do_item-count.ensures.layout c.do_item-count.ensures.item
    c.do_item-count.ensures.count c.do_item-count.ensures.steps

-- at the end all are
all_done : (c : goal.After-loop-item) → AllOn c.args.body.now.layout c.args.items.now c.args.body.now.steps c.loop-item.body.layout c.loop-item.items c.loop-item.count c.loop-item.body.steps
all_done c = on_done c.args.body.now.layout c.args.items.now c.args.body.now.steps c.loop-item.item-index c.loop-item.body.layout c.loop-item.items c.loop-item.count c.loop-item.body.steps
    c.loop-item.invariant c.loop-item-test.false

pub loop-item-init : goal.loop-item-init
loop-item-init c = on_init c.args.body.now.layout c.args.items.now c.args.body.now.steps c.lemma_steps.ensures c.requires.goes

pub do_item-count-requires : goal.do_item-count-requires
do_item-count-requires c = record {
  goes = on_next c.args.body.now.layout c.args.items.now c.args.body.now.steps c.loop-item.item-index c.loop-item.body.layout c.loop-item.items c.loop-item.count c.loop-item.body.steps
      c.loop-item.invariant c.loop-item-test.true c.loop-item.auto.items c.item-item.result;
}

pub overflow_add-count : goal.overflow_add-count
overflow_add-count c =
    let few = on_few c.args.body.now.layout c.args.items.now c.args.body.now.steps (suc c.loop-item.item-index) c.do_item-count.new.body.layout
    (set c.loop-item.items c.loop-item.item-index c.do_item-count.new.item) (c.loop-item.count + c.do_item-count.result) c.do_item-count.new.body.steps (done_more c) c.requires.few in
    omega (arith, few)

pub loop-item-preserved : goal.loop-item-preserved
loop-item-preserved c =
    let next : suc c.loop-item.item-index ≡ c.loop-item.item-index + 1 = omega arith in
    subst (λ at. AreOn c.args.body.now.layout c.args.items.now c.args.body.now.steps at c.do_item-count.new.body.layout (set c.loop-item.items c.loop-item.item-index c.do_item-count.new.item)
    (c.loop-item.count + c.do_item-count.result) c.do_item-count.new.body.steps) next (done_more c)

pub returns-clause-layout : goal.returns-clause-layout
returns-clause-layout c = (all_done c).turned

pub returns-clause-items : goal.returns-clause-items
returns-clause-items c = (all_done c).exchanged

pub returns-clause-count : goal.returns-clause-count
returns-clause-count c = (all_done c).counted
