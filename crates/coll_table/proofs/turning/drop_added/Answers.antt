-- From the first item on, one more is given up at each turn of the loop.
use Rattle.coll_table.proofs.RecordForgets.{drop_done, drop_more, drop_next}
use Rattle.coll_table.proofs.turning.drop_added.Goals as goal

pub drop_if_added-requires : goal.drop_if_added-requires
drop_if_added-requires c = record {
  loose = drop_next c.args.body.now.layout c.args.items.now c.args.body.now.steps c.loop-item.item-index c.loop-item.body.layout c.loop-item.body.steps c.loop-item.invariant c.loop-item-test.true
      c.item-item.result c.item-item.is;
}

pub loop-item-preserved : goal.loop-item-preserved
loop-item-preserved c =
    drop_more c.args.body.now.layout c.args.items.now c.args.body.now.steps c.loop-item.item-index c.loop-item.body.layout c.loop-item.body.steps c.loop-item.invariant c.loop-item-test.true
    c.item-item.result c.item-item.is
    c.drop_if_added.new.body.layout c.drop_if_added.new.body.steps c.drop_if_added.ensures.layout c.drop_if_added.ensures.steps

pub returns-clause-layout : goal.returns-clause-layout
returns-clause-layout c = drop_done c.args.body.now.layout c.args.items.now c.args.body.now.steps c.loop-item.item-index c.loop-item.body.layout c.loop-item.body.steps c.loop-item.invariant
    c.loop-item-test.false
