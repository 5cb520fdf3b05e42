-- An item that added no node leaves the layout.
use Rattle.coll_table.proofs.RecordForgets.{item_added_none, item_moved_none}
use Rattle.coll_table.proofs.turning.drop_if_added.Goals as goal

pub returns-in_default-clause-layout : goal.returns-in_default-clause-layout
returns-in_default-clause-layout c = item_added_none c.args.item.now.old c.args.item.now.new c.args.body.now.layout c.args.item.now.node c.in_default.is

pub returns-in-Some-old-clause-layout : goal.returns-in-Some-old-clause-layout
returns-in-Some-old-clause-layout c = item_moved_none c.args.item.now.old c.args.item.now.new c.args.body.now.layout c.args.item.now.node c.in-Some-old.field-0 c.in-Some-old.is
