-- The one node that is made is that of the item.
use Rattle.coll_table.proofs.PreparedLemmas.{one_added}
use Rattle.coll_table.proofs.tables.Table.prepare_declaration.Goals as goal

pub returns-clause-added : goal.returns-clause-added
returns-clause-added c =
    one_added c.args.self.now c.make.new.self c.in_ok-node.node _ _ c.in_ok-items.items.items c.push_reserved.new.self.items c.in_ok-items.ensures.items c.push_reserved.ensures.items
    c.in_ok-node.ensures.added
