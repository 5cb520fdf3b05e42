-- The words are taken apart, sorted as far as they move, and put together.
use Rattle.coll_nodes.specs.TableLayout.{collation}
use Rattle.coll_reviews.proofs.SortedAgain.{again_put, from_last}
use Rattle.coll_reviews.proofs.moved_words.move_words.Goals as goal

pub put_together-requires-clause-moved : goal.put_together-requires-clause-moved
put_together-requires-clause-moved c =
    (from_last (collation c.args.table.now) c.take_apart.new.moved.items c.sort_with_keys.new.list.items c.reverse.new.self.items c.in_ok-sort_with_keys.ensures c.reverse.ensures.items).ordered

pub returns-clause-sorted : goal.returns-clause-sorted
returns-clause-sorted c =
    again_put (collation c.args.table.now) c.args.list.now.items c.take_apart.new.kept.items c.take_apart.new.moved.items c.reverse.new.self.items c.put_together.new.list.items
    c.put_together.result c.in_ok-take_apart.ensures.same
    (from_last (collation c.args.table.now) c.take_apart.new.moved.items c.sort_with_keys.new.list.items c.reverse.new.self.items c.in_ok-sort_with_keys.ensures c.reverse.ensures.items)
    c.put_together.ensures.same c.put_together.ensures.ordered
