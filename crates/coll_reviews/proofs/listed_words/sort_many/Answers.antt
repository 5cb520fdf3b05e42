-- The words are put into an order that is guessed, and then sorted.
use Rattle.std.proofs.Common.{Ok, subst, sym}
use Rattle.std.specs.List.Sorted.{IsPermutation}
use Rattle.coll_nodes.specs.TableLayout.{collation}
use Rattle.coll_reviews.proofs.SortedAgain.{again_behind}
use Rattle.coll_reviews.proofs.listed_words.sort_many.Goals as goal

pub returns-then-branch-clause-sorted : goal.returns-then-branch-clause-sorted
returns-then-branch-clause-sorted c =
    again_behind (collation c.args.table.now) c.args.list.now.items c.guess_order.new.list.items c.sort_moved_alone.new.list.items (Ok tt) c.in_ok-guess_order.ensures
    (c.in_ok-sort_moved_alone.ensures.sorted c.if-branch.true)

pub returns-clause-sorted : goal.returns-clause-sorted
returns-clause-sorted c =
    again_behind (collation c.args.table.now) c.args.list.now.items c.sort_moved_alone.new.list.items c.sort_with_keys-2.new.list.items c.sort_with_keys-2.result
    (subst (IsPermutation c.args.list.now.items) (sym (c.in_ok-sort_moved_alone.ensures.same c.if-branch.false)) c.in_ok-guess_order.ensures) c.sort_with_keys-2.ensures
