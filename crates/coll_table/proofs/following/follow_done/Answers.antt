-- One item more is followed at each turn of the loop.
use Rattle.std.proofs.Common.{drop, suc, sym, subst}
use Rattle.coll_table.proofs.FollowedItems.{done_all, done_at, done_more, IsDoneAt}
use Rattle.coll_table.specs.Turning.{turned_back}
use Rattle.coll_table.proofs.following.follow_done.Goals as goal

pub items-init : goal.items-init
items-init c = c.requires.numbers

pub follow_item-requires : goal.follow_item-requires
follow_item-requires c =
    let layout = c.args.body.now.layout in
    let items = c.args.items.now in
    let at = done_at layout items c.items.item-index c.item-item.result c.requires.sound c.requires.goes c.items-test.true in
    record {
      made = (subst (λ i. IsDoneAt layout i (turned_back layout (drop c.items.item-index items)) (turned_back layout (drop (suc c.items.item-index) items))) (sym c.item-item.is) at).made;
    }

pub items-preserved : goal.items-preserved
items-preserved c =
    done_more c.args.body.now.layout c.args.items.now c.items.item-index c.item-item.result c.items.numbers c.follow_item.new.numbers c.requires.sound c.requires.goes c.items-test.true c.requires.few
    c.item-item.is (c.follow_item.ensures c.if-not-follow_item.false) c.items.invariant

pub returns : goal.returns
returns c = λ _. done_all c.args.body.now.layout c.args.items.now c.items.item-index c.items.numbers c.items-test.false c.items.auto.item-index-end c.requires.few c.items.invariant
