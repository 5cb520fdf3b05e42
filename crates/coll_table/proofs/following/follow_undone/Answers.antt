-- One item more is followed at each turn of the loop.
use Rattle.std.proofs.Common.{◌-◌, ◌<◌, suc, take, length, sym, subst, arith}
use Rattle.coll_table.proofs.FollowedItems.{undone_all, undone_at, undone_first, undone_more, IsUndoneAt}
use Rattle.coll_table.specs.Turning.{turned_on}
use Rattle.coll_table.proofs.following.follow_undone.Goals as goal

pub items-init : goal.items-init
items-init c = undone_first c.args.body.now.layout c.args.items.now c.args.numbers.now c.requires.numbers

pub follow_item-requires : goal.follow_item-requires
follow_item-requires c =
    let layout = c.args.body.now.layout in
    let items = c.args.items.now in
    let before = c.items.at - 1 in
    let within : before < length items = omega (arith, c.items-test.true, c.items.auto.at) in
    let at = undone_at layout items before c.index-items-at.result c.requires.sound c.requires.goes within in
    record { made = (subst (λ i. IsUndoneAt layout i (turned_on layout (take (suc before) items)) (turned_on layout (take before items))) (sym c.index-items-at.is) at).made }

pub items-preserved : goal.items-preserved
items-preserved c =
    undone_more c.args.body.now.layout c.args.items.now c.items.at c.index-items-at.result c.items.numbers c.follow_item.new.numbers c.requires.sound c.requires.goes c.items-test.true c.items.auto.at
    c.requires.few c.index-items-at.is (c.follow_item.ensures c.if-not-follow_item.false) c.items.invariant

pub returns : goal.returns
returns c = λ _. undone_all c.args.body.now.layout c.args.items.now c.items.at c.items.numbers c.items-test.false c.requires.few c.items.invariant
