-- What both texts begin with decides nothing.
use Rattle.std.proofs.Common.{chars, sym}
use Rattle.coll_ranks.specs.Ranks.{elements_by_ranks, compiled_numbers}
use Rattle.coll_key.proofs.ForwardLemmas.{order_alike}
use Rattle.coll_key.proofs.comparison.forward_order.Goals as goal

pub returns : goal.returns
returns c =
    let p = c.args.position in
    let f = compiled_numbers c.args.ranks.now.compiled c.args.level in
    let text = elements_by_ranks c.args.ranks.now (chars c.args.text.now) in
    let other = elements_by_ranks c.args.ranks.now (chars c.args.other.now) in
    rw (c.order_along.ensures, c.new.ensures, c.new-2.ensures) (sym (order_alike p f text other _ _ c.past_common.ensures))
