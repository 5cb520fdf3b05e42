use Rattle.coll_order.specs.Stored.{links_of}
use Rattle.std.proofs.Common.{subst, sym, ◌∙◌, arith}
use Rattle.coll_order.specs.Laid.{layout_at}
use Rattle.coll_order.specs.Layout.{IsPlace}
use Rattle.coll_order.proofs.Calls.{last_is}
use Rattle.coll_order.proofs.EndLemmas.{end_is_place}
use Rattle.coll_order.proofs.rings.Rings.end.Goals as goal

pub last-requires : goal.last-requires
last-requires c =
    let there = rw (← c.self.view_is) at c.requires.ring in
    let count = c.self.invariant.ends.count in
    omega (arith, there, count)

pub returns-clause-end : goal.returns-clause-end
returns-clause-end c =
    let there = rw (← c.self.view_is) at c.requires.ring in
    rw (← c.self.view_is) (c.last.ensures ∙ last_is (links_of c.self.inside.store) c.args.ring c.self.invariant there)

pub returns-clause-place : goal.returns-clause-place
returns-clause-place c =
    let there = rw (← c.self.view_is) at c.requires.ring in
    let layout = layout_at (links_of c.self.inside.store) in
    rw (← c.self.view_is) (subst (IsPlace layout) (sym (c.last.ensures ∙ last_is (links_of c.self.inside.store) c.args.ring c.self.invariant there)) (end_is_place layout c.args.ring there))
