-- A character leads to what its slot says.
use Rattle.std.proofs.Common.{◌≡◌, Some, None, sym, ◌∙◌}
use Rattle.coll_lookups.specs.CharPages.{place_of}
use Rattle.coll_lookups.proofs.CharNodes.{node_at_place, nowhere}
use Rattle.coll_lookups.proofs.char_nodes.CharNodes.find.Goals as goal

pub returns-in-Some : goal.returns-in-Some
returns-in-Some c =
    let p = c.self.inside in
    let at : place_of p.pages.items c.args.c ≡ Some c.in-Some.place = rw c.deref.ensures.value at (sym c.place_of.ensures ∙ c.in-Some.is) in
    rw (← c.self.view_is, c.node_of.ensures) (node_at_place p.pages.items p.slots.items c.args.c c.in-Some.place c.index.result.now c.self.invariant at c.index.ensures)

pub returns-in-None : goal.returns-in-None
returns-in-None c =
    let p = c.self.inside in
    let none : None ≡ place_of p.pages.items c.args.c = rw c.deref.ensures.value at (sym c.in-None.is ∙ c.place_of.ensures) in
    rw (← c.self.view_is) (nowhere p.pages.items p.slots.items c.args.c none)
