-- The mark of a character is taken away.
use Rattle.std.proofs.Common.{◌≡◌, None, Some, sym, ◌∙◌}
use Rattle.coll_lookups.specs.CharPages.{place_of}
use Rattle.coll_lookups.proofs.CharSets.{marked_less, unmarked}
use Rattle.coll_lookups.proofs.char_sets.CharSet.take_out.Goals as goal

pub returns-in-Some : goal.returns-in-Some
returns-in-Some c =
    let p = c.self.inside in
    let at : place_of p.pages.items c.args.c ≡ Some c.in-Some.place = rw c.deref.ensures.value at (sym c.place_of.ensures ∙ c.in-Some.is) in
    rw (← c.self.view_is) (marked_less p.pages.items p.marks.items c.self.invariant c.args.c c.in-Some.place at)

pub returns-in_default : goal.returns-in_default
returns-in_default c =
    let p = c.self.inside in
    let none : None ≡ place_of p.pages.items c.args.c = rw c.deref.ensures.value at (sym c.in_default.is ∙ c.place_of.ensures) in
    rw (← c.self.view_is) (unmarked p.pages.items p.marks.items c.args.c none)
