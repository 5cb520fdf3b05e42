-- A character is put in.
use Rattle.std.proofs.Common.{ap, not, rules}
use Rattle.coll_lookups.proofs.CharSets.{marked_before, marked_more, same_marked}
use Rattle.coll_lookups.proofs.char_sets.CharSet.put.Goals as goal

pub returns-in_err-place-clause-err : goal.returns-in_err-place-clause-err
returns-in_err-place-clause-err c =
    let p = c.self.inside in
    let stays = same_marked p.pages.items p.marks.items c.make_place.new.pages.items c.make_place.new.slots.items c.in_err-place.ensures.same c.in_err-place.ensures.longer in
    rw (← c.self.view_is) (search rules)

pub returns-clause-free : goal.returns-clause-free
returns-clause-free c =
    let p = c.self.inside in
    let made = c.in_ok-place.ensures in
    rw (← c.self.view_is)
    (ap not (marked_before p.pages.items p.marks.items c.make_place.new.pages.items c.make_place.new.slots.items made.same made.pages c.args.c c.in_ok-place.place c.index.result.now made.place
    c.index.ensures))

pub returns-clause-ok : goal.returns-clause-ok
returns-clause-ok c =
    let p = c.self.inside in
    let made = c.in_ok-place.ensures in
    rw (← c.self.view_is)
    (marked_more p.pages.items p.marks.items c.make_place.new.pages.items c.make_place.new.slots.items made.same made.pages c.args.c c.in_ok-place.place made.place)
