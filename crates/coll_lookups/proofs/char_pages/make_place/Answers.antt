-- A range that has no page is given the next one.
use Rattle.std.proofs.Common.{◌≡◌, ◌<◌, ◌/◌, ◌+◌, ◌∙◌, None, length, slice_set, arith, rules, sym, refl}
use Rattle.coll_lookups.specs.CharPages.{place_of}
use Rattle.coll_lookups.proofs.CharPages.{given_pages, given_slots, number_fits}
use Rattle.coll_lookups.proofs.char_pages.make_place.Goals as goal

pub overflow_cast-size : goal.overflow_cast-size
overflow_cast-size g c =
    let size : c.len-size.result ≡ length c.args.slots.now.items = omega arith in
    let few : length c.args.slots.now.items / 128 + 1 < 65536 = number_fits _ _ c.requires.pages in
    let fits : c.len-size.result / 128 + 1 < 65536 = omega (arith, size, few) in
    search rules

pub returns-clause-pages : goal.returns-clause-pages
returns-clause-pages g c =
    let size : c.len-size.result ≡ length c.args.slots.now.items = omega arith in
    let none : None ≡ place_of c.args.pages.now.items c.args.c = rw c.deref.ensures.value at (sym c.in_default.is ∙ c.place_of.ensures) in
    let room : c.args.c / 128 < length c.make_range.new.pages.items = omega (arith, c.in_ok-make_range.ensures.within) in
    let grown : length c.add_page.new.slots.items ≡ length c.args.slots.now.items + 128 = c.in_ok-add_page.ensures.ok in
    let given : c.give_page.new.pages.items ≡ slice_set c.make_range.new.pages.items (c.args.c / 128) (length c.args.slots.now.items / 128 + 1) = rw size at c.give_page.ensures in
    rw (given, grown)
    (given_pages c.args.pages.now.items c.make_range.new.pages.items (length c.args.slots.now.items) c.args.c (omega arith) c.requires.pages c.in_ok-make_range.ensures.same room none)

pub returns-clause-same : goal.returns-clause-same
returns-clause-same g c =
    let size : c.len-size.result ≡ length c.args.slots.now.items = omega arith in
    let none : None ≡ place_of c.args.pages.now.items c.args.c = rw c.deref.ensures.value at (sym c.in_default.is ∙ c.place_of.ensures) in
    let room : c.args.c / 128 < length c.make_range.new.pages.items = omega (arith, c.in_ok-make_range.ensures.within) in
    let given : c.give_page.new.pages.items ≡ slice_set c.make_range.new.pages.items (c.args.c / 128) (length c.args.slots.now.items / 128 + 1) = rw size at c.give_page.ensures in
    rw given
    (given_slots c.args.pages.now.items c.make_range.new.pages.items (length c.args.slots.now.items) c.args.c (omega arith) c.requires.pages c.in_ok-make_range.ensures.same room none
    c.args.free c.args.slots.now.items c.add_page.new.slots.items refl c.in_ok-add_page.ensures.same)
