-- A character that is a key is made to lead elsewhere.
use Rattle.std.proofs.Common.{◌≡◌, true, Some, None, sym, ◌∙◌, refl}
use Rattle.coll_lookups.specs.CharNodes.{chars_at}
use Rattle.coll_lookups.specs.CharPages.{place_of}
use Rattle.coll_lookups.specs.NodeLookUps.{is_char_key}
use Rattle.coll_lookups.proofs.CharNodes.{key_has_place, keeps_keys, written_keys, written_leads}
use Rattle.coll_lookups.proofs.char_nodes.CharNodes.set.Goals as goal

pub unreachable-requires : goal.unreachable-requires
unreachable-requires c =
    let p = c.self.inside in
    let there : is_char_key (chars_at p.pages.items p.slots.items) c.args.c ≡ true = rw (← c.self.view_is) at c.requires in
    let none : None ≡ place_of p.pages.items c.args.c = rw c.deref.ensures.value at (sym c.in_default.is ∙ c.place_of.ensures) in
    key_has_place p.pages.items p.slots.items c.args.c there none

pub returns-clause-set : goal.returns-clause-set
returns-clause-set c =
    let p = c.self.inside in
    let at : place_of p.pages.items c.args.c ≡ Some c.in-Some.place = rw c.deref.ensures.value at (sym c.place_of.ensures ∙ c.in-Some.is) in
    rw (← c.self.view_is, c.slot_of_key.ensures) (written_leads p.pages.items p.slots.items p.pages.items p.slots.items (λ _. refl) c.self.invariant c.args.c c.in-Some.place at c.args.node)

pub returns-clause-keys : goal.returns-clause-keys
returns-clause-keys c =
    let p = c.self.inside in
    let there : is_char_key (chars_at p.pages.items p.slots.items) c.args.c ≡ true = rw (← c.self.view_is) at c.requires in
    let at : place_of p.pages.items c.args.c ≡ Some c.in-Some.place = rw c.deref.ensures.value at (sym c.place_of.ensures ∙ c.in-Some.is) in
    rw (← c.self.view_is, c.slot_of_key.ensures)
    (keeps_keys _ _ c.args.c there
    (written_keys p.pages.items p.slots.items p.pages.items p.slots.items (λ _. refl) c.self.invariant c.args.c c.in-Some.place at c.args.node))
