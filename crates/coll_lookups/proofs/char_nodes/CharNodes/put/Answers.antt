-- A character is made a key, and lead to a node.
use Rattle.std.proofs.Common.{rules, ap, ◌∙◌}
use Rattle.coll_lookups.specs.NodeLookUps.{node_of_char}
use Rattle.coll_lookups.proofs.CharNodes.{node_at_place, same_chars, written_keys, written_leads}
use Rattle.coll_lookups.proofs.char_nodes.CharNodes.put.Goals as goal

pub returns-in_err-place-clause-err : goal.returns-in_err-place-clause-err
returns-in_err-place-clause-err c =
    let p = c.self.inside in
    let stays = same_chars p.pages.items p.slots.items c.make_place.new.pages.items c.make_place.new.slots.items c.in_err-place.ensures.same c.in_err-place.ensures.longer in
    rw (← c.self.view_is) (search rules)

pub returns-clause-ok : goal.returns-clause-ok
returns-clause-ok c =
    let p = c.self.inside in
    let made = c.in_ok-place.ensures in
    rw (← c.self.view_is, c.slot_of_key.ensures)
    (written_leads p.pages.items p.slots.items c.make_place.new.pages.items c.make_place.new.slots.items made.same made.pages c.args.c c.in_ok-place.place made.place c.args.node)

pub returns-clause-keys : goal.returns-clause-keys
returns-clause-keys c =
    let p = c.self.inside in
    let made = c.in_ok-place.ensures in
    rw (← c.self.view_is, c.slot_of_key.ensures)
    (written_keys p.pages.items p.slots.items c.make_place.new.pages.items c.make_place.new.slots.items made.same made.pages c.args.c c.in_ok-place.place made.place c.args.node)

pub returns-clause-led : goal.returns-clause-led
returns-clause-led c =
    let p = c.self.inside in
    let made = c.in_ok-place.ensures in
    rw (← c.self.view_is, c.node_of-led.ensures)
    (node_at_place c.make_place.new.pages.items c.make_place.new.slots.items c.args.c c.in_ok-place.place c.index.result.now made.pages made.place c.index.ensures
    ∙ (ap (λ l. node_of_char l c.args.c) (same_chars p.pages.items p.slots.items c.make_place.new.pages.items c.make_place.new.slots.items made.same made.longer)))
