-- An identifier is found where it is placed, wherever it was looked for first.
use Rattle.std.proofs.Common.{is_some, ap, sym, ◌∙◌}
use Rattle.coll_lookups.specs.NodeLookUps.{node_with}
use Rattle.coll_nodes.proofs.BodyReads.{id_found}
use Rattle.coll_nodes.proofs.bodies.Body.is_placed_behind.Goals as goal

pub returns : goal.returns
returns c = rw (← c.self.view_is)
    (c.is_some.ensures ∙ (ap (λ found. is_some found) c.find_behind.ensures
    ∙ sym (id_found c.self.inside.nodes.layout c.self.invariant.shaped (node_with c.self.inside.keys.placed) c.args.id.now c.self.invariant.found.ids)))
