-- A name is found where it is declared.
use Rattle.std.proofs.Common.{is_some, ap, sym, ◌∙◌}
use Rattle.coll_lookups.specs.NodeLookUps.{node_named}
use Rattle.coll_nodes.proofs.BodyReads.{name_found}
use Rattle.coll_nodes.proofs.bodies.Body.declares.Goals as goal

pub returns : goal.returns
returns c = rw (← c.self.view_is)
    (c.is_some.ensures ∙ (ap (λ found. is_some found) c.find.ensures
    ∙ sym (name_found c.self.inside.nodes.layout c.self.invariant.shaped (node_named c.self.inside.keys.names) c.args.name.now c.self.invariant.found.names)))
