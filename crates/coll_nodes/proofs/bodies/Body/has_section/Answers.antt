-- A name is found where a section has it.
use Rattle.std.proofs.Common.{is_some, ap, sym, ◌∙◌}
use Rattle.coll_lookups.specs.NodeLookUps.{node_named}
use Rattle.coll_nodes.proofs.BodyReads.{section_found}
use Rattle.coll_nodes.proofs.bodies.Body.has_section.Goals as goal

pub returns : goal.returns
returns c = rw (← c.self.view_is)
    (c.is_some.ensures ∙ (ap (λ found. is_some found) c.find.ensures
    ∙ sym (section_found c.self.inside.nodes.layout c.self.invariant.shaped (node_named c.self.inside.keys.sections) c.args.name.now c.self.invariant.found.sections)))
