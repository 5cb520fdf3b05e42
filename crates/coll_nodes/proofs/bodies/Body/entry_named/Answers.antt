-- The node that is found by a name is its entry.
use Rattle.std.proofs.Common.{sym, ◌∙◌}
use Rattle.coll_syntax.specs.Identifier.{same_id}
use Rattle.coll_syntax.specs.declared.identifiers.Id.TheVariants.{Named}
use Rattle.coll_lookups.specs.NodeLookUps.{node_with}
use Rattle.coll_nodes.specs.SoundBodies.{ids_in}
use Rattle.coll_nodes.proofs.BodyReads.{entry_known, no_entry, found_made}
use Rattle.coll_nodes.proofs.bodies.Body.entry_named.Goals as goal

pub content-requires : goal.content-requires
content-requires c = found_made c.self.inside.nodes.layout c.self.invariant.shaped same_id ids_in (node_with c.self.inside.keys.placed) (Named c.args.name.now) c.in-Some.node
    c.self.invariant.found.ids (sym c.find_name.ensures ∙ c.in-Some.is) c.lemma_layout.ensures

pub returns-in-Some : goal.returns-in-Some
returns-in-Some c = rw (← c.self.view_is) (c.entry_of.ensures ∙ entry_known c.self.inside.nodes.layout c.self.invariant.shaped (node_with c.self.inside.keys.placed) (Named c.args.name.now)
    c.in-Some.node c.content.result.now c.self.invariant.found.ids (sym c.find_name.ensures ∙ c.in-Some.is) c.content.ensures)

pub returns-in-None : goal.returns-in-None
returns-in-None c = rw (← c.self.view_is) (no_entry c.self.inside.nodes.layout c.self.invariant.shaped (node_with c.self.inside.keys.placed) (Named c.args.name.now) c.self.invariant.found.ids
    (sym c.find_name.ensures ∙ c.in-None.is))
