-- The node that is found by a name is its declaration.
use Rattle.std.proofs.Common.{sym, ◌∙◌}
use Rattle.std.specs.Prelude.{chars}
use Rattle.coll_syntax.specs.Identifier.{same_name}
use Rattle.coll_lookups.specs.NodeLookUps.{node_named}
use Rattle.coll_nodes.specs.SoundBodies.{names_in}
use Rattle.coll_nodes.proofs.BodyReads.{declaration_known, no_declaration, found_made}
use Rattle.coll_nodes.proofs.bodies.Body.declaration_behind.Goals as goal

pub content-requires : goal.content-requires
content-requires c = found_made c.self.inside.nodes.layout c.self.invariant.shaped same_name names_in (node_named c.self.inside.keys.names) (chars c.args.name.now) c.in-Some.node
    c.self.invariant.found.names (sym c.find_behind.ensures ∙ c.in-Some.is) c.lemma_layout.ensures

pub returns-in-Some : goal.returns-in-Some
returns-in-Some c = rw (← c.self.view_is) (c.declaration_of.ensures ∙ declaration_known c.self.inside.nodes.layout c.self.invariant.shaped (node_named c.self.inside.keys.names) (chars c.args.name.now)
    c.in-Some.node c.content.result.now c.self.invariant.found.names (sym c.find_behind.ensures ∙ c.in-Some.is) c.content.ensures)

pub returns-in-None : goal.returns-in-None
returns-in-None c = rw (← c.self.view_is) (no_declaration c.self.inside.nodes.layout c.self.invariant.shaped (node_named c.self.inside.keys.names) (chars c.args.name.now) c.self.invariant.found.names
    (sym c.find_behind.ensures ∙ c.in-None.is))
