-- The node that is found by a string is its element.
use Rattle.std.proofs.Common.{sym, ◌∙◌}
use Rattle.std.specs.Prelude.{chars}
use Rattle.coll_syntax.specs.Identifier.{same_name}
use Rattle.coll_lookups.specs.NodeLookUps.{node_named}
use Rattle.coll_nodes.specs.SoundBodies.{texts_in}
use Rattle.coll_nodes.proofs.BodyReads.{found_made}
use Rattle.coll_nodes.proofs.ElementNodes.{element_known, no_element}
use Rattle.coll_nodes.proofs.bodies.Body.element_name.Goals as goal

pub content-requires : goal.content-requires
content-requires c = found_made c.self.inside.nodes.layout c.self.invariant.shaped same_name texts_in (node_named c.self.inside.keys.texts) (chars c.args.text.now) c.in-Some.node
    c.self.invariant.found.texts (sym c.find_text.ensures ∙ c.in-Some.is) (rw c.self.view_is c.lemma_layout.ensures.laid)

pub returns-in-Some : goal.returns-in-Some
returns-in-Some c = rw (← c.self.view_is) (c.name_of_element.ensures ∙ element_known c.self.inside.nodes.layout (chars c.args.text.now) c.self.invariant.shaped (node_named c.self.inside.keys.texts)
    c.self.invariant.found.texts c.in-Some.node c.content.result.now (sym c.find_text.ensures ∙ c.in-Some.is) c.content.ensures)

pub returns-in-None : goal.returns-in-None
returns-in-None c = rw (← c.self.view_is) (no_element c.self.inside.nodes.layout (chars c.args.text.now) c.self.invariant.shaped (node_named c.self.inside.keys.texts) c.self.invariant.found.texts
    (sym c.find_text.ensures ∙ c.in-None.is))
