-- The declaration of a name tells whether it is that of an own name.
use Rattle.std.proofs.Common.{Some, None, ap, sym, ◌∙◌}
use Rattle.std.specs.Prelude.{option_copied}
use Rattle.coll_nodes.specs.OwnNames.{declaration_of}
use Rattle.coll_nodes.specs.TableLayout.{declared_at}
use Rattle.coll_nodes.proofs.OwnNames.{own_told}
use Rattle.coll_nodes.proofs.bodies.Body.is_own_name.Goals as goal

pub returns-in-Some-Symbol : goal.returns-in-Some-Symbol
returns-in-Some-Symbol c = sym (own_told (declared_at c.args.self.now.layout) c.args.name.now c.lemma_layout.ensures.distinct _
    (sym (ap option_copied (sym c.in-Some-Symbol.is) ∙ c.declaration.ensures ∙ ap (declaration_of (declared_at c.args.self.now.layout)) c.get.ensures.characters)
    ∙ ap Some c.in-Some-Symbol.field-0-is))

pub returns-in-Some-Element : goal.returns-in-Some-Element
returns-in-Some-Element c = sym (own_told (declared_at c.args.self.now.layout) c.args.name.now c.lemma_layout.ensures.distinct _
    (sym (ap option_copied (sym c.in-Some-Element.is) ∙ c.declaration.ensures ∙ ap (declaration_of (declared_at c.args.self.now.layout)) c.get.ensures.characters)
    ∙ ap Some c.in-Some-Element.field-0-is))

pub returns-in-Some-Equivalence : goal.returns-in-Some-Equivalence
returns-in-Some-Equivalence c = sym (own_told (declared_at c.args.self.now.layout) c.args.name.now c.lemma_layout.ensures.distinct _
    (sym (ap option_copied (sym c.in-Some-Equivalence.is) ∙ c.declaration.ensures ∙ ap (declaration_of (declared_at c.args.self.now.layout)) c.get.ensures.characters)
    ∙ ap Some c.in-Some-Equivalence.field-0-is))

pub returns-in-None : goal.returns-in-None
returns-in-None c = sym (own_told (declared_at c.args.self.now.layout) c.args.name.now c.lemma_layout.ensures.distinct None
    (sym (ap option_copied (sym c.in-None.is) ∙ c.declaration.ensures ∙ ap (declaration_of (declared_at c.args.self.now.layout)) c.get.ensures.characters)))
