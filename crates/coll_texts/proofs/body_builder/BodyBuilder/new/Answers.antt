-- Nothing is declared, and the first section is empty.
use Rattle.std.proofs.Common.{◌≡◌, [], ◌∷◌, ◌++◌, None, ap, ◌∙◌}
use Rattle.coll_order.specs.declared.places.Place.TheVariants.{Head}
use Rattle.coll_texts.specs.Building.{Parts, parts_at}
use Rattle.coll_nodes.specs.SoundBodies.{end_in}
use Rattle.coll_nodes.specs.TableLayout.{TableLayout}
use Rattle.coll_texts.proofs.BuilderSteps.{begun_builder, begun_parts, nothing_parts, nothing_unnamed}
use Rattle.coll_texts.proofs.body_builder.BodyBuilder.new.Goals as goal

sections_end : (c : goal.In-Ok) → Head c.sections-sections.result ≡ end_in c.in_ok-body.body.layout 1
sections_end c = rw (c.in_ok-body.ensures.layout, c.sections-sections.ensures)

pub invariant_of-result : goal.invariant_of-result
invariant_of-result c = begun_builder c.in_ok-body.body.layout c.begin_unnamed.new.self.layout c.in-Ok.section None c.in-Ok.ring (Head c.sections-sections.result)
    c.lemma_layout.ensures.laid.once c.lemma_layout.ensures.shaped c.in-Ok.ensures.ok c.in-Ok.ensures.ring (sections_end c)
    (rw (c.in_ok-body.ensures.layout) nothing_unnamed)

pub returns-in-Ok : goal.returns-in-Ok
returns-in-Ok c = begun_parts c.in_ok-body.body.layout c.begin_unnamed.new.self.layout c.in-Ok.section None c.in-Ok.ring (Head c.sections-sections.result)
    c.lemma_layout.ensures.laid.once c.lemma_layout.ensures.shaped c.in-Ok.ensures.ok c.in-Ok.ensures.ring (sections_end c)
    ∙ (ap (λ (layout : TableLayout). record (parts_at layout) { sections = (parts_at layout).sections ++ record { name = None; entries = [] } ∷ [] }) c.in_ok-body.ensures.layout
    ∙ ap (λ (parts : Parts). record parts { sections = parts.sections ++ record { name = None; entries = [] } ∷ [] }) nothing_parts)
