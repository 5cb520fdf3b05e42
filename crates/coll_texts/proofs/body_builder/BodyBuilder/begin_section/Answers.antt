-- A section behind all others.
use Rattle.std.proofs.Common.{Some}
use Rattle.coll_nodes.specs.TableLayout.{sections_at}
use Rattle.coll_texts.proofs.BuilderSteps.{section_place, begun_builder, begun_parts, unnamed_push}
use Rattle.coll_texts.proofs.body_builder.BodyBuilder.begin_section.Goals as goal

pub begin-requires-clause-place : goal.begin-requires-clause-place
begin-requires-clause-place c = section_place c.self.inside.body.layout c.self.inside.sections_end c.lemma_layout.ensures.shaped c.self.invariant.sections

pub invariant_of-self-2 : goal.invariant_of-self-2
invariant_of-self-2 c = begun_builder c.self.inside.body.layout c.begin.new.self.layout c.in_ok-section.section (Some c.args.name) c.in_ok-section.ring c.self.inside.sections_end
    c.lemma_layout.ensures.laid.once c.lemma_layout.ensures.shaped c.in_ok-section.ensures.ok c.in_ok-section.ensures.ring c.self.invariant.sections
    (unnamed_push (sections_at c.self.inside.body.layout) c.args.name c.self.invariant.unnamed)

pub returns-clause-ok : goal.returns-clause-ok
returns-clause-ok c = rw (← c.self.view_is) (begun_parts c.self.inside.body.layout c.begin.new.self.layout c.in_ok-section.section (Some c.args.name) c.in_ok-section.ring c.self.inside.sections_end
    c.lemma_layout.ensures.laid.once c.lemma_layout.ensures.shaped c.in_ok-section.ensures.ok c.in_ok-section.ensures.ring c.self.invariant.sections)
