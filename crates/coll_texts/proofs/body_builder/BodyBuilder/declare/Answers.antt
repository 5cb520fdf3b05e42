-- A declaration behind all others.
use Rattle.coll_texts.proofs.BuilderSteps.{declared_place, declared_builder, declared_parts}
use Rattle.coll_texts.proofs.body_builder.BodyBuilder.declare.Goals as goal

pub declare-requires-clause-place : goal.declare-requires-clause-place
declare-requires-clause-place c = declared_place c.self.inside.body.layout c.declared_end.result c.lemma_layout.ensures.shaped c.declared_end.ensures

pub invariant_of-self-2 : goal.invariant_of-self-2
invariant_of-self-2 c = declared_builder c.self.inside.body.layout c.declare.new.self.layout c.in_ok-declare.field-0 c.self.inside.sections_end c.self.inside.entries_end
    c.lemma_layout.ensures.laid.once c.lemma_layout.ensures.shaped c.self.invariant c.args.new c.declared_end.result c.declared_end.ensures c.in_ok-declare.ensures.ok

pub returns-clause-ok : goal.returns-clause-ok
returns-clause-ok c = rw (← c.self.view_is) (declared_parts c.self.inside.body.layout c.declare.new.self.layout c.in_ok-declare.field-0 c.self.inside.sections_end c.self.inside.entries_end
    c.lemma_layout.ensures.laid.once c.lemma_layout.ensures.shaped c.self.invariant c.args.new c.declared_end.result c.declared_end.ensures c.in_ok-declare.ensures.ok)
