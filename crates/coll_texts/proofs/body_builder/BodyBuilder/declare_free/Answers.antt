-- A declaration behind all others, where it is free.
use Rattle.coll_texts.proofs.BuilderSteps.{declared_place, declared_builder, declared_parts}
use Rattle.coll_texts.proofs.body_builder.BodyBuilder.declare_free.Goals as goal

pub declare_free-requires : goal.declare_free-requires
declare_free-requires c = record {
  place = declared_place c.self.inside.body.layout c.declared_end.result c.lemma_layout.ensures.shaped c.declared_end.ensures;
}

pub invariant_of-self-2 : goal.invariant_of-self-2
invariant_of-self-2 c = declared_builder c.self.inside.body.layout c.declare_free.new.self.layout c.in-Some.field-0 c.self.inside.sections_end c.self.inside.entries_end
    c.lemma_layout.ensures.laid.once c.lemma_layout.ensures.shaped c.self.invariant c.args.new c.declared_end.result c.declared_end.ensures
    (rw c.in-Some.is at c.in_ok-declare_free.ensures.ok)

pub returns-clause-ok : goal.returns-clause-ok
returns-clause-ok c = λ _. rw (← c.self.view_is) (declared_parts c.self.inside.body.layout c.declare_free.new.self.layout c.in-Some.field-0 c.self.inside.sections_end c.self.inside.entries_end
    c.lemma_layout.ensures.laid.once c.lemma_layout.ensures.shaped c.self.invariant c.args.new c.declared_end.result c.declared_end.ensures
    (rw c.in-Some.is at c.in_ok-declare_free.ensures.ok))
