-- An entry behind all others.
use Rattle.coll_texts.proofs.BuilderSteps.{entry_place, placed_builder, placed_parts}
use Rattle.coll_texts.proofs.body_builder.BodyBuilder.place_last.Goals as goal

pub place_free-requires : goal.place_free-requires
place_free-requires c = record { place = entry_place c.self.inside.body.layout c.self.inside.entries_end c.lemma_layout.ensures.shaped c.self.invariant.entries }

pub invariant_of-self-2 : goal.invariant_of-self-2
invariant_of-self-2 c = placed_builder c.self.inside.body.layout c.place_free.new.self.layout c.in-Some.node c.self.inside.sections_end c.self.inside.entries_end
    c.lemma_layout.ensures.laid.once c.lemma_layout.ensures.shaped c.self.invariant c.args.entry (rw c.in-Some.is at c.in_ok-node.ensures.ok)

pub returns-clause-ok : goal.returns-clause-ok
returns-clause-ok c = λ _. rw (← c.self.view_is) (placed_parts c.self.inside.body.layout c.place_free.new.self.layout c.in-Some.node c.self.inside.sections_end c.self.inside.entries_end
    c.lemma_layout.ensures.laid.once c.lemma_layout.ensures.shaped c.self.invariant c.args.entry (rw c.in-Some.is at c.in_ok-node.ensures.ok))
