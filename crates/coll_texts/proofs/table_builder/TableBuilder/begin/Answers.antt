-- A builder with one more section is sound.
use Rattle.std.proofs.Common.{ap, sym, subst, ◌∙◌}
use Rattle.coll_texts.specs.Building.{Parts}
use Rattle.coll_texts.specs.BuilderStates.{BuilderState, section_cause}
use Rattle.coll_texts.specs.SoundStates.{IsSoundBuilderState}
use Rattle.coll_texts.proofs.SoundLines.{sound_section}
use Rattle.coll_texts.proofs.table_builder.TableBuilder.begin.Goals as goal

pub invariant_of-self-2 : goal.invariant_of-self-2
invariant_of-self-2 c =
    let s = c.self.inside in
    subst (λ (b : Parts). IsSoundBuilderState (record { order_open = s.order_open; rules = s.rules; declared = b.declared; sections = b.sections; numbers = s.numbers.items }))
    (sym c.in_ok-begin_section.ensures.ok)
    (sound_section _ c.args.name c.self.invariant c.requires (ap (λ (d : BuilderState). section_cause d c.args.name) c.self.view_is ∙ sym c.in_default.ensures))
