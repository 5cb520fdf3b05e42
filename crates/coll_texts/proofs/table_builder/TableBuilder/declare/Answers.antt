-- What is new is refused only where there is no room, and a builder with one more declaration is sound.
use Rattle.std.proofs.Common.{◌≡◌, ◌<◌, ◌≤◌, None, length, ap, sym, subst, ◌∙◌}
use Rattle.coll_nodes.specs.Limits.{most_declarations}
use Rattle.coll_texts.specs.Building.{Parts}
use Rattle.coll_texts.specs.BuilderStates.{BuilderState, declaration_cause}
use Rattle.coll_texts.specs.SoundStates.{IsSoundBuilderState}
use Rattle.coll_texts.proofs.SoundLines.{declaration_fits, declaration_full, sound_declared}
use Rattle.coll_texts.proofs.table_builder.TableBuilder.declare.Goals as goal

pub returns-then-declared_len-ge-MOST_DECLARATIONS-clause-err : goal.returns-then-declared_len-ge-MOST_DECLARATIONS-clause-err
returns-then-declared_len-ge-MOST_DECLARATIONS-clause-err c =
    let d = c.args.self.now in
    λ _. declaration_full d.declared c.args.new c.requires.name c.requires.meaning c.requires.text
    (subst (λ n. most_declarations ≤ n) (c.declared_len.ensures ∙ ap (λ (it : BuilderState). length it.declared) c.self.view_is) c.if-declared_len-ge-MOST_DECLARATIONS.true)

-- there is room
fits : (c : goal.In_ok-declare) → declaration_cause c.args.self.now.declared c.args.new ≡ None
fits c =
    let d = c.args.self.now in
    declaration_fits d.declared c.args.new c.requires.name c.requires.meaning c.requires.text
    (subst (λ n. n < most_declarations) (c.declared_len.ensures ∙ ap (λ (it : BuilderState). length it.declared) c.self.view_is) c.if-declared_len-ge-MOST_DECLARATIONS.false)

pub returns-clause-ok : goal.returns-clause-ok
returns-clause-ok c = fits c

pub invariant_of-self-2 : goal.invariant_of-self-2
invariant_of-self-2 c =
    let s = c.self.inside in
    subst (λ (b : Parts). IsSoundBuilderState (record { order_open = s.order_open; rules = s.rules; declared = b.declared; sections = b.sections; numbers = s.numbers.items }))
    (sym c.in_ok-declare.ensures.ok)
    (sound_declared _ c.args.new c.self.invariant c.requires.proper (ap (λ (d : BuilderState). declaration_cause d.declared c.args.new) c.self.view_is ∙ fits c))
