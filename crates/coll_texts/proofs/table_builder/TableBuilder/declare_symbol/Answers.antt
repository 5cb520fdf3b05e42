-- A builder with one more symbol is sound.
use Rattle.std.proofs.Common.{◌<◌, sym, subst, refl, ◌∙◌}
use Rattle.coll_nodes.specs.Limits.{most_declarations}
use Rattle.coll_nodes.specs.declared.declarations.Declaration.{Declaration}
use Rattle.coll_nodes.specs.declared.declarations.Declaration.TheVariants.{Symbol}
use Rattle.coll_texts.specs.Building.{Parts}
use Rattle.coll_texts.specs.SoundStates.{IsSoundBuilderState}
use Rattle.coll_texts.proofs.SoundLines.{declaration_fits, neither_there, sound_declared}
use Rattle.coll_texts.proofs.table_builder.TableBuilder.declare_symbol.Goals as goal

pub invariant_of-self-2 : goal.invariant_of-self-2
invariant_of-self-2 c =
    let s = c.self.inside in
    let declared = s.builder.declared in
    let put = c.if-not-branch.false in
    let new : Declaration = Symbol c.args.name in
    let absent = neither_there _ _ (sym put ∙ c.in_ok-declare_free.ensures.free) in
    let room = subst (λ n. n < most_declarations) c.declared_len.ensures c.if-declared_len-ge-MOST_DECLARATIONS.false in
    subst (λ (b : Parts). IsSoundBuilderState (record { order_open = s.order_open; rules = s.rules; declared = b.declared; sections = b.sections; numbers = s.numbers.items }))
    (sym (c.in_ok-declare_free.ensures.ok put))
    (sound_declared _ new c.self.invariant c.requires (declaration_fits declared new absent.0 refl absent.1 room))
