-- A builder with one more entry is sound.
use Rattle.std.proofs.Common.{◌≡◌, false, ℕ, List, ◌∷◌, ◌++◌, [], ap, sym, subst, ◌∙◌}
use Rattle.coll_texts.specs.Building.{Parts}
use Rattle.coll_texts.specs.BuilderStates.{BuilderState}
use Rattle.coll_texts.specs.Loading.{with_last}
use Rattle.coll_texts.specs.SoundStates.{IsSoundBuilderState, MayBePut}
use Rattle.coll_nodes.specs.Table.{is_placed_in}
use Rattle.coll_texts.proofs.SoundLines.{not_there, sound_entry}
use Rattle.coll_texts.proofs.table_builder.TableBuilder.put.Goals as goal

pub invariant_of-self-2 : goal.invariant_of-self-2
invariant_of-self-2 c =
    let s = c.self.inside in
    subst (λ (b : Parts). IsSoundBuilderState (record { order_open = s.order_open; rules = s.rules; declared = b.declared; sections = b.sections; numbers = c.push_reserved.new.self.items }))
    (sym (c.in_ok-place_last.ensures.ok c.if-not-branch.false))
    (subst (λ (numbers : List ℕ). IsSoundBuilderState (record {
      order_open = s.order_open;
      rules = s.rules;
      declared = s.builder.declared;
      sections = with_last s.builder.sections c.args.entry;
      numbers = numbers;
    })) (sym (c.push_reserved.ensures.items ∙ ap (λ (numbers : List ℕ). numbers ++ c.args.number ∷ []) c.reserve.ensures.items))
    (sound_entry _ c.args.number c.args.entry c.self.invariant (subst (λ (d : BuilderState). MayBePut d c.args.entry) (sym c.self.view_is) (c.requires (subst (λ (d : BuilderState). is_placed_in d.sections c.args.entry.id ≡ false) c.self.view_is
    (not_there _ (sym c.if-not-branch.false ∙ c.in_ok-place_last.ensures.free)))))))
