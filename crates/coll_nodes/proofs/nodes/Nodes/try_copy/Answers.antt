-- A copy has the same nodes under the same names.
use Rattle.std.proofs.Common.{◌≡◌, List, [], ◌∷◌, Option, Some, None, ap, ◌∙◌, refl}
use Rattle.std.specs.List.{AllZip}
use Rattle.slab.specs.Slab.{IsSlotClone}
use Rattle.coll_nodes.proofs.nodes.Nodes.try_copy.Goals as goal

-- clones that are the same stand where they stood
copied_slots : {X : Type 0} (slots copies : List (Option X)) → AllZip (IsSlotClone (λ value copy. copy ≡ value)) slots copies → copies ≡ slots
copied_slots [] [] all = refl
copied_slots [] (copy ∷ copies) all = absurd all
copied_slots (slot ∷ slots) [] all = absurd all
copied_slots (None ∷ slots) (copy ∷ copies) all = ap (λ s. s ∷ copies) all.0 ∙ ap (λ ss. None ∷ ss) (copied_slots slots copies all.1)
copied_slots (Some value ∷ slots) (None ∷ copies) all = absurd all.0
copied_slots (Some value ∷ slots) (Some copy ∷ copies) all = ap (λ v. Some v ∷ copies) all.0 ∙ ap (λ ss. Some value ∷ ss) (copied_slots slots copies all.1)

pub invariant_of-result : goal.invariant_of-result
invariant_of-result c =
    let slots = copied_slots c.self.inside.contents.slots c.in_ok-clone.field-0.slots c.in_ok-clone.ensures.cases.slots in
    rw (c.in_ok-try_copy.ensures, slots) c.self.invariant

pub returns : goal.returns
returns c =
    let slots = copied_slots c.self.inside.contents.slots c.in_ok-clone.field-0.slots c.in_ok-clone.ensures.cases.slots in
    rw (← c.self.view_is, c.in_ok-try_copy.ensures, slots) refl
