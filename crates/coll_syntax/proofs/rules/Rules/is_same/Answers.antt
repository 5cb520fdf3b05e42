-- Rules are the same list where they are the same at each level.
use Rattle.std.proofs.Common.{◌≡◌, ◌&&◌, ap, sym, ◌∙◌}
use Rattle.std.specs.Bool.{Decides, beq}
use Rattle.std.specs.Cmp.{booleans_Decides}
use Rattle.std.proofs.lemmas.Bool.Decides.{Decides-and, Decides-like}
use Rattle.std.proofs.lemmas.Slice.Eq.{slice_eq-Decides}
use Rattle.coll_syntax.specs.declared.rules.Rule.{Rule}
use Rattle.coll_syntax.proofs.rules.Rules.is_same.Goals as goal

same_rule : (a b : Rule) → (a.backward ≡ b.backward) × (a.position ≡ b.position) → a ≡ b
same_rule a b h = λ i. record { backward = h.0 i; position = h.1 i }

Decides-rule : (a b : Rule) → Decides (beq a.backward b.backward && beq a.position b.position) (a ≡ b)
Decides-rule a b =
    Decides-like (beq a.backward b.backward && beq a.position b.position) (same_rule a b) (λ h. (ap (λ r. r.backward) h, ap (λ r. r.position) h))
    (Decides-and (beq a.backward b.backward) (beq a.position b.position) (booleans_Decides a.backward b.backward) (booleans_Decides a.position b.position))

pub returns : goal.returns
returns c =
    let d = slice_eq-Decides Decides-rule c.get.result.now c.get-2.result.now c.eq.result c.eq.ensures in
    (λ t. sym c.get.ensures.value ∙ (d.0 t ∙ c.get-2.ensures.value), λ h. d.1 (c.get.ensures.value ∙ (h ∙ sym c.get-2.ensures.value)))
