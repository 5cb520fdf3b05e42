-- Weights that name one identifier alone.
use Rattle.std.proofs.Common.{◌≡◌, ◌<◌, ◌≤◌, true, List, [], ◌∷◌, length, get_or, sym, ap, ◌∙◌, arith}
use Rattle.std.proofs.lemmas.Bool.{false≢true}
use Rattle.coll_syntax.specs.declared.identifiers.Id.{Id}
use Rattle.coll_syntax.specs.declared.weights.Weight.{Weight}
use Rattle.coll_syntax.specs.declared.weights.Weight.TheVariants.{Ignore, Own, Names}
use Rattle.coll_nodes.specs.Entries.{names_only, weight_ids}
use Rattle.coll_lookups.proofs.Sameness.{same_id_decides}

-- a weight that names an identifier alone names just that
pub only_named : (id : Id) (weight : Weight) → names_only id weight ≡ true → id ∷ [] ≡ weight_ids weight
only_named id Ignore e = absurd (false≢true e)
only_named id Own e = absurd (false≢true e)
only_named id (Names []) e = absurd (false≢true e)
only_named id (Names (only ∷ [])) e = ap (λ (it : Id). it ∷ []) ((same_id_decides id only).0 e)
only_named id (Names (first ∷ second ∷ later)) e = absurd (false≢true e)

-- a list of one member
alone : (ids : List Id) (id : Id) → 1 ≤ length ids → length ids < 2 → id ≡ get_or ids 0 id → ids ≡ id ∷ []
alone [] id some few read = absurd (omega arith)
alone (first ∷ []) id some few read = ap (λ (it : Id). it ∷ []) (sym read)
alone (first ∷ second ∷ later) id some few read = absurd (omega arith)

-- a weight of one identifier names what a weight does that names this alone
pub named_again : (weight other : Weight) (ids : List Id) (id : Id) → weight ≡ Names ids → 1 ≤ length ids → length ids < 2 → id ≡ get_or ids 0 id → names_only id other ≡ true
    → weight_ids weight ≡ weight_ids other
named_again weight other ids id named some few read same = ap weight_ids named ∙ (alone ids id some few read ∙ only_named id other same)
