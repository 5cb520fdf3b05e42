-- A weight that names what the weight before it at the level did isn't refused.
use Rattle.std.proofs.Common.{◌≡◌, ℕ, List, length, get_or, Option, None, Some, IfSome, is_some, nat_lt, Bor, sym, refl}
use Rattle.std.specs.List.{flat_map}
use Rattle.std.proofs.lemmas.Bool.{ltb-true}
use Rattle.coll_syntax.specs.declared.weights.Weight.{Weight}
use Rattle.coll_nodes.specs.Entries.{weight_ids}
use Rattle.coll_texts.specs.BuilderStates.{BuilderState, weight_cause, ids_cause}
use Rattle.coll_texts.proofs.FirstCauses.{member_absent}

-- none of the identifiers of a weight of an entry is refused, where none of the entry's is
pub judged_before : (d : BuilderState) (before : List Weight) (level : ℕ) (found : Option (Bor Weight)) → ids_cause d.declared d.sections (flat_map weight_ids before) ≡ None
    → is_some found ≡ nat_lt level (length before) → IfSome found (λ (it : Bor Weight). it.now ≡ get_or before level it.now)
    → IfSome found (λ (it : Bor Weight). ids_cause d.declared d.sections (weight_ids it.now) ≡ None)
judged_before d before level None none there read = tt
judged_before d before level (Some it) none there read =
    member_absent (weight_cause d.declared d.sections) (ids_cause d.declared d.sections) refl (λ _ _. refl) weight_ids before level it.now none (ltb-true level (length before) (sym there)) read
