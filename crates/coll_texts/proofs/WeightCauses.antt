-- Why an identifier in a weight isn't refused.
use Rattle.std.proofs.Common.{◌≡◌, true, not, None, ap, ◌∙◌}
use Rattle.coll_syntax.specs.Identifier.{same_id}
use Rattle.coll_syntax.specs.declared.identifiers.Id.{Id}
use Rattle.coll_lookups.proofs.Sameness.{found_holds, same_id_decides}
use Rattle.coll_nodes.specs.Causes.{refused_if}
use Rattle.coll_texts.specs.BuilderStates.{BuilderState, weight_cause}
use Rattle.coll_texts.specs.SoundStates.{IsSoundBuilderState}
use Rattle.coll_nodes.specs.Table.{is_known, is_placed_in, ids_of, joined_entries}
use Rattle.coll_nodes.specs.WellFormed.{IsKnown}
use Rattle.coll_texts.specs.declared.load_faults.LoadCause.TheVariants.{NotDeclared, WeightNotPlaced}

-- what is placed isn't refused in a weight
pub placed_unrefused : (d : BuilderState) (id : Id) → IsSoundBuilderState d → is_placed_in d.sections id ≡ true → weight_cause d.declared d.sections id ≡ None
placed_unrefused d id sound here =
    let known : is_known d.declared id ≡ true = found_holds same_id same_id_decides (IsKnown d.declared) (ids_of (joined_entries d.sections)) id sound.built.known here in
    ap (λ b. refused_if (not b) NotDeclared (refused_if (not (is_placed_in d.sections id)) WeightNotPlaced None)) known
    ∙ ap (λ b. refused_if (not b) WeightNotPlaced None) here
