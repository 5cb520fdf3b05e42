-- What judging a statement says of its delta.
use Rattle.std.proofs.Common.{◌≡◌, ◌≢◌, ℕ, ◌+◌, ◌-◌, ◌<◌, ◌≤◌, true, false, ◌||◌, not, cond, List, [], ◌∷◌, Option, Some, None}
use Rattle.std.proofs.Common.{Result, Ok, Err, IsOk, IfErr, OnOk, length, sym, ap, ap₂, ◌∙◌, refl, arith, append-nil}
use Rattle.std.specs.Prelude.{is_none}
use Rattle.std.specs.List.{flat_map}
use Rattle.std.specs.Option.{option_or}
use Rattle.std.proofs.lemmas.Bool.{lt-leb, le-leb, or_right}
use Rattle.std.proofs.Math.Bool.{or_comm}
use Rattle.coll_order.proofs.Sameness.{by_test}
use Rattle.coll_syntax.specs.Identifier.{same_id, has_id}
use Rattle.coll_syntax.specs.declared.identifiers.Id.{Id}
use Rattle.coll_syntax.specs.declared.statements.OrderLine.{OrderLine}
use Rattle.coll_table.proofs.DeltaPlacing.{has_all_moved, length_all_moved, all_moved_declared}
use Rattle.coll_table.proofs.DeltaTables.{may_follow, reweighted_ids}
use Rattle.coll_lookups.proofs.Sameness.{found_holds, same_id_decides}
use Rattle.coll_table.specs.Delta.{unless_refused, or_refused, weight_ids_refusal, ids_given, looked_up, lines_refusal}
use Rattle.coll_table.specs.Delta.{all_moved, block_result, block_delta, reweighted, reweight_refusal, reweight_delta, weights_refusal}
use Rattle.coll_nodes.specs.Causes.{refused_if}
use Rattle.coll_nodes.specs.Entries.{given_weights, names_only, weight_ids}
use Rattle.coll_statements.proofs.NamedAlone.{only_named}
use Rattle.coll_syntax.specs.declared.weights.Weight.{Weight}
use Rattle.coll_texts.proofs.SoundLines.{passed, not_false}
use Rattle.coll_table.specs.Judging.{HaveSame, entries_added, line_ids, id_refusal, ids_refusal}
use Rattle.coll_nodes.specs.Limits.{most_entries}
use Rattle.coll_nodes.specs.Table.{Collation, entries_of, ids_of, is_known, is_placed}
use Rattle.coll_nodes.specs.WellFormed.{IsKnown, IsWellFormed}
use Rattle.coll_table.specs.declared.refusals.Refusal.{Refusal}
use Rattle.coll_table.specs.declared.refusals.Refusal.TheVariants.{NotDeclared, NotPlaced, NoWeights, WeightNotPlaced, Full, TargetNotPlaced, OutOfMemory}

-- where a result is a table unless it is refused, and that is judged, the result is judged
pub judged_ok : {U : Type 0} (r : Result U Refusal) (result : Result Collation Refusal) (refusal : Option Refusal) (after : Collation) → result ≡ unless_refused refusal after → OnOk r (refusal ≡ None)
    → OnOk r (IsOk result)
judged_ok (Ok u) result refusal after is none = rw (is, none) refl
judged_ok (Err it) result refusal after is none = tt

pub judged_err : {U : Type 0} (r : Result U Refusal) (result : Result Collation Refusal) (refusal : Option Refusal) (after : Collation) → result ≡ unless_refused refusal after
    → IfErr r (λ it. refusal ≡ Some it) → IfErr r (λ it. result ≡ Err it)
judged_err (Ok u) result refusal after is some = tt
judged_err (Err it) result refusal after is some = is ∙ ap (λ r. unless_refused r after) some

-- so it is where memory may be wanted, too
pub judged_memory : {U : Type 0} (r : Result U Refusal) (result : Result Collation Refusal) → IfErr r (λ it. result ≡ Err it) → IfErr r (λ it. it ≢ OutOfMemory → result ≡ Err it)
judged_memory (Ok u) result is = tt
judged_memory (Err it) result is = λ _. is

-- what is placed was declared, so nothing refuses it in a weight
pub placed_unrefused : (table : Collation) (more : List Id) (id : Id) → IsWellFormed table → is_placed table id ≡ true → id_refusal table more id ≡ None
placed_unrefused table more id well here =
    let known : is_known table.declared id ≡ true = found_holds same_id same_id_decides (IsKnown table.declared) (ids_of (entries_of table)) id well.built.known here in
    ap (λ b. refused_if (not b) NotDeclared (refused_if (not (is_placed table id || has_id more id)) WeightNotPlaced None)) known
    ∙ ap (λ b. refused_if (not (b || has_id more id)) WeightNotPlaced None) here

-- so nothing refuses the entry whose weights are replaced
pub reweighed_own : (table : Collation) (line : OrderLine) → IsWellFormed table → reweight_refusal table line ≡ None → id_refusal table [] line.id ≡ None
reweighed_own table line well e =
    let later = refused_if (is_none line.weights) NoWeights (weights_refusal table line None) in
    let known = passed (not (is_known table.declared line.id)) NotDeclared (refused_if (not (is_placed table line.id)) NotPlaced later) e in
    placed_unrefused table [] line.id well (not_false (is_placed table line.id) (passed (not (is_placed table line.id)) NotPlaced later known.1).0)

-- neither a weight that names an identifier alone which nothing refuses
pub own_unrefused : (table : Collation) (more : List Id) (own : Id) (weight : Weight) → id_refusal table more own ≡ None → names_only own weight ≡ true → ids_refusal table more (weight_ids weight) ≡ None
own_unrefused table more own weight none only =
    ap (ids_refusal table more) (sym (only_named own weight only)) ∙ ap (λ r. option_or r None) none

-- what results has the declarations of a table, and these identifiers are placed there beside the table's
pub record Results (table : Collation) (more : List Id) (after : Collation) : Type 0 where
  pub declared : after.declared ≡ table.declared
  pub placed : (id : Id) → is_placed after id ≡ (is_placed table id || has_id more id)

-- so a look-up there is one here
pub looked_up_before : (table after : Collation) (more ids : List Id) → Results table more after → weight_ids_refusal after ids ≡ ids_refusal table more ids
looked_up_before table after more [] h = refl
looked_up_before table after more (id ∷ ids) h =
    ap₂ option_or
    (ap (λ declared. refused_if (not (is_known declared id)) NotDeclared (refused_if (not (is_placed after id)) WeightNotPlaced None)) h.declared
    ∙ ap (λ b. refused_if (not (is_known table.declared id)) NotDeclared (refused_if (not b) WeightNotPlaced None)) (h.placed id))
    (looked_up_before table after more ids h)

-- Order lines outside a block.

-- one whose weights are as many as they may be results in a table, unless one of them is refused
pub reweight_judged : (table : Collation) (line : OrderLine) → reweight_refusal table line ≡ None
    → reweight_delta table line ≡ unless_refused (ids_refusal table [] (flat_map weight_ids (given_weights line.weights))) (reweighted table line)
reweight_judged table line passes =
    let new = reweighted table line in
    let results : Results table [] new = record { declared = refl; placed = λ id. ap (λ ids. has_id ids id) (reweighted_ids table line) ∙ or_comm false (is_placed table id) } in
    ap (λ r. or_refused r (looked_up new (line ∷ []))) passes
    ∙ ap (λ r. unless_refused r new) (looked_up_before table new [] (ids_given (line ∷ [])) results ∙ ap (ids_refusal table []) (append-nil (flat_map weight_ids (given_weights line.weights))))

-- Blocks.

module _ (table : Collation) (target : Id) (lines : List OrderLine) (there : is_placed table target ≡ true) where
  -- the lines decide, and then what results
  by_lines : block_delta table target lines ≡ or_refused (lines_refusal table (target ∷ []) lines) (block_result (all_moved table target lines) lines)
  by_lines = ap (λ b. cond (not b) (Err TargetNotPlaced) (or_refused (lines_refusal table (target ∷ []) lines) (block_result (all_moved table target lines) lines))) there

  module _ (well : IsWellFormed table) (judged : lines_refusal table (target ∷ []) lines ≡ None) (added : ℕ) (counted : added ≡ entries_added table lines) where
    -- then there are as many entries more as were counted
    counted_entries : length (entries_of (all_moved table target lines)) ≡ added + length (entries_of table)
    counted_entries = length_all_moved table target (target ∷ []) lines (may_follow table target lines well.built there judged) ∙ ap (λ n. n + length (entries_of table)) (sym counted)

    by_result : block_delta table target lines ≡ block_result (all_moved table target lines) lines
    by_result = by_lines ∙ ap (λ r. or_refused r (block_result (all_moved table target lines) lines)) judged

    -- too many entries
    pub entries_refused : most_entries - length (entries_of table) < added → block_delta table target lines ≡ Err Full
    entries_refused many =
        let e = counted_entries in
        let few = well.built.few_entries in
        let past : most_entries < length (entries_of (all_moved table target lines)) = omega (arith, e, few, many) in
        by_result ∙ ap (λ b. cond b (looked_up (all_moved table target lines) lines) (Err Full)) (lt-leb _ _ past)

    -- what is placed in the table that results
    block_results : (ids : List Id) → HaveSame ids (target ∷ line_ids lines) → Results table ids (all_moved table target lines)
    block_results ids same = record {
      declared = all_moved_declared table target lines;
      placed = λ id. has_all_moved table target (target ∷ []) lines (may_follow table target lines well.built there judged) id ∙ (beside id ∙ ap (λ b. is_placed table id || b) (sym (same id)));
    } where
      beside : (id : Id) → (has_id (line_ids lines) id || is_placed table id) ≡ (is_placed table id || (same_id id target || has_id (line_ids lines) id))
      beside id = by_test (λ b. same_id id target ≡ b → (has_id (line_ids lines) id || is_placed table id) ≡ (is_placed table id || (b || has_id (line_ids lines) id))) (same_id id target)
          (λ _ on. or_right (has_id (line_ids lines) id) (is_placed table id) (ap (is_placed table) ((same_id_decides id target).0 on) ∙ there) ∙ sym (or_right (is_placed table id) true refl))
          (λ _ _. or_comm (has_id (line_ids lines) id) (is_placed table id)) refl

    -- room, so that the weights decide
    pub weights_decide : (ids : List Id) → HaveSame ids (target ∷ line_ids lines) → added ≤ most_entries - length (entries_of table)
        → block_delta table target lines ≡ unless_refused (ids_refusal table ids (ids_given lines)) (all_moved table target lines)
    weights_decide ids same room =
        let e = counted_entries in
        let few = well.built.few_entries in
        let within : length (entries_of (all_moved table target lines)) ≤ most_entries = omega (arith, e, few, room) in
        by_result
        ∙ (ap (λ b. cond b (looked_up (all_moved table target lines) lines) (Err Full)) (le-leb _ _ within)
        ∙ ap (λ r. unless_refused r (all_moved table target lines)) (looked_up_before table (all_moved table target lines) ids (ids_given lines) (block_results ids same)))
