-- What a table answers is among the faults that are found.
use Rattle.std.proofs.Common.{◌≡◌, ℕ, suc, zero, ◌-◌, true, false, not, cond, is_some, IsTrue, List, [], ◌∷◌, ◌++◌, Option, Some, None, map, flat_map, length, sym, ap, ap₂, subst, ◌∙◌, refl, eq-eqb}
use Rattle.std.proofs.Common.{Result, Ok, Err, IsOk}
use Rattle.std.specs.Prelude.{nat_le, ◌↔◌, ◌≢◌}
use Rattle.std.specs.Option.{option_or, option_map}
use Rattle.std.proofs.lemmas.Bool.{leb-true, leb-false}
use Rattle.std.proofs.lemmas.List.{map-append}
use Rattle.coll_order.proofs.Sameness.{by_test, not_both}
use Rattle.coll_syntax.specs.declared.identifiers.Id.{Id}
use Rattle.coll_syntax.specs.declared.identifiers.Id.TheVariants.{Named}
use Rattle.coll_syntax.specs.declared.statements.OrderLine.{OrderLine}
use Rattle.coll_syntax.specs.declared.statements.Statement.{Statement}
use Rattle.coll_syntax.specs.declared.statements.Statement.TheVariants as statement
use Rattle.coll_syntax.specs.declared.weights.Weight.{Weight}
use Rattle.coll_syntax.specs.declared.weights.Weight.TheVariants.{Ignore, Own, Names}
use Rattle.coll_nodes.specs.Causes.{refused_if}
use Rattle.coll_nodes.specs.Entries.{given_weights, weight_ids}
use Rattle.coll_nodes.specs.Limits.{most_entries}
use Rattle.coll_nodes.specs.OwnNames.{own_id, own_weight, own_weights}
use Rattle.coll_nodes.specs.Table.{Collation, entries_of, is_placed}
use Rattle.coll_nodes.specs.WellFormed.{IsWellFormed}
use Rattle.coll_statements.specs.OwnStatements.{own_line, own_lines}
use Rattle.coll_table.proofs.DeltaJudged.{entries_refused, reweight_judged, weights_decide}
use Rattle.coll_texts.proofs.SoundLines.{neither_found}
use Rattle.coll_table.specs.Delta.{all_moved, block_delta, block_result, delta, ids_given, line_refusal, lines_refusal}
use Rattle.coll_table.specs.Delta.{looked_up, or_refused, own_delta, reweight_delta, reweight_refusal, reweighted, unless_refused}
use Rattle.coll_table.specs.Judging.{entries_added, id_refusal, ids_refusal}
use Rattle.coll_table.specs.OwnStatements.{own_statement}
use Rattle.coll_table.specs.Refusals.{refusal_number}
use Rattle.coll_table.specs.declared.refusals.Refusal.{Refusal}
use Rattle.coll_table.specs.declared.refusals.Refusal.TheVariants.{TargetNotPlaced}
use Rattle.coll_advice.specs.Faults.{RefusalsAreFound, answered_faults, block_faults, block_ids, block_line_faults, equivalence_name, faults}
use Rattle.coll_advice.specs.Faults.{first_with, full_faults, line_faults, listed, refused_faults, same_refusal, section_named}
use Rattle.coll_advice.specs.LineFaults.{about, ids_fault, ids_in, reweight_fault}
use Rattle.coll_advice.specs.declared.found.Found.{Found}

-- a refusal is among some faults
abbrev pub Has : Refusal → List Found → Type 0
Has refusal faults = IsTrue (is_some (first_with refusal faults))

no : IsTrue false → ⊥
no e = cc

-- it is where it is the first of all
has_first : (refusal : Refusal) (fault : Found) (later : List Found) → fault.refusal ≡ refusal → Has refusal (fault ∷ later)
has_first refusal fault later same =
    by_test (λ b. same_refusal fault.refusal refusal ≡ b → IsTrue (is_some (cond b (Some fault) (first_with refusal later)))) (same_refusal fault.refusal refusal)
    (λ _ _. refl)
    (λ off _. not_both (ap (λ r. same_refusal r refusal) same ∙ eq-eqb _ _ refl) off) refl

-- it stays among more before it
has_behind : (refusal : Refusal) (before faults : List Found) → Has refusal faults → Has refusal (before ++ faults)
has_behind refusal [] faults has = has
has_behind refusal (fault ∷ before) faults has =
    by_test (λ b. IsTrue (is_some (cond b (Some fault) (first_with refusal (before ++ faults))))) (same_refusal fault.refusal refusal)
    (λ _. refl) (λ _. has_behind refusal before faults has)

-- and among more behind it
has_before : (refusal : Refusal) (faults later : List Found) → Has refusal faults → Has refusal (faults ++ later)
has_before refusal [] later has = absurd (no has)
has_before refusal (fault ∷ faults) later has =
    by_test (λ b. IsTrue (is_some (cond b (Some fault) (first_with refusal faults))) → IsTrue (is_some (cond b (Some fault) (first_with refusal (faults ++ later)))))
    (same_refusal fault.refusal refusal)
    (λ _ _. refl) (λ _ has. has_before refusal faults later has) has

-- a result that is refused so
unless_err : (found : Option Refusal) (after : Collation) (refusal : Refusal) → unless_refused found after ≡ Err refusal → found ≡ Some refusal
unless_err None after refusal e = cc
unless_err (Some it) after refusal e = cc

-- a refusal, as an answer
abbrev refusing : Refusal → Result Collation Refusal
refusing refusal = Err refusal

same_err : {a b : Refusal} → refusing a ≡ refusing b → a ≡ b
same_err e = cc

same_some : {a b : Refusal} → Some a ≡ Some b → a ≡ b
same_some e = cc

module _ (refusal : Refusal) where
  -- one fault, where its refusal is the first
  one_found : (place : Option ℕ) (id : Id) (first later : Option Refusal) (found : Option Found) → option_or first later ≡ Some refusal → (later ≡ Some refusal → Has refusal (listed found))
      → Has refusal (listed (option_or (about place id first) found))
  one_found place id None later found e behind = behind e
  one_found place id (Some it) later found e behind = has_first refusal (record { line = place; refusal = it; id = Some id }) [] (same_some e)

  -- so among more behind it
  line_found : (place : Option ℕ) (id : Id) (first later : Option Refusal) (found : Option Found) (faults : List Found) → option_or first later ≡ Some refusal
      → (later ≡ Some refusal → Has refusal faults) → Has refusal (listed (option_or (about place id first) found) ++ faults)
  line_found place id None later found faults e behind = has_behind refusal (listed found) faults (behind e)
  line_found place id (Some it) later found faults e behind = has_first refusal (record { line = place; refusal = it; id = Some id }) faults (same_some e)

  -- so behind a line that is placed
  given_found : (place : Option ℕ) (id : Id) (none first later : Option Refusal) (found : Option Found) (faults : List Found) → none ≡ None → option_or first later ≡ Some refusal
      → (first ≡ Some refusal → Has refusal (listed found)) → (later ≡ Some refusal → Has refusal faults) → Has refusal (listed (option_or (about place id none) found) ++ faults)
  given_found place id None None later found faults placed e here behind = has_behind refusal (listed found) faults (behind e)
  given_found place id None (Some it) later found faults placed e here behind = has_before refusal (listed found) faults (here e)
  given_found place id (Some other) first later found faults placed e here behind = cc

module _ (table : Collation) where
  -- the identifiers in the weights of a line by own names
  own_ids_in : (line : OrderLine) → flat_map weight_ids (given_weights (option_map (own_weights table.declared) line.weights)) ≡ map (own_id table.declared) (ids_in line)
  own_ids_in line = given line.weights where
    one : (weight : Weight) → weight_ids (own_weight table.declared weight) ≡ map (own_id table.declared) (weight_ids weight)
    one Ignore = refl
    one Own = refl
    one (Names ids) = refl

    all : (weights : List Weight) → flat_map weight_ids (own_weights table.declared weights) ≡ map (own_id table.declared) (flat_map weight_ids weights)
    all [] = refl
    all (weight ∷ weights) = ap₂ (λ front back. front ++ back) (one weight) (all weights) ∙ sym (map-append (own_id table.declared) (weight_ids weight) (flat_map weight_ids weights))

    given : (weights : Option (List Weight)) → flat_map weight_ids (given_weights (option_map (own_weights table.declared) weights))
        ≡ map (own_id table.declared) (flat_map weight_ids (given_weights weights))
    given None = refl
    given (Some weights) = all weights

  -- the first refusal among identifiers, of which some stand before others
  ids_append : (more xs ys : List Id) → ids_refusal table more (xs ++ ys) ≡ option_or (ids_refusal table more xs) (ids_refusal table more ys)
  ids_append more [] ys = refl
  ids_append more (x ∷ xs) ys = ap (option_or (id_refusal table more x)) (ids_append more xs ys) ∙ again (id_refusal table more x) (ids_refusal table more xs) (ids_refusal table more ys) where
    again : (a b c : Option Refusal) → option_or a (option_or b c) ≡ option_or (option_or a b) c
    again (Some x) b c = refl
    again None b c = refl

  module _ (refusal : Refusal) where
    ids_found : (place : Option ℕ) (more ids : List Id) → ids_refusal table more (map (own_id table.declared) ids) ≡ Some refusal → Has refusal (listed (ids_fault table place more ids))
    ids_found place more [] e = cc
    ids_found place more (id ∷ ids) e =
        one_found refusal place id (id_refusal table more (own_id table.declared id)) (ids_refusal table more (map (own_id table.declared) ids)) (ids_fault table place more ids) e
        (ids_found place more ids)

    -- a line that isn't placed
    lines_found : (n : ℕ) (before all : List Id) (lines : List OrderLine) → lines_refusal table before (own_lines table.declared lines) ≡ Some refusal
        → Has refusal (line_faults table n before all lines)
    lines_found n before all [] e = cc
    lines_found n before all (line ∷ lines) e =
        line_found refusal (Some n) line.id (line_refusal table before (own_line table.declared line))
        (lines_refusal table (before ++ own_id table.declared line.id ∷ []) (own_lines table.declared lines)) (ids_fault table (Some n) all (ids_in line))
        (line_faults table (suc n) (before ++ own_id table.declared line.id ∷ []) all lines) e
        (lines_found (suc n) (before ++ own_id table.declared line.id ∷ []) all lines)

    -- a line whose weights name what may not stand there
    weights_found : (n : ℕ) (before all : List Id) (lines : List OrderLine) → lines_refusal table before (own_lines table.declared lines) ≡ None
        → ids_refusal table all (ids_given (own_lines table.declared lines)) ≡ Some refusal → Has refusal (line_faults table n before all lines)
    weights_found n before all [] placed e = cc
    weights_found n before all (line ∷ lines) placed e =
        let own = own_line table.declared line in
        let next = before ++ own.id ∷ [] in
        let own_ids = flat_map weight_ids (given_weights own.weights) in
        let both = neither_found (line_refusal table before own) (lines_refusal table next (own_lines table.declared lines)) placed in
        given_found refusal (Some n) line.id (line_refusal table before own) (ids_refusal table all own_ids) (ids_refusal table all (ids_given (own_lines table.declared lines)))
        (ids_fault table (Some n) all (ids_in line)) (line_faults table (suc n) next all lines) both.0
        (sym (ids_append all own_ids (ids_given (own_lines table.declared lines))) ∙ e)
        (λ here. ids_found (Some n) all (ids_in line) (sym (ap (ids_refusal table all) (own_ids_in line)) ∙ here))
        (weights_found (suc n) next all lines both.1)

    -- a block whose target is placed
    module _ (target : Id) (lines : List OrderLine) (well : IsWellFormed table) (there : is_placed table (own_id table.declared target) ≡ true)
        (refused : block_delta table (own_id table.declared target) (own_lines table.declared lines) ≡ Err refusal) where
      abbrev own : Id
      own = own_id table.declared target

      abbrev owned : List OrderLine
      owned = own_lines table.declared lines

      abbrev rest : List Found
      rest = block_line_faults table target lines ++ full_faults refusal

      behind_lines : lines_refusal table (own ∷ []) owned ≡ None → Has refusal rest
      behind_lines passes =
          by_test (λ b. nat_le (entries_added table owned) (most_entries - length (entries_of table)) ≡ b → Has refusal rest)
          (nat_le (entries_added table owned) (most_entries - length (entries_of table)))
          (λ _ room.
          let decided = weights_decide table own owned there well passes (entries_added table owned) refl (block_ids table target lines) (λ _. refl) (leb-true _ _ room) in
          has_before refusal (block_line_faults table target lines) (full_faults refusal)
          (weights_found zero (own ∷ []) (block_ids table target lines) lines passes (unless_err _ (all_moved table own owned) refusal (sym decided ∙ refused))))
          (λ _ many.
          let full = entries_refused table own owned there well passes (entries_added table owned) refl (leb-false _ _ many) in
          has_behind refusal (block_line_faults table target lines) (full_faults refusal)
          (subst (λ r. Has r (full_faults r)) (same_err (sym full ∙ refused)) refl)) refl

      by_lines : (first : Option Refusal) → lines_refusal table (own ∷ []) owned ≡ first → Has refusal rest
      by_lines None is = behind_lines is
      by_lines (Some it) is =
          let same : it ≡ refusal = same_err (sym (first_decides it is) ∙ refused) in
          has_before refusal (block_line_faults table target lines) (full_faults refusal) (lines_found zero (own ∷ []) (block_ids table target lines) lines (is ∙ ap Some same)) where
            first_decides : (it : Refusal) → lines_refusal table (own ∷ []) owned ≡ Some it → block_delta table own owned ≡ Err it
            first_decides it is =
                ap (λ b. cond (not b) (Err TargetNotPlaced) (or_refused (lines_refusal table (own ∷ []) owned) (block_result (all_moved table own owned) owned))) there
                ∙ ap (λ r. or_refused r (block_result (all_moved table own owned) owned)) is

      pub placed_found : Has refusal rest
      placed_found = by_lines (lines_refusal table (own ∷ []) owned) refl

    block_found : (target : Id) (lines : List OrderLine) → IsWellFormed table → block_delta table (own_id table.declared target) (own_lines table.declared lines) ≡ Err refusal
        → Has refusal (block_faults table target lines refusal)
    block_found target lines well refused =
        let own = own_id table.declared target in
        let owned = own_lines table.declared lines in
        let rest = block_line_faults table target lines ++ full_faults refusal in
        by_test (λ b. is_placed table own ≡ b → Has refusal (listed (about None target (refused_if (not b) TargetNotPlaced None)) ++ rest)) (is_placed table own)
        (λ _ there. placed_found target lines well there refused)
        (λ _ missing.
        let other : TargetNotPlaced ≡ refusal = same_err
        (sym (ap (λ b. cond (not b) (Err TargetNotPlaced) (or_refused (lines_refusal table (own ∷ []) owned) (block_result (all_moved table own owned) owned))) missing) ∙ refused) in
        has_first refusal (record { line = None; refusal = TargetNotPlaced; id = Some target }) rest other) refl

    -- an order line outside of a block
    module _ (line : OrderLine) (refused : reweight_delta table (own_line table.declared line) ≡ Err refusal) where
      abbrev lone : OrderLine
      lone = own_line table.declared line

      abbrev told : Option Refusal → List Found
      told first = listed (option_or (about None line.id first) (ids_fault table None [] (ids_in line)))

      by_reweight : (first : Option Refusal) → reweight_refusal table lone ≡ first → Has refusal (told (reweight_refusal table lone))
      by_reweight None is =
          subst (λ first. Has refusal (told first)) (sym is)
          (ids_found None [] (ids_in line)
          (sym (ap (ids_refusal table []) (own_ids_in line)) ∙ unless_err _ (reweighted table lone) refusal (sym (reweight_judged table lone is) ∙ refused)))
      by_reweight (Some it) is =
          subst (λ first. Has refusal (told first)) (sym is)
          (has_first refusal (record { line = None; refusal = it; id = Some line.id }) []
          (same_err (sym (ap (λ r. or_refused r (looked_up (reweighted table lone) (lone ∷ []))) is) ∙ refused)))

      reweight_found : Has refusal (listed (reweight_fault table line))
      reweight_found = by_reweight (reweight_refusal table lone) refl

-- the law
pub refusals_are_found : RefusalsAreFound
unfolding delta own_delta own_statement faults
refusals_are_found table (statement.Symbol name) refusal well refused = rw refused (has_first refusal (record { line = None; refusal = refusal; id = Some (Named name) }) [] refl)
refusals_are_found table (statement.Element name text) refusal well refused = rw refused (has_first refusal (record { line = None; refusal = refusal; id = Some (Named name) }) [] refl)
refusals_are_found table (statement.Equivalence name symbol) refusal well refused =
    rw refused (has_first refusal (record { line = None; refusal = refusal; id = Some (Named (equivalence_name refusal name symbol)) }) [] refl)
refusals_are_found table (statement.Block target lines) refusal well refused = rw refused (block_found table refusal target lines well refused)
refusals_are_found table (statement.SectionAfter moved after) refusal well refused =
    rw refused (has_first refusal (record { line = None; refusal = refusal; id = Some (Named (section_named table refusal moved after)) }) [] refl)
refusals_are_found table (statement.Reweight line) refusal well refused = rw refused (reweight_found table refusal line refused)

-- none is found where a table accepts a statement
accepted : (table : Collation) (s : Statement) (after : Collation) → delta table s ≡ Ok after → faults table s ≡ []
unfolding faults
accepted table s after is = ap (answered_faults table s) is

-- so nothing is found exactly where the table accepts a statement
pub accepted_where_none : (table : Collation) (s : Statement) (found : List Found) → IsWellFormed table → found ≡ faults table s → (found ≡ []) ↔ IsOk (delta table s)
accepted_where_none table s found well are = by (delta table s) refl where
  by : (answer : Result Collation Refusal) → delta table s ≡ answer → (found ≡ []) ↔ IsOk answer
  by (Ok after) is = (λ _. refl, λ _. are ∙ accepted table s after is)
  by (Err refusal) is = (λ none. absurd (no (subst (λ fs. Has refusal fs) (sym are ∙ none) (refusals_are_found table s refusal well is))), λ ok. absurd (no ok))

-- and a refusal is told where it is the table's
pub told_where_refused : (table : Collation) (s : Statement) (refusal : Refusal) (found : Option Found) → IsWellFormed table → found ≡ first_with refusal (faults table s) → delta table s ≡ Err refusal
    → IsTrue (is_some found)
told_where_refused table s refusal found well is refused = subst (λ f. IsTrue (is_some f)) (sym is) (refusals_are_found table s refusal well refused)

-- the faults of a statement that a table refuses
pub refused : (table : Collation) (s : Statement) (refusal : Refusal) → delta table s ≡ Err refusal → faults table s ≡ refused_faults table s refusal
unfolding faults
refused table s refusal is = ap (answered_faults table s) is

-- one whose number is no other's is no other
pub other_refusal : (refusal other : Refusal) (n m : ℕ) → n ≡ refusal_number refusal → m ≡ refusal_number other → n ≢ m → refusal ≢ other
other_refusal refusal other n m is are apart same = apart (is ∙ (ap refusal_number same ∙ sym are))

-- and of one that it accepts
pub none_where_ok : (table : Collation) (s : Statement) → IsOk (delta table s) → faults table s ≡ []
unfolding faults
none_where_ok table s ok = by (delta table s) ok where
  by : (answer : Result Collation Refusal) → IsOk answer → answered_faults table s answer ≡ []
  by (Ok after) ok = refl
  by (Err refusal) ok = absurd (no ok)
