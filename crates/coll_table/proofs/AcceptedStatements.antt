-- What holds of a table that accepts a statement: nothing refuses it, and the table that results is the one that it says.
use Rattle.std.proofs.Common.{◌≡◌, ℕ, true, false, ◌&&◌, not, cond, List, [], ◌∷◌, Option, Some, None, Result, Ok, Err, IsOk, length, nat_le, ap, ◌∙◌, refl}
use Rattle.coll_order.proofs.Sameness.{by_test, not_both}
use Rattle.coll_syntax.specs.Identifier.{has_name, same_name}
use Rattle.coll_syntax.specs.declared.identifiers.Id.{Id}
use Rattle.coll_syntax.specs.declared.statements.OrderLine.{OrderLine}
use Rattle.coll_nodes.proofs.LayoutReads.{both_true}
use Rattle.coll_texts.proofs.SoundLines.{not_false, passed}
use Rattle.coll_table.specs.Delta.{all_moved, block_delta, block_result, ids_given, lines_refusal, looked_up, or_refused, reweight_delta}
use Rattle.coll_table.specs.Delta.{reweight_refusal, reweighted, section_delta, section_refusal, unless_refused, weight_ids_refusal}
use Rattle.coll_nodes.specs.Causes.{refused_if}
use Rattle.coll_nodes.specs.Limits.{most_entries}
use Rattle.coll_nodes.specs.Placement.{section_moved}
use Rattle.coll_nodes.specs.Table.{Collation, entries_of, is_known, is_placed, section_names}
use Rattle.coll_table.specs.declared.refusals.Refusal.{Refusal}
use Rattle.coll_table.specs.declared.refusals.Refusal.TheVariants.{Full, NoSuchSection, NotDeclared, NotPlaced, SectionAfterItself, TargetNotPlaced}

-- what isn't refused
pub unless_accepted : (refusal : Option Refusal) (table : Collation) → IsOk (unless_refused refusal table) → (refusal ≡ None) × (unless_refused refusal table ≡ Ok table)
unless_accepted None table ok = (refl, refl)
unless_accepted (Some refusal) table ok = not_both ok refl

-- what isn't refused, where something else may be
pub or_accepted : (refusal : Option Refusal) (result : Result Collation Refusal) → IsOk (or_refused refusal result) → (refusal ≡ None) × (or_refused refusal result ≡ result) × IsOk result
or_accepted None result ok = (refl, refl, ok)
or_accepted (Some refusal) result ok = not_both ok refl

-- a block that a table accepts
pub record BlockAccepted (table : Collation) (target : Id) (lines : List OrderLine) : Type 0 where
  pub placed : is_placed table target ≡ true
  pub passes : lines_refusal table (target ∷ []) lines ≡ None
  pub result : block_delta table target lines ≡ Ok (all_moved table target lines)

-- the lines of a block are all placed
result_is : (table : Collation) (lines : List OrderLine) → IsOk (block_result table lines) → block_result table lines ≡ Ok table
result_is table lines =
    by_test (λ b. IsOk (cond b (looked_up table lines) (Err Full)) → cond b (looked_up table lines) (Err Full) ≡ Ok table) (nat_le (length (entries_of table)) most_entries)
    (λ few ok. (unless_accepted (weight_ids_refusal table (ids_given lines)) table ok).1)
    (λ many ok. not_both ok refl)

pub block_accepted : (table : Collation) (target : Id) (lines : List OrderLine) → IsOk (block_delta table target lines) → BlockAccepted table target lines
block_accepted table target lines =
    let judged = or_refused (lines_refusal table (target ∷ []) lines) (block_result (all_moved table target lines) lines) in
    by_test (λ b. is_placed table target ≡ b → IsOk (cond (not b) (Err TargetNotPlaced) judged) → BlockAccepted table target lines) (is_placed table target)
    (λ on e ok.
    let parts = or_accepted (lines_refusal table (target ∷ []) lines) (block_result (all_moved table target lines) lines) ok in
    record {
      placed = e;
      passes = parts.0;
      result = ap (λ b. cond (not b) (Err TargetNotPlaced) judged) e ∙ (parts.1 ∙ result_is (all_moved table target lines) lines parts.2);
    })
    (λ off e ok. not_both ok refl) refl

-- a section move that a table accepts
pub record SectionAccepted (table : Collation) (name after : List ℕ) : Type 0 where
  pub moved : has_name (section_names table.sections) name ≡ true
  pub target : has_name (section_names table.sections) after ≡ true
  pub apart : same_name name after ≡ false
  pub result : section_delta table name after ≡ Ok (record table { sections = section_moved table.sections name after })

pub section_accepted : (table : Collation) (name after : List ℕ) → IsOk (section_delta table name after) → SectionAccepted table name after
section_accepted table name after ok =
    let parts = unless_accepted (section_refusal table name after) (record table { sections = section_moved table.sections name after }) ok in
    let there = passed (not (has_name (section_names table.sections) name && has_name (section_names table.sections) after)) NoSuchSection (refused_if (same_name name after) SectionAfterItself None)
    parts.0 in
    let both = both_true (has_name (section_names table.sections) name) (has_name (section_names table.sections) after) (not_false _ there.0) in
    record {
      moved = both.0;
      target = both.1;
      apart = (passed (same_name name after) SectionAfterItself None there.1).0;
      result = parts.1;
    }

-- an order line outside a block that a table accepts
pub record ReweightAccepted (table : Collation) (line : OrderLine) : Type 0 where
  pub placed : is_placed table line.id ≡ true
  pub passes : reweight_refusal table line ≡ None
  pub result : reweight_delta table line ≡ Ok (reweighted table line)

pub reweight_accepted : (table : Collation) (line : OrderLine) → IsOk (reweight_delta table line) → ReweightAccepted table line
reweight_accepted table line ok =
    let parts = or_accepted (reweight_refusal table line) (looked_up (reweighted table line) (line ∷ [])) ok in
    let known = passed (not (is_known table.declared line.id)) NotDeclared _ parts.0 in
    let placed = passed (not (is_placed table line.id)) NotPlaced _ known.1 in
    record {
      placed = not_false _ placed.0;
      passes = parts.0;
      result = parts.1 ∙ (unless_accepted (weight_ids_refusal (reweighted table line) (ids_given (line ∷ []))) (reweighted table line) parts.2).1;
    }
