-- Whether a section is there, told by the refusal to move it after itself.
use Rattle.std.proofs.Common.{◌≡◌, ◌≢◌, ℕ, Bool, true, false, ◌&&◌, not, List, None, Result, Err, IsOk, sym, ap, subst, ◌∙◌, refl}
use Rattle.std.specs.Prelude.{nat_eq}
use Rattle.std.proofs.lemmas.Bool.{false≢true}
use Rattle.coll_lookups.proofs.Sameness.{same_name_decides}
use Rattle.coll_syntax.specs.Identifier.{has_name}
use Rattle.coll_syntax.specs.declared.statements.Statement.TheVariants as statement
use Rattle.coll_nodes.specs.Causes.{refused_if}
use Rattle.coll_nodes.specs.Placement.{section_moved}
use Rattle.coll_nodes.specs.Table.{Collation, section_names}
use Rattle.coll_table.specs.Delta.{delta, own_delta, unless_refused}
use Rattle.coll_table.specs.Judging.{judging_takes_memory}
use Rattle.coll_table.specs.OwnStatements.{own_statement}
use Rattle.coll_table.specs.Refusals.{refusal_number}
use Rattle.coll_table.specs.declared.refusals.Refusal.{Refusal}
use Rattle.coll_table.specs.declared.refusals.Refusal.TheVariants.{NoSuchSection, OutOfMemory, SectionAfterItself}

-- a refusal, as an answer
abbrev refusing : Refusal → Result Collation Refusal
refusing refusal = Err refusal

same_err : (a b : Refusal) → refusing a ≡ refusing b → a ≡ b
same_err a b e = cc

module _ (table : Collation) (name : List ℕ) where
  -- what a section is moved to by being put after itself, which it never is
  abbrev put : Collation
  put = record table { sections = section_moved table.sections name name }

  -- the answer to that, by whether the section is there
  abbrev answer : Bool → Bool → Result Collation Refusal
  answer there same = unless_refused (refused_if (not (there && there)) NoSuchSection (refused_if same SectionAfterItself None)) put

  twice_is : delta table (statement.SectionAfter name name) ≡ answer (has_name (section_names table.sections) name) true
  unfolding delta own_delta own_statement
  twice_is = ap (answer (has_name (section_names table.sections) name)) ((same_name_decides name name).1 refl)

  told : (there : Bool) (refusal : Refusal) → answer there true ≡ Err refusal → not (nat_eq (refusal_number refusal) 52) ≡ there
  told true refusal is = ap (λ r. not (nat_eq (refusal_number r) 52)) (same_err refusal SectionAfterItself (sym is))
  told false refusal is = ap (λ r. not (nat_eq (refusal_number r) 52)) (same_err refusal NoSuchSection (sym is))

  never : (there : Bool) → IsOk (answer there true) → true ≡ there
  never true ok = refl
  never false ok = absurd (false≢true ok)

-- no memory is taken to judge that
unstarved : (table : Collation) (moved after : List ℕ) (refusal : Refusal) → (refusal ≡ OutOfMemory → judging_takes_memory table (statement.SectionAfter moved after) ≡ true) → refusal ≢ OutOfMemory
unfolding own_statement
unstarved table moved after refusal memory lack = false≢true (memory lack)

pub section_told : (table : Collation) (name moved after : List ℕ) (refusal : Refusal) → moved ≡ name → after ≡ name
    → (refusal ≢ OutOfMemory → delta table (statement.SectionAfter moved after) ≡ Err refusal)
    → (refusal ≡ OutOfMemory → judging_takes_memory table (statement.SectionAfter moved after) ≡ true)
    → not (nat_eq (refusal_number refusal) 52) ≡ has_name (section_names table.sections) name
section_told table name moved after refusal is are refused memory =
    told table name (has_name (section_names table.sections) name) refusal
    (sym (twice_is table name) ∙ (ap (λ s. delta table (statement.SectionAfter s name)) (sym is) ∙ (ap (λ s. delta table (statement.SectionAfter moved s)) (sym are)
    ∙ refused (unstarved table moved after refusal memory))))

pub section_there : (table : Collation) (name moved after : List ℕ) → moved ≡ name → after ≡ name → IsOk (delta table (statement.SectionAfter moved after))
    → true ≡ has_name (section_names table.sections) name
section_there table name moved after is are ok =
    never table name (has_name (section_names table.sections) name)
    (subst (λ answered. IsOk answered) (ap (λ s. delta table (statement.SectionAfter s after)) is ∙ (ap (λ s. delta table (statement.SectionAfter name s)) are ∙ twice_is table name)) ok)
