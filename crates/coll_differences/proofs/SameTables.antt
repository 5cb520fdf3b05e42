-- Two tables are the same where their rules, what they declare and what a walk visits of them are.
use Rattle.std.proofs.Common.{◌≡◌, ◌↔◌, IsTrue, Bool, true, false, List, sym, ap, ◌∙◌}
use Rattle.std.proofs.lemmas.Bool.{false≢true}
use Rattle.coll_syntax.specs.declared.rules.Rule.{Rule}
use Rattle.coll_nodes.specs.Table.{Collation, Section}
use Rattle.coll_nodes.specs.WellFormed.{FirstIsUnnamed}
use Rattle.coll_nodes.specs.Walks.{visited}
use Rattle.coll_nodes.specs.declared.declarations.Declaration.{Declaration}
use Rattle.coll_differences.specs.Sameness.{same_list, same_visited, same_declaration}
use Rattle.coll_differences.proofs.SamenessLemmas.{same_list_decides, same_visited_decides, same_declaration_decides}
use Rattle.coll_differences.proofs.VisitedSections.{sections_by_visits}

-- a table of these parts
table_of : List Rule → List Declaration → List Section → Collation
table_of rules declared sections = record { rules = rules; declared = declared; sections = sections }

module _ (first second : Collation) where
  -- tables of other rules are others
  pub other_rules : (same : Bool) → (IsTrue same ↔ (first.rules ≡ second.rules)) → same ≡ false → (IsTrue false ↔ (first ≡ second))
  other_rules same says is = (λ h. absurd (false≢true h), λ e. sym is ∙ says.1 (ap (λ (t : Collation). t.rules) e))

  -- so are tables that declare something else
  pub other_declared : (same : Bool) → same ≡ same_list same_declaration first.declared second.declared → same ≡ false → (IsTrue false ↔ (first ≡ second))
  other_declared same says is = (
    λ h. absurd (false≢true h),
    λ e. sym is ∙ (says ∙ (same_list_decides same_declaration same_declaration_decides first.declared second.declared).1 (ap (λ (t : Collation). t.declared) e)),
  )

  -- tables of the same rules that declare the same are the same where the same is visited
  pub same_walked : (rules declared same : Bool) → (IsTrue rules ↔ (first.rules ≡ second.rules)) → rules ≡ true → declared ≡ same_list same_declaration first.declared second.declared → declared ≡ true
      → FirstIsUnnamed first.sections → FirstIsUnnamed second.sections → same ≡ same_list same_visited (visited first.sections) (visited second.sections) → (IsTrue same ↔ (first ≡ second))
  unfolding table_of
  same_walked rules declared same ruled are_ruled declares are_declared p q says =
      let walked = same_list_decides same_visited same_visited_decides (visited first.sections) (visited second.sections) in
      let rules_same : first.rules ≡ second.rules = ruled.0 are_ruled in
      let declared_same : first.declared ≡ second.declared = (same_list_decides same_declaration same_declaration_decides first.declared second.declared).0 (sym declares ∙ are_declared) in (
        λ h.
            ap (λ rs. table_of rs first.declared first.sections) rules_same
            ∙ (ap (λ ds. table_of second.rules ds first.sections) declared_same
            ∙ ap (λ ss. table_of second.rules second.declared ss) (sections_by_visits first.sections second.sections p q (walked.0 (sym says ∙ h)))),
        λ e. says ∙ walked.1 (ap (λ (t : Collation). visited t.sections) e),
      )
