-- When two lists of rules are the same.
use Rattle.std.proofs.Common.{◌≡◌, Bool, true, false, not, List, [], ◌∷◌, Some, Decides, ◌↔◌, refl, ap, ap₂}
use Rattle.std.specs.Prelude.{IsTrue}
use Rattle.std.proofs.lemmas.Bool.{false≢true}
use Rattle.std.proofs.lemmas.Bool.Decides.{same_from_decides, Decides-like, Decides-and}
use Rattle.coll_syntax.specs.declared.rules.Rule.{Rule}
use Rattle.coll_texts.specs.BuilderStates.{same_flag, same_rule, same_rules, rules_differ}

-- two flags are the same where they are equal
same_flag_decides : (a b : Bool) → Decides (same_flag a b) (a ≡ b)
same_flag_decides true true = (λ _. refl, λ _. refl)
same_flag_decides true false = (λ e. absurd (false≢true e), λ e. cc)
same_flag_decides false true = (λ e. absurd (false≢true e), λ e. cc)
same_flag_decides false false = (λ _. refl, λ _. refl)

-- the rule of two flags
rule_of : Bool → Bool → Rule
rule_of backward position = record { backward = backward; position = position }

-- two rules are the same where they are equal
same_rule_decides : (a b : Rule) → Decides (same_rule a b) (a ≡ b)
unfolding rule_of
same_rule_decides a b =
    Decides-like (same_rule a b) (λ e. ap₂ rule_of e.0 e.1) (λ e. (ap (λ (r : Rule). r.backward) e, ap (λ (r : Rule). r.position) e))
    (Decides-and (same_flag a.backward b.backward) (same_flag a.position b.position) (same_flag_decides a.backward b.backward) (same_flag_decides a.position b.position))

-- two lists of rules are the same where they are equal
same_rules_decides : (a b : List Rule) → Decides (same_rules a b) (a ≡ b)
same_rules_decides [] [] = (λ _. refl, λ _. refl)
same_rules_decides [] (b ∷ others) = (λ e. absurd (false≢true e), λ e. cc)
same_rules_decides (a ∷ later) [] = (λ e. absurd (false≢true e), λ e. cc)
same_rules_decides (a ∷ later) (b ∷ others) =
    Decides-like (same_rules (a ∷ later) (b ∷ others)) (λ e. ap₂ (λ (r : Rule) (rs : List Rule). r ∷ rs) e.0 e.1) (λ e. (cc, cc))
    (Decides-and (same_rule a b) (same_rules later others) (same_rule_decides a b) (same_rules_decides later others))

-- rules that are given differ from those of the table where they aren't equal
pub differ_unless_same : (same : Bool) (rules given : List Rule) → IsTrue same ↔ (rules ≡ given) → not same ≡ rules_differ (Some rules) (Some given)
differ_unless_same same rules given tells = ap not (same_from_decides same (same_rules rules given) tells (same_rules_decides rules given))
