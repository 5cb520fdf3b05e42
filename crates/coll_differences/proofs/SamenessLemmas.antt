-- The tests of sameness tell when two things are equal.
use Rattle.std.proofs.Common.{◌≡◌, ℕ, Bool, true, false, ◌&&◌, List, [], ◌∷◌, Decides, ap, ap₂, ◌∙◌, refl}
use Rattle.std.specs.Bool.{beq}
use Rattle.std.specs.Cmp.{booleans_Decides}
use Rattle.std.proofs.lemmas.Bool.{false≢true}
use Rattle.std.proofs.lemmas.Bool.Decides.{Decides-and, Decides-like}
use Rattle.coll_syntax.specs.Identifier.{same_name, same_id}
use Rattle.coll_syntax.specs.declared.identifiers.Id.{Id}
use Rattle.coll_syntax.specs.declared.rules.Rule.{Rule}
use Rattle.coll_syntax.specs.declared.weights.Weight.{Weight}
use Rattle.coll_syntax.specs.declared.weights.Weight.TheVariants.{Ignore, Own, Names}
use Rattle.coll_lookups.proofs.Sameness.{same_name_decides, same_id_decides}
use Rattle.coll_nodes.specs.Walks.{Visited, VisitedSection, VisitedEntry}
use Rattle.coll_nodes.specs.declared.declarations.Declaration.{Declaration}
use Rattle.coll_nodes.specs.declared.declarations.Declaration.TheVariants.{Symbol, Element, Equivalence}
use Rattle.coll_nodes.specs.declared.entries.Entry.{Entry}
use Rattle.coll_differences.specs.Sameness.{same_list, same_rule, same_weight, same_weights, same_entry, same_visited, same_declaration}

-- two tests that are true together
pub both : (a b : Bool) → (a && b) ≡ true → (a ≡ true) × (b ≡ true)
both true b e = (refl, e)
both false b e = absurd (false≢true e)

pub and : (a b : Bool) → a ≡ true → b ≡ true → (a && b) ≡ true
and true b p q = q
and false b p q = absurd (false≢true p)

-- a test of two lists tells when they are equal, where one of their members does
pub same_list_decides : {X : Type 0} (same : X → X → Bool) → ((a b : X) → Decides (same a b) (a ≡ b)) → (xs ys : List X) → Decides (same_list same xs ys) (xs ≡ ys)
same_list_decides same decides [] [] = (λ _. refl, λ _. refl)
same_list_decides same decides [] (y ∷ ys) = (λ e. absurd (false≢true e), λ e. cc)
same_list_decides same decides (x ∷ xs) [] = (λ e. absurd (false≢true e), λ e. cc)
same_list_decides same decides (x ∷ xs) (y ∷ ys) =
    let later = same_list_decides same decides xs ys in
    let heads : x ∷ xs ≡ y ∷ ys → x ≡ y = λ e. cc in
    let tails : x ∷ xs ≡ y ∷ ys → xs ≡ ys = λ e. cc in (
      λ e. ap₂ (λ u us. u ∷ us) ((decides x y).0 (both (same x y) (same_list same xs ys) e).0) (later.0 (both (same x y) (same_list same xs ys) e).1),
      λ e. and (same x y) (same_list same xs ys) ((decides x y).1 (heads e)) (later.1 (tails e)),
    )

-- two rules are the same where both parts are
rule_of_parts : (a b : Rule) → (a.backward ≡ b.backward) × (a.position ≡ b.position) → a ≡ b
rule_of_parts a b h = λ i. record { backward = h.0 i; position = h.1 i }

pub same_rule_decides : (a b : Rule) → Decides (same_rule a b) (a ≡ b)
same_rule_decides a b =
    Decides-like (beq a.backward b.backward && beq a.position b.position) (rule_of_parts a b) (λ h. (ap (λ (r : Rule). r.backward) h, ap (λ (r : Rule). r.position) h))
    (Decides-and (beq a.backward b.backward) (beq a.position b.position) (booleans_Decides a.backward b.backward) (booleans_Decides a.position b.position))

pub same_weight_decides : (a b : Weight) → Decides (same_weight a b) (a ≡ b)
same_weight_decides Ignore Ignore = (λ _. refl, λ _. refl)
same_weight_decides Ignore Own = (λ e. absurd (false≢true e), λ e. cc)
same_weight_decides Ignore (Names ids) = (λ e. absurd (false≢true e), λ e. cc)
same_weight_decides Own Ignore = (λ e. absurd (false≢true e), λ e. cc)
same_weight_decides Own Own = (λ _. refl, λ _. refl)
same_weight_decides Own (Names ids) = (λ e. absurd (false≢true e), λ e. cc)
same_weight_decides (Names ids) Ignore = (λ e. absurd (false≢true e), λ e. cc)
same_weight_decides (Names ids) Own = (λ e. absurd (false≢true e), λ e. cc)
same_weight_decides (Names ids) (Names others) =
    let decides = same_list_decides same_id same_id_decides ids others in
    let inside : Names ids ≡ Names others → ids ≡ others = λ e. cc in
    (λ e. ap Names (decides.0 e), λ e. decides.1 (inside e))

pub same_entry_decides : (a b : Entry) → Decides (same_entry a b) (a ≡ b)
same_entry_decides a b =
    let weights = same_list_decides same_weight same_weight_decides a.weights b.weights in
    let parts : (e : same_entry a b ≡ true) → a ≡ b = λ e.
    let facts = both (same_id a.id b.id) (same_weights a.weights b.weights) e in
    let made : Id → List Weight → Entry = λ id ws. record { id = id; weights = ws } in
    ap₂ made ((same_id_decides a.id b.id).0 facts.0) (weights.0 facts.1) in (
      parts,
      λ e. and (same_id a.id b.id) (same_weights a.weights b.weights) ((same_id_decides a.id b.id).1 (ap (λ (x : Entry). x.id) e)) (weights.1 (ap (λ (x : Entry). x.weights) e)),
    )

pub same_visited_decides : (a b : Visited) → Decides (same_visited a b) (a ≡ b)
same_visited_decides (VisitedSection a) (VisitedSection b) =
    let inside : VisitedSection a ≡ VisitedSection b → a ≡ b = λ e. cc in
    (λ e. ap VisitedSection ((same_name_decides a b).0 e), λ e. (same_name_decides a b).1 (inside e))
same_visited_decides (VisitedSection a) (VisitedEntry b) = (λ e. absurd (false≢true e), λ e. cc)
same_visited_decides (VisitedEntry a) (VisitedSection b) = (λ e. absurd (false≢true e), λ e. cc)
same_visited_decides (VisitedEntry a) (VisitedEntry b) =
    let inside : VisitedEntry a ≡ VisitedEntry b → a ≡ b = λ e. cc in
    (λ e. ap VisitedEntry ((same_entry_decides a b).0 e), λ e. (same_entry_decides a b).1 (inside e))

-- two pairs of names are the same
pairs : (a b c d : List ℕ) → Decides (same_name a c && same_name b d) ((a ≡ c) × (b ≡ d))
pairs a b c d = (
  λ e. ((same_name_decides a c).0 (both (same_name a c) (same_name b d) e).0, (same_name_decides b d).0 (both (same_name a c) (same_name b d) e).1),
  λ e. and (same_name a c) (same_name b d) ((same_name_decides a c).1 e.0) ((same_name_decides b d).1 e.1),
)

pub same_declaration_decides : (a b : Declaration) → Decides (same_declaration a b) (a ≡ b)
same_declaration_decides (Symbol a) (Symbol b) =
    let inside : Symbol a ≡ Symbol b → a ≡ b = λ e. cc in
    (λ e. ap Symbol ((same_name_decides a b).0 e), λ e. (same_name_decides a b).1 (inside e))
same_declaration_decides (Symbol a) (Element b c) = (λ e. absurd (false≢true e), λ e. cc)
same_declaration_decides (Symbol a) (Equivalence b c) = (λ e. absurd (false≢true e), λ e. cc)
same_declaration_decides (Element a b) (Symbol c) = (λ e. absurd (false≢true e), λ e. cc)
same_declaration_decides (Element a b) (Element c d) =
    let first : Element a b ≡ Element c d → a ≡ c = λ e. cc in
    let second : Element a b ≡ Element c d → b ≡ d = λ e. cc in
    (λ e. ap₂ Element ((pairs a b c d).0 e).0 ((pairs a b c d).0 e).1, λ e. (pairs a b c d).1 (first e, second e))
same_declaration_decides (Element a b) (Equivalence c d) = (λ e. absurd (false≢true e), λ e. cc)
same_declaration_decides (Equivalence a b) (Symbol c) = (λ e. absurd (false≢true e), λ e. cc)
same_declaration_decides (Equivalence a b) (Element c d) = (λ e. absurd (false≢true e), λ e. cc)
same_declaration_decides (Equivalence a b) (Equivalence c d) =
    let first : Equivalence a b ≡ Equivalence c d → a ≡ c = λ e. cc in
    let second : Equivalence a b ≡ Equivalence c d → b ≡ d = λ e. cc in
    (λ e. ap₂ Equivalence ((pairs a b c d).0 e).0 ((pairs a b c d).0 e).1, λ e. (pairs a b c d).1 (first e, second e))

-- A step along two lists at once.
module _ {X : Type 0} (same : X → X → Bool) where
  -- both go on, and their next members are the same
  pub same_onward : (left later others after : List X) (x y : X) → left ≡ x ∷ later → others ≡ y ∷ after → same x y ≡ true → same_list same left others ≡ same_list same later after
  same_onward left later others after x y p q is = ap₂ (same_list same) p q ∙ ap (λ b. b && same_list same later after) is

  -- they differ at their next members
  pub same_differs : (left later others after : List X) (x y : X) → left ≡ x ∷ later → others ≡ y ∷ after → same x y ≡ false → same_list same left others ≡ false
  same_differs left later others after x y p q is = ap₂ (same_list same) p q ∙ ap (λ b. b && same_list same later after) is

  -- the second ends before the first
  pub same_shorter : (left later others : List X) (x : X) → left ≡ x ∷ later → others ≡ [] → same_list same left others ≡ false
  same_shorter left later others x p q = ap₂ (same_list same) p q

  -- the first has ended
  pub same_ended : (left others : List X) → left ≡ [] → same_list same left others ≡ same_list same [] others
  same_ended left others p = ap (λ xs. same_list same xs others) p
