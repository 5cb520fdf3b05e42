-- When names and identifiers are the same, and what holds of one that is found in a list.
use Rattle.std.proofs.Common.{◌≡◌, ℕ, Bool, true, false, ◌||◌, List, [], ◌∷◌, All, Decides, sym, ap, subst, refl}
use Rattle.std.specs.List.{list_any}
use Rattle.std.proofs.lemmas.List.Elements.{All-head, All-tail}
use Rattle.std.proofs.lemmas.Slice.Eq.{bytes_eq-Decides}
use Rattle.std.proofs.lemmas.Bool.{false≢true}
use Rattle.std.proofs.lemmas.Bool.Decides.{same_from_decides, Decides-like, Decides-eqb}
use Rattle.coll_order.proofs.Sameness.{by_test}
use Rattle.coll_syntax.specs.Identifier.{same_name, same_id}
use Rattle.coll_syntax.specs.declared.identifiers.Id.{Id}
use Rattle.coll_syntax.specs.declared.identifiers.Id.TheVariants.{Char, Named, Undefined}

-- two names are the same where they are equal
pub same_name_decides : (a b : List ℕ) → Decides (same_name a b) (a ≡ b)
same_name_decides a b = bytes_eq-Decides a b

-- two identifiers are the same where they are equal
pub same_id_decides : (a b : Id) → Decides (same_id a b) (a ≡ b)
same_id_decides (Char a) (Char b) = Decides-like (same_id (Char a) (Char b)) (λ e. ap Char e) (λ e. cc) (Decides-eqb a b)
same_id_decides (Char a) (Named b) = (λ e. absurd (false≢true e), λ e. cc)
same_id_decides (Char a) Undefined = (λ e. absurd (false≢true e), λ e. cc)
same_id_decides (Named a) (Char b) = (λ e. absurd (false≢true e), λ e. cc)
same_id_decides (Named a) (Named b) = Decides-like (same_id (Named a) (Named b)) (λ e. ap Named e) (λ e. cc) (same_name_decides a b)
same_id_decides (Named a) Undefined = (λ e. absurd (false≢true e), λ e. cc)
same_id_decides Undefined (Char b) = (λ e. absurd (false≢true e), λ e. cc)
same_id_decides Undefined (Named b) = (λ e. absurd (false≢true e), λ e. cc)
same_id_decides Undefined Undefined = (λ _. refl, λ _. refl)

-- a test that tells when two are equal doesn't depend on their order
pub decided_symmetric : {X : Type 0} (same : X → X → Bool) → ((a b : X) → Decides (same a b) (a ≡ b)) → (a b : X) → same a b ≡ same b a
decided_symmetric same decides a b = same_from_decides _ _ (decides a b) (Decides-like (same b a) sym sym (decides b a))

-- which of two names comes first doesn't matter
pub same_name_symmetric : (a b : List ℕ) → same_name a b ≡ same_name b a
same_name_symmetric = decided_symmetric same_name same_name_decides

-- which of two identifiers comes first doesn't matter
pub same_id_symmetric : (a b : Id) → same_id a b ≡ same_id b a
same_id_symmetric = decided_symmetric same_id same_id_decides

-- an identifier is the same as itself
pub same_id_itself : (a : Id) → same_id a a ≡ true
same_id_itself a = (same_id_decides a a).1 refl

-- neither of two tests that are false together is true
pub neither : (a b : Bool) → (a || b) ≡ false → (a ≡ false) × (b ≡ false)
neither true b e = absurd (false≢true (sym e))
neither false b e = (refl, e)

-- two tests that are false are false together
pub nor : (a b : Bool) → a ≡ false → b ≡ false → (a || b) ≡ false
nor a b p q = cc

-- what holds of each of a list holds of one that is found there
pub found_holds : {X : Type 0} (same : X → X → Bool) → ((a b : X) → Decides (same a b) (a ≡ b)) → (P : X → Type 0) (xs : List X) (x : X) → All P xs → list_any (same x) xs ≡ true → P x
found_holds same decides P [] x h there = absurd (false≢true there)
found_holds same decides P (first ∷ xs) x h there = by_test (λ b. (b || list_any (same x) xs) ≡ true → P x) (same x first)
    (λ on _. subst P (sym ((decides x first).0 on)) (All-head P first xs h))
    (λ off there. found_holds same decides P xs x (All-tail P first xs h) there) there
