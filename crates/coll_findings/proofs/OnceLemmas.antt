-- When faults are told once.
use Rattle.std.proofs.Common.{◌≡◌, ℕ, Bool, true, false, ◌==◌, ◌&&◌, ◌||◌, if◌then◌else◌, List, [], ◌∷◌, ◌++◌, reverse, refl, sym, ◌∙◌, subst}
use Rattle.std.specs.List.{AllByRecursion, IsDistinct, list_any}
use Rattle.std.proofs.lemmas.List.Sorted.{IsPermutation-reverse, IsPermutation-sym, IsPermutation-to_front, list_any-IsPermutation}
use Rattle.std.proofs.lemmas.Map.Keys.{IsDistinct-cons, IsDistinct-IsPermutation}
use Rattle.std.proofs.lemmas.Bool.{false≢true}
use Rattle.std.proofs.lemmas.Bool.Decides.{same_from_decides, Decides-like, Decides-eqb}
use Rattle.coll_lookups.proofs.Sameness.{same_id_symmetric}
use Rattle.coll_findings.specs.ToldFaults.{AreOnce, are_same, is_of_id, is_told_by_id, number_told, same_subject}
use Rattle.coll_findings.specs.declared.findings.About.{About}
use Rattle.coll_findings.specs.declared.findings.About.TheVariants as about
use Rattle.coll_findings.specs.declared.findings.FoundFault.{FoundFault}

-- Two faults that are one.

pub eqb_symmetric : (a b : ℕ) → (a == b) ≡ (b == a)
eqb_symmetric a b = same_from_decides _ _ (Decides-eqb a b) (Decides-like (b == a) sym sym (Decides-eqb b a))

same_subject_symmetric : (a b : About) → same_subject a b ≡ same_subject b a
same_subject_symmetric about.Nothing about.Nothing = refl
same_subject_symmetric about.Nothing (about.Id other near) = refl
same_subject_symmetric about.Nothing (about.Word other) = refl
same_subject_symmetric (about.Id id near) about.Nothing = refl
same_subject_symmetric (about.Id id near) (about.Id other close) = same_id_symmetric id other
same_subject_symmetric (about.Id id near) (about.Word other) = refl
same_subject_symmetric (about.Word word) about.Nothing = refl
same_subject_symmetric (about.Word word) (about.Id other near) = refl
same_subject_symmetric (about.Word word) (about.Word other) = refl

-- what is about the same is about an identifier together
of_id_alike : (a b : About) → same_subject a b ≡ true → is_of_id a ≡ is_of_id b
of_id_alike about.Nothing about.Nothing same = refl
of_id_alike about.Nothing (about.Id other near) same = absurd (false≢true same)
of_id_alike about.Nothing (about.Word other) same = refl
of_id_alike (about.Id id near) about.Nothing same = absurd (false≢true same)
of_id_alike (about.Id id near) (about.Id other close) same = refl
of_id_alike (about.Id id near) (about.Word other) same = absurd (false≢true same)
of_id_alike (about.Word word) about.Nothing same = refl
of_id_alike (about.Word word) (about.Id other near) same = absurd (false≢true same)
of_id_alike (about.Word word) (about.Word other) same = refl

-- tests before others matter only where these pass
and_alike : (a b c d : Bool) → c ≡ d → (c ≡ true → a ≡ b) → (a && c) ≡ (b && d)
and_alike a b true d same alike = let one : a ≡ b = alike refl in cc
and_alike true true false d same alike = same
and_alike true false false d same alike = refl
and_alike false true false d same alike = same
and_alike false false false d same alike = refl

-- both of two tests pass that pass together
pub both_pass : (a b : Bool) → (a && b) ≡ true → (a ≡ true) × (b ≡ true)
both_pass true b pass = (refl, pass)
both_pass false b pass = absurd (false≢true pass)

-- which of two faults comes first doesn't matter
pub are_same_symmetric : (found other : FoundFault) → are_same found other ≡ are_same other found
are_same_symmetric found other =
    and_alike ((found.line == other.line) || is_told_by_id found) ((other.line == found.line) || is_told_by_id other)
    ((found.fault.input == other.fault.input) && ((number_told found == number_told other) && same_subject found.about other.about))
    ((other.fault.input == found.fault.input) && ((number_told other == number_told found) && same_subject other.about found.about))
    (joined _ _ _ _ _ _ (eqb_symmetric found.fault.input other.fault.input) (eqb_symmetric (number_told found) (number_told other)) (same_subject_symmetric found.about other.about))
    (λ rest.
    let inner = both_pass (found.fault.input == other.fault.input) ((number_told found == number_told other) && same_subject found.about other.about) rest in
    let last = both_pass (number_told found == number_told other) (same_subject found.about other.about) inner.1 in
    joined_or _ _ _ _ (eqb_symmetric found.line other.line)
    (told_alike found other (of_id_alike found.about other.about last.1) ((Decides-eqb (number_told found) (number_told other)).0 last.0)))
  where
    joined : (a b c d e f : Bool) → a ≡ b → c ≡ d → e ≡ f → (a && (c && e)) ≡ (b && (d && f))
    joined a b c d e f p q r = cc

    joined_or : (a b c d : Bool) → a ≡ b → c ≡ d → (a || c) ≡ (b || d)
    joined_or a b c d p q = cc

    told_alike : (found other : FoundFault) → is_of_id found.about ≡ is_of_id other.about → number_told found ≡ number_told other → is_told_by_id found ≡ is_told_by_id other
    told_alike found other of same = cc

-- Lists.

-- a test that none passes fails of each
each_fails : {T : Type 0} (test : T → Bool) (xs : List T) → list_any test xs ≡ false → AllByRecursion (λ x. test x ≡ false) xs
each_fails test [] none = tt
each_fails test (x ∷ xs) none = by (test x) (list_any test xs) none (λ later. each_fails test xs later) where
  by : {P : Type 0} (first later : Bool) → (first || later) ≡ false → (later ≡ false → P) → (first ≡ false) × P
  by true later e more = absurd (false≢true (sym e))
  by false later e more = (refl, more e)

-- one more that wasn't told
pub once_more : (told : List FoundFault) (found : FoundFault) → AreOnce told → list_any (are_same found) told ≡ false → AreOnce (told ++ found ∷ [])
once_more told found once none =
    IsDistinct-IsPermutation are_same are_same_symmetric (found ∷ told) (told ++ found ∷ []) (IsPermutation-sym _ _ (IsPermutation-to_front told found))
    (IsDistinct-cons are_same found told (each_fails (are_same found) told none) once)

-- none was told
pub once_none : AreOnce []
unfolding IsDistinct
once_none = tt

-- the same of a list that grows, or that memory is refused to, where all were looked at from the last one on
pub once_grown : (told new : List FoundFault) (found : FoundFault) (grows : Bool) → new ≡ (if grows then told ++ found ∷ [] else told) → AreOnce told
    → list_any (are_same found) (reverse told) ≡ false → AreOnce new
once_grown told new found true is once none =
    subst (λ (l : List FoundFault). AreOnce l) (sym is) (once_more told found once (list_any-IsPermutation (are_same found) told (reverse told) (IsPermutation-reverse told) ∙ none))
once_grown told new found false is once none = subst (λ (l : List FoundFault). AreOnce l) (sym is) once
