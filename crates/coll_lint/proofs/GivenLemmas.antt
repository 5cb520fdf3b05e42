-- What is told behind the first fault is what judging lines gives.
use Rattle.std.proofs.Common.{◌≡◌, inl, inr, suc, List, [], ◌∷◌, ◌++◌, Result, Ok, Err, All, drop, map, take, refl, sym, ap, ◌∙◌, subst}
use Rattle.std.specs.Prelude.{IfOk, MatchResult}
use Rattle.std.proofs.lemmas.List.Elements.{All-append, All-cons, All-drop, All-head, All-map, All-nil, All-tail, All-take, All-weaker}
use Rattle.std.proofs.lemmas.List.Sorted.{All-permutation}
use Rattle.coll_faults.specs.declared.faults.RunFault.{RunFault}
use Rattle.coll_findings.specs.ToldFaults.{AreAmong, LineFault, told_fault}
use Rattle.coll_findings.specs.declared.collecting.Surveyed.{Surveyed}
use Rattle.coll_findings.specs.declared.findings.FoundFault.{FoundFault}
use Rattle.coll_lint.specs.Lints.{AreGiven, AreOthers, IsOneOf, IsPutFirst}
use Rattle.coll_lint.specs.Orders.{AreRearranged, bare_fault}
use Rattle.coll_lint.specs.declared.lints.Lint.{Lint}

-- one of these is one of them and another
one_more : (f one : LineFault) (given : List LineFault) → IsOneOf f given → IsOneOf f (one ∷ given)
one_more f one given (before, later, is) = (one ∷ before, later, ap (λ (l : List LineFault). one ∷ l) is)

-- one of those that are told is one of those that these are among
one_among : (f : LineFault) (told given : List LineFault) → AreAmong told given → IsOneOf f told → IsOneOf f given
one_among f [] given among ([], later, is) = absurd cc
one_among f [] given among (one ∷ before, later, is) = absurd cc
one_among f (first ∷ told) [] among found = absurd among
one_among f (first ∷ told) (one ∷ given) (inl (same, rest)) ([], later, is) =
    let first_is : first ≡ f = cc in
    ([], given, ap (λ (l : LineFault). l ∷ given) (sym same ∙ first_is))
one_among f (first ∷ told) (one ∷ given) (inl (same, rest)) (other ∷ before, later, is) =
    let behind : told ≡ before ++ f ∷ later = cc in
    one_more f one given (one_among f told given rest (before, later, behind))
one_among f (first ∷ told) (one ∷ given) (inr rest) found = one_more f one given (one_among f (first ∷ told) given rest found)

-- so what is told behind the first one is given
pub given_among : (told given : List LineFault) (faults : List FoundFault) → AreAmong told given → AreGiven told faults → AreGiven given faults
given_among told given [] among are = tt
given_among told given (first ∷ later) among are =
    All-weaker (λ (found : FoundFault). IsOneOf (told_fault found) told) (λ (found : FoundFault). IsOneOf (told_fault found) given)
    (λ found one. one_among (told_fault found) told given among one) later are

-- each is one of all
each_is_one : (faults : List FoundFault) → All (λ found. IsOneOf (told_fault found) (map told_fault faults)) faults
each_is_one [] = All-nil (λ found. IsOneOf (told_fault found) [])
each_is_one (first ∷ later) =
    let P : FoundFault → Type 0 = λ found. IsOneOf (told_fault found) (map told_fault (first ∷ later)) in
    All-cons P first later ([], map told_fault later, refl)
    (All-weaker (λ (found : FoundFault). IsOneOf (told_fault found) (map told_fault later)) P
    (λ found one. one_more (told_fault found) (told_fault first) (map told_fault later) one) later (each_is_one later))

unmapped : (P : FoundFault → Type 0) (f : FoundFault → FoundFault) (xs : List FoundFault) → All P (map f xs) → All (λ x. P (f x)) xs
unmapped P f [] all = All-nil (λ x. P (f x))
unmapped P f (x ∷ xs) all = All-cons (λ x. P (f x)) x xs (All-head P (f x) (map f xs) all) (unmapped P f xs (All-tail P (f x) (map f xs) all))

-- also in another order, and with names that are near
rearranged : (faults others : List FoundFault) → AreRearranged faults others → All (λ found. IsOneOf (told_fault found) (map told_fault faults)) others
rearranged faults others same =
    let P : FoundFault → Type 0 = λ found. IsOneOf (told_fault found) (map told_fault faults) in
    unmapped P bare_fault others (All-permutation P (map bare_fault faults) (map bare_fault others) same (All-map P bare_fault faults (each_is_one faults)))

-- and with another one before them, and one left out
put_first : (first : RunFault) (given : List LineFault) (old new : List FoundFault) → IsPutFirst first old new → All (λ found. IsOneOf (told_fault found) given) old → AreGiven given new
put_first first given old new (told, later, is, fault, others) all = subst (AreGiven given) (sym is) (behind others)
  where
    P : FoundFault → Type 0
    P found = IsOneOf (told_fault found) given

    behind : AreOthers old later → All P later
    behind (inl same) = subst (All P) (sym same) all
    behind (inr (place, within, removed)) =
        subst (All P) (sym removed) (All-append P (take place old) (drop (suc place) old) (All-take P place old all) (All-drop P (suc place) old all))

pub given_first : (first : RunFault) (faults others new : List FoundFault) → AreRearranged faults others → IsPutFirst first others new → AreGiven (map told_fault faults) new
given_first first faults others new same put = put_first first (map told_fault faults) others new put (rearranged faults others same)

-- what a survey tells of texts, by what judging their lines gives
pub given_surveyed : {E F : Type 0} (given : List LineFault) (surveyed : Result Surveyed E) (r : Result Lint F)
    → IfOk surveyed (λ s. AreAmong (map told_fault s.told.faults.items) given)
    → IfOk r (λ lint. MatchResult surveyed (λ s. AreGiven (map told_fault s.told.faults.items) lint.faults) (λ _. ⊥)) → IfOk r (λ lint. AreGiven given lint.faults)
given_surveyed given (Ok s) (Ok lint) among are = given_among (map told_fault s.told.faults.items) given lint.faults among are
given_surveyed given (Err e) (Ok lint) among are = absurd are
given_surveyed given (Ok s) (Err f) among are = tt
given_surveyed given (Err e) (Err f) among are = tt
