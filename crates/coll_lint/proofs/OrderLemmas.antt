-- Faults that are rearranged, and the one that a batch answers, put first.
use Rattle.std.proofs.Common.{◌≡◌, ◌<◌, ℕ, Bool, true, false, ◌==◌, ◌&&◌, ◌||◌, List, [], ◌∷◌, All, ◌++◌, length, get_or, take, drop, map, Result, Ok, Err, refl, sym, ap, ◌∙◌, subst}
use Rattle.std.specs.List.{AllByRecursion, remove}
use Rattle.std.specs.List.Sorted.{IsPermutation}
use Rattle.std.specs.Prelude.{OnOk}
use Rattle.std.proofs.lemmas.List.{take_at}
use Rattle.std.proofs.lemmas.List.Elements.{All-head, All-tail}
use Rattle.std.proofs.lemmas.List.Sorted.{IsPermutation-map, IsPermutation-remove}
use Rattle.std.proofs.lemmas.Map.Keys.{IsDistinct-cons, IsDistinct-head, IsDistinct-tail, IsDistinct-IsPermutation}
use Rattle.std.proofs.lemmas.Bool.{eqb-true, false≢true}
use Rattle.coll_faults.specs.Faults.{fault_number}
use Rattle.coll_faults.specs.declared.faults.RunFault.{RunFault}
use Rattle.coll_findings.specs.ToldFaults.{AreOnce, are_same, is_of_id, is_told_by_id, number_told, same_subject}
use Rattle.coll_lint.specs.Lints.{is_answered}
use Rattle.coll_lint.specs.Orders.{AreRearranged, bare_fault, bare_subject}
use Rattle.coll_findings.specs.declared.findings.About.{About}
use Rattle.coll_findings.specs.declared.findings.About.TheVariants as about
use Rattle.coll_findings.specs.declared.findings.FoundFault.{FoundFault}
use Rattle.coll_findings.proofs.OnceLemmas.{are_same_symmetric, both_pass, eqb_symmetric}

-- Names that are near.

bare_alike : (a b : About) → same_subject (bare_subject a) (bare_subject b) ≡ same_subject a b
bare_alike about.Nothing about.Nothing = refl
bare_alike about.Nothing (about.Id other near) = refl
bare_alike about.Nothing (about.Word other) = refl
bare_alike (about.Id id near) about.Nothing = refl
bare_alike (about.Id id near) (about.Id other close) = refl
bare_alike (about.Id id near) (about.Word other) = refl
bare_alike (about.Word word) about.Nothing = refl
bare_alike (about.Word word) (about.Id other near) = refl
bare_alike (about.Word word) (about.Word other) = refl

bare_of_id : (a : About) → is_of_id (bare_subject a) ≡ is_of_id a
bare_of_id about.Nothing = refl
bare_of_id (about.Id id near) = refl
bare_of_id (about.Word word) = refl

-- faults are one whatever names are near
bare_same : (found other : FoundFault) → are_same (bare_fault found) (bare_fault other) ≡ are_same found other
bare_same found other = rw (bare_alike found.about other.about, bare_of_id found.about) refl

bare_apart : (found : FoundFault) (others : List FoundFault) → AllByRecursion (λ other. are_same found other ≡ false) others
    → AllByRecursion (λ other. are_same (bare_fault found) other ≡ false) (map bare_fault others)
bare_apart found [] apart = tt
bare_apart found (other ∷ others) (first, later) = (bare_same found other ∙ first, bare_apart found others later)

apart_again : (found : FoundFault) (others : List FoundFault) → AllByRecursion (λ other. are_same (bare_fault found) other ≡ false) (map bare_fault others)
    → AllByRecursion (λ other. are_same found other ≡ false) others
apart_again found [] apart = tt
apart_again found (other ∷ others) (first, later) = (sym (bare_same found other) ∙ first, apart_again found others later)

bare_once : (faults : List FoundFault) → AreOnce faults → AreOnce (map bare_fault faults)
bare_once [] once = once
bare_once (found ∷ faults) once =
    IsDistinct-cons are_same (bare_fault found) (map bare_fault faults) (bare_apart found faults (IsDistinct-head are_same found faults once)) (bare_once faults (IsDistinct-tail are_same found faults once))

once_again : (faults : List FoundFault) → AreOnce (map bare_fault faults) → AreOnce faults
once_again [] once = once
once_again (found ∷ faults) once =
    IsDistinct-cons are_same found faults (apart_again found faults (IsDistinct-head are_same (bare_fault found) (map bare_fault faults) once))
    (once_again faults (IsDistinct-tail are_same (bare_fault found) (map bare_fault faults) once))

-- what is rearranged is told once where it was
pub once_rearranged : (faults others : List FoundFault) → AreRearranged faults others → AreOnce faults → AreOnce others
once_rearranged faults others moved once =
    once_again others (IsDistinct-IsPermutation are_same are_same_symmetric (map bare_fault faults) (map bare_fault others) moved (bare_once faults once))

-- what is put in another order, and then gets names that are near
pub then_near : {T E : Type 0} (faults sorted lent named : List FoundFault) (r : Result T E) → IsPermutation faults sorted → lent ≡ sorted
    → OnOk r (map bare_fault named ≡ map bare_fault lent) → OnOk r (AreRearranged faults named)
then_near faults sorted lent named (Ok x) moved all same =
    subst (IsPermutation (map bare_fault faults)) (sym (same ∙ ap (map bare_fault) all)) (IsPermutation-map bare_fault faults sorted moved)
then_near faults sorted lent named (Err e) moved all same = tt

-- a list that is written over another as long
pub written_whole : (new old : List FoundFault) (n : ℕ) → length new ≡ n → take n (new ++ drop (length new) old) ≡ new
written_whole new old n long = take_at new (drop (length new) old) n long

-- The fault that a batch answers.

-- what can't be told from a fault is apart from the same
apart_alike : (told found : FoundFault) → ((other : FoundFault) → are_same told other ≡ are_same found other) → (others : List FoundFault)
    → AllByRecursion (λ other. are_same found other ≡ false) others → AllByRecursion (λ other. are_same told other ≡ false) others
apart_alike told found alike [] apart = tt
apart_alike told found alike (other ∷ others) (first, later) = (alike other ∙ first, apart_alike told found alike others later)

same_told : (told found other : FoundFault) → told.line ≡ found.line → told.about ≡ found.about → told.fault.input ≡ found.fault.input → number_told told ≡ number_told found
    → are_same told other ≡ are_same found other
same_told told found other line subject input number = rw (line, subject, input, number) refl

-- it has the input and the number of one that was found
answers_found : (first : RunFault) (found : FoundFault) → is_answered first found ≡ true → (first.input ≡ found.fault.input) × (fault_number first.fault ≡ number_told found)
answers_found first found answered =
    let outer = both_pass ((found.fault.line == first.line) || (found.line == first.line)) ((found.fault.input == first.input) && (number_told found == fault_number first.fault)) answered in
    let inner = both_pass (found.fault.input == first.input) (number_told found == fault_number first.fault) outer.1 in
    (sym (eqb-true found.fault.input first.input inner.0), sym (eqb-true (number_told found) (fault_number first.fault) inner.1))

-- it is put first in place of one that was found
pub once_as_found : (faults looked new : List FoundFault) (place : ℕ) (found told : FoundFault) (first : RunFault) → looked ≡ faults → place < length looked → found ≡ get_or faults place found
    → is_answered first (get_or looked place found) ≡ true → told.fault ≡ first → told.line ≡ found.line → told.about ≡ found.about → new ≡ told ∷ remove faults place → AreOnce faults → AreOnce new
once_as_found faults looked new place found told first all within is answered fault line subject made once =
    let apart = IsDistinct-IsPermutation are_same are_same_symmetric faults (found ∷ remove faults place)
    (IsPermutation-remove faults place found (subst (λ (l : List FoundFault). place < length l) all within) is) once in
    let same = answers_found first found
    (subst (λ (x : FoundFault). is_answered first x ≡ true) (sym is) (subst (λ (l : List FoundFault). is_answered first (get_or l place found) ≡ true) all answered)) in
    subst AreOnce (sym made)
    (IsDistinct-cons are_same told (remove faults place)
    (apart_alike told found
    (λ other. same_told told found other line subject (ap (λ (f : RunFault). f.input) fault ∙ same.0) (ap (λ (f : RunFault). fault_number f.fault) fault ∙ same.1))
    (remove faults place) (IsDistinct-head are_same found (remove faults place) apart))
    (IsDistinct-tail are_same found (remove faults place) apart))

-- one that isn't answered so is another
other_line : (begins line by_id input number subject : Bool) → by_id ≡ false → ((begins || line) && (input && number)) ≡ false → ((line || by_id) && (input && (number && subject))) ≡ false
other_line begins false by_id input number subject none answered = ap (λ b. b && (input && (number && subject))) none
other_line begins true by_id false number subject none answered = refl
other_line begins true by_id true false subject none answered = refl
other_line true true by_id true true subject none answered = absurd (false≢true (sym answered))
other_line false true by_id true true subject none answered = absurd (false≢true (sym answered))

alone_apart : (first : RunFault) (told other : FoundFault) → told.fault ≡ first → told.line ≡ first.line → told.about ≡ about.Nothing → is_answered first other ≡ false → are_same told other ≡ false
alone_apart first told other fault line subject answered =
    other_line (other.fault.line == first.line) (told.line == other.line) (is_told_by_id told) (told.fault.input == other.fault.input) (number_told told == number_told other)
    (same_subject told.about other.about)
    (ap (λ (a : About). is_of_id a && ((number_told told == 34) || (number_told told == 38))) subject)
    (flipped (other.fault.line == first.line) _ _ _ _ _ _ (eqb_symmetric told.line other.line ∙ ap (λ n. other.line == n) line)
    (eqb_symmetric told.fault.input other.fault.input ∙ ap (λ (f : RunFault). other.fault.input == f.input) fault)
    (eqb_symmetric (number_told told) (number_told other) ∙ ap (λ (f : RunFault). number_told other == fault_number f.fault) fault) answered)
  where
    flipped : (begins a b c d e f : Bool) → a ≡ b → c ≡ d → e ≡ f → ((begins || b) && (d && f)) ≡ false → ((begins || a) && (c && e)) ≡ false
    flipped begins a b c d e f p q r none = cc

-- it is put first beside those that were found
pub once_alone : (faults looked new : List FoundFault) (told : FoundFault) (first : RunFault) → looked ≡ faults → All (λ other. is_answered first other ≡ false) looked → told.fault ≡ first
    → told.line ≡ first.line → told.about ≡ about.Nothing → new ≡ told ∷ faults → AreOnce faults → AreOnce new
once_alone faults looked new told first all none fault line subject made once =
    subst AreOnce (sym made)
    (IsDistinct-cons are_same told faults (each faults (subst (λ (l : List FoundFault). All (λ other. is_answered first other ≡ false) l) all none)) once)
  where
    each : (others : List FoundFault) → All (λ other. is_answered first other ≡ false) others → AllByRecursion (λ other. are_same told other ≡ false) others
    each [] none = tt
    each (other ∷ others) none = (
      alone_apart first told other fault line subject (All-head (λ other. is_answered first other ≡ false) other others none),
      each others (All-tail (λ other. is_answered first other ≡ false) other others none),
    )
