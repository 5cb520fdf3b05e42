-- Marks that tell of all that is declared tell where no element begins.
use Rattle.std.proofs.Common.{◌≡◌, ⊎_elim, ℕ, ◌<◌, ◌≤◌, ◌&&◌, ◌==◌, Bool, true, false, if◌then◌else◌, List, [], ◌∷◌, ◌++◌, length, None, Some, refl, sym, ap, subst, ◌∙◌, arith}
use Rattle.std.specs.Prelude.{slice_index_or}
use Rattle.std.specs.List.{flat_map}
use Rattle.std.proofs.lemmas.Bool.{eqb-true}
use Rattle.coll_syntax.specs.declared.identifiers.Id.TheVariants.{Named}
use Rattle.coll_nodes.specs.Table.{Collation, is_placed}
use Rattle.coll_nodes.specs.declared.declarations.Declaration.{Declaration}
use Rattle.coll_nodes.specs.declared.declarations.Declaration.TheVariants as declaration
use Rattle.coll_elements.specs.Elements.{Element, begins_with, element_placed, element_text, longer, longest}
use Rattle.coll_elements.proofs.Tests.{by_test}
use Rattle.coll_letters.specs.ElementMarks.{AreMarked, AreMarks, BeginsOther, GoesOnOther, IsApart, KeepMarks, StandsAlone, TellOfAll, TellsOf, pair_mark, place_of_pair}
use Rattle.coll_letters.specs.declared.element_marks.ElementMarks.{ElementMarks}

-- Elements that are declared.

begins_none : (c : ℕ) (rest : List ℕ) (xs ys : List Element) → longest element_text xs (c ∷ rest) ≡ None → longest element_text ys (c ∷ rest) ≡ None → longest element_text (xs ++ ys) (c ∷ rest) ≡ None
begins_none c rest [] ys none later = later
begins_none c rest (x ∷ xs) ys none later =
    by_test
    (λ (b : Bool). (if b then Some (longer element_text x (longest element_text xs (c ∷ rest))) else longest element_text xs (c ∷ rest)) ≡ None
    → (if b then Some (longer element_text x (longest element_text (xs ++ ys) (c ∷ rest))) else longest element_text (xs ++ ys) (c ∷ rest)) ≡ None)
    (begins_with (c ∷ rest) x.text)
    (λ on found. absurd cc)
    (λ off found. begins_none c rest xs ys found later)
    none

-- what is declared is no element that a character begins
pub none_begins : (table : Collation) (c : ℕ) (rest : List ℕ) (d : Declaration) → BeginsOther (c ∷ rest) d → longest element_text (element_placed table d) (c ∷ rest) ≡ None
none_begins table c rest (declaration.Symbol name) other = refl
none_begins table c rest (declaration.Equivalence name symbol) other = refl
none_begins table c rest (declaration.Element name text) other =
    by_test (λ (b : Bool). longest element_text (if b then record { name = name; text = text } ∷ [] else []) (c ∷ rest) ≡ None) (is_placed table (Named name))
    (λ on. ap (λ (b : Bool). if b then Some (longer element_text (record { name = name; text = text }) None) else None) other)
    (λ off. refl)

-- nor is it one of these and of those behind it
pub none_of_more : (table : Collation) (c : ℕ) (rest : List ℕ) (d : Declaration) (later : List Declaration) → BeginsOther (c ∷ rest) d
    → longest element_text (flat_map (element_placed table) later) (c ∷ rest) ≡ None → longest element_text (flat_map (element_placed table) (d ∷ later)) (c ∷ rest) ≡ None
none_of_more table c rest d later other none =
    begins_none c rest (element_placed table d) (flat_map (element_placed table) later) (none_begins table c rest d other) none

-- Marks.

not_first : (marks : ElementMarks) (c e : ℕ) (rest : List ℕ) → c ≡ e → 2 ≤ slice_index_or marks.firsts e 0 → IsApart marks c rest → ⊥
not_first marks c e rest same marked apart =
    let here = ap (λ (n : ℕ). slice_index_or marks.firsts n 0) same in
    ⊎_elim
    (λ (none : slice_index_or marks.firsts c 0 ≡ 0). absurd (omega (arith, none, here, marked)))
    (λ (low : (slice_index_or marks.firsts c 0 < 2) × GoesOnOther marks c rest). absurd (omega (arith, low.0, here, marked)))
    apart

not_both : (marks : ElementMarks) (c d e f : ℕ) (rest : List ℕ) → c ≡ e → d ≡ f → 1 ≤ slice_index_or marks.firsts e 0 → 1 ≤ pair_mark marks e f → IsApart marks c (d ∷ rest) → ⊥
not_both marks c d e f rest same next_same marked next_marked apart =
    let here = ap (λ (n : ℕ). slice_index_or marks.firsts n 0) same in
    let next = ap (λ (n : ℕ). pair_mark marks n d) same ∙ ap (pair_mark marks e) next_same in
    ⊎_elim
    (λ (none : slice_index_or marks.firsts c 0 ≡ 0). absurd (omega (arith, none, here, marked)))
    (λ (low : (slice_index_or marks.firsts c 0 < 2) × (pair_mark marks c d ≡ 0)). absurd (omega (arith, low.1, next, next_marked)))
    apart

begins_marked : (marks : ElementMarks) (c : ℕ) (rest string : List ℕ) → IsApart marks c rest → AreMarked marks string → begins_with (c ∷ rest) string ≡ false
begins_marked marks c rest [] apart marked = absurd marked
begins_marked marks c rest (e ∷ []) apart marked =
    by_test (λ (b : Bool). (b && begins_with rest []) ≡ false) (c == e) (λ on. absurd (not_first marks c e rest (eqb-true c e on) marked apart)) (λ off. refl)
begins_marked marks c [] (e ∷ f ∷ more) apart marked =
    by_test (λ (b : Bool). (b && false) ≡ false) (c == e) (λ on. refl) (λ off. refl)
begins_marked marks c (d ∷ rest) (e ∷ f ∷ more) apart marked =
    by_test (λ (b : Bool). (b && ((d == f) && begins_with rest more)) ≡ false) (c == e)
    (λ on.
    by_test (λ (b : Bool). (true && (b && begins_with rest more)) ≡ false) (d == f)
    (λ both. absurd (not_both marks c d e f rest (eqb-true c e on) (eqb-true d f both) marked.0 (omega (arith, marked.1)) apart))
    (λ off. refl))
    (λ off. refl)

-- no element that the marks tell of begins where they tell that none does
pub apart_other : (marks : ElementMarks) (c : ℕ) (rest : List ℕ) (d : Declaration) → IsApart marks c rest → TellsOf marks d → BeginsOther (c ∷ rest) d
apart_other marks c rest (declaration.Symbol name) apart told = tt
apart_other marks c rest (declaration.Equivalence name symbol) apart told = tt
apart_other marks c rest (declaration.Element name text) apart told = begins_marked marks c rest text apart told

-- marks that are raised
pub kept_marks : (marks : ElementMarks) → KeepMarks marks marks
kept_marks marks = record { firsts = λ c. omega arith; pairs = λ place. omega arith }

-- a single character is the whole string
pub whole_marked : (marks : ElementMarks) (c : ℕ) (text rest : List ℕ) → text ≡ c ∷ rest → rest ≡ [] → 2 ≤ slice_index_or marks.firsts c 0 → AreMarked marks text
whole_marked marks c text rest is none marked = subst (AreMarked marks) (sym (is ∙ ap (λ (l : List ℕ). c ∷ l) none)) marked

-- of others two characters are marked, with how many the string has
pub both_marked : (marks : ElementMarks) (c d count : ℕ) (text rest more : List ℕ) → text ≡ c ∷ rest → rest ≡ d ∷ more → count ≡ length text → 1 ≤ slice_index_or marks.firsts c 0
    → count ≤ pair_mark marks c d → AreMarked marks text
both_marked marks c d count text rest more is next counted first pair =
    let whole : text ≡ c ∷ d ∷ more = is ∙ ap (λ (l : List ℕ). c ∷ l) next in
    let long : length text ≡ length (c ∷ d ∷ more) = ap length whole in
    subst (AreMarked marks) (sym whole) (first, omega (arith, pair, counted, long))

-- no element of all these begins there
none_of_all : (table : Collation) (marks : ElementMarks) (c : ℕ) (rest : List ℕ) → IsApart marks c rest → (ds : List Declaration) → TellOfAll marks ds
    → longest element_text (flat_map (element_placed table) ds) (c ∷ rest) ≡ None
none_of_all table marks c rest apart [] told = refl
none_of_all table marks c rest apart (d ∷ ds) told = none_of_more table c rest d ds (apart_other marks c rest d apart told.0) (none_of_all table marks c rest apart ds told.1)

-- so a character that is apart stands alone
pub stands_apart : (table : Collation) (marks : ElementMarks) → AreMarks table marks → (c : ℕ) (rest : List ℕ) → IsApart marks c rest → StandsAlone table c rest
stands_apart table marks are c rest apart = none_of_all table marks c rest apart table.declared are

-- Marks that are raised tell what they told.

marked_still : (old new : ElementMarks) → KeepMarks old new → (string : List ℕ) → AreMarked old string → AreMarked new string
marked_still old new kept [] marked = absurd marked
marked_still old new kept (c ∷ []) marked = omega (arith, marked, kept.firsts c)
marked_still old new kept (c ∷ d ∷ rest) marked = (omega (arith, marked.0, kept.firsts c), omega (arith, marked.1, kept.pairs (place_of_pair c d)))

pub tells_still : (old new : ElementMarks) → KeepMarks old new → (d : Declaration) → TellsOf old d → TellsOf new d
tells_still old new kept (declaration.Symbol name) told = tt
tells_still old new kept (declaration.Equivalence name symbol) told = tt
tells_still old new kept (declaration.Element name text) told = marked_still old new kept text told

pub kept_on : (old new last : ElementMarks) → KeepMarks old new → KeepMarks new last → KeepMarks old last
kept_on old new last first second = record { firsts = λ c. omega (arith, first.firsts c, second.firsts c); pairs = λ place. omega (arith, first.pairs place, second.pairs place) }
