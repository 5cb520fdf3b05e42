-- The list of a level on the way along it, and what is told of two lists.
use Rattle.std.proofs.Common.{◌≡◌, ◌≢◌, ℕ, suc, ◌+◌, ◌-◌, ◌*◌, ◌<◌, ◌≤◌, ◌==◌, Bool, true, false, cond, List, [], ◌∷◌, ◌++◌, length, map, take, reverse, Option, Some, None}
use Rattle.std.proofs.Common.{refl, sym, ap, ap₂, subst, ◌∙◌, add-one, add-zero, append-nil, length-append, arith}
use Rattle.std.specs.Prelude.{slice_get, option_map}
use Rattle.std.proofs.lemmas.Bool.{eqb-true, false≢true}
use Rattle.std.proofs.lemmas.Bool.Decides.{Decides-eqb}
use Rattle.std.proofs.lemmas.Cmp.{by_ranked, ranked}
use Rattle.std.specs.Ordering.{nat_cmp, ordering_then}
use Rattle.std.proofs.lemmas.Grind.{flat_map-append}
use Rattle.std.proofs.lemmas.List.{reverse-append, map-append}
use Rattle.coll_elements.proofs.Tests.{by_test}
use Rattle.coll_ranks.specs.WeightNumbers.{numbers_at}
use Rattle.coll_key.specs.LevelList.{directed, items, items_of, level_list, listed}
use Rattle.coll_key.specs.TextOrder.{list_order}
use Rattle.coll_key.proofs.DirectionLemmas.{length-directed, map-directed, map-reverse}
use Rattle.coll_key.proofs.RowLemmas.{list_alike}
use Rattle.coll_explanations.specs.ExplanationLaws.{FirstDifferencesAreTold, TellsFirst, ToldNumbersAreListed, order_there, words_or_end}
use Rattle.coll_explanations.specs.Sources.{Source, sources_at}
use Rattle.coll_explanations.specs.ToldLists.{Apart, Told, all_items, first_apart, source_items, told_from, told_list}
use Rattle.coll_explanations.specs.ToldSteps.{directed_sources, gap_count, sources_left}
use Rattle.coll_key.proofs.ForwardLemmas.{first_same}
use Rattle.coll_explanations.proofs.SourceLemmas.{number_in, numbers_are}

-- Directions.

-- the items of sources of which there are some
items_of_some : (ss : List Source) (s : Source) → source_items (ss ++ s ∷ []) ≡ map Some (ss ++ s ∷ [])
items_of_some [] s = refl
items_of_some (t ∷ ss) s = refl

-- the items of an element, reversed
items_of_reverse : (ss : List Source) → reverse (source_items ss) ≡ source_items (reverse ss)
items_of_reverse [] = refl
items_of_reverse (s ∷ ss) =
    sym (map-reverse Some (s ∷ ss))
    ∙ ap (map Some) (reverse-append (s ∷ []) ss)
    ∙ sym (items_of_some (reverse ss) s)
    ∙ ap source_items (sym (reverse-append (s ∷ []) ss))

-- the items of all elements, reversed
items_reverse : {P : Type 0} (f : P → List Source) (ps : List P) → reverse (all_items f ps) ≡ all_items (directed_sources true f) (reverse ps)
items_reverse f [] = refl
items_reverse f (p ∷ ps) =
    reverse-append (source_items (f p)) (all_items f ps)
    ∙ ap (λ xs. xs ++ reverse (source_items (f p))) (items_reverse f ps)
    ∙ ap (λ xs. all_items (directed_sources true f) (reverse ps) ++ xs) (items_of_reverse (f p) ∙ sym (append-nil (source_items (reverse (f p)))))
    ∙ sym (flat_map-append (λ q. source_items (directed_sources true f q)) (reverse ps) (p ∷ []))
    ∙ ap (all_items (directed_sources true f)) (sym (reverse-append (p ∷ []) ps))

-- the items of a level in its direction
pub items_directed : {P : Type 0} (b : Bool) (f : P → List Source) (ps : List P) → all_items (directed_sources b f) (directed b ps) ≡ directed b (all_items f ps)
items_directed true f ps = sym (items_reverse f ps)
items_directed false f ps = refl

-- How many items there are.

few_items : {P : Type 0} (f : P → List Source) → ((p : P) → length (f p) ≤ 32) → (ps : List P) → length (all_items f ps) ≤ 32 * length ps
few_items f few [] = omega arith
few_items f few (p ∷ ps) = omega (arith, length-append (source_items (f p)) (all_items f ps), few_of (f p) (few p), few_items f few ps) where
  mapped : (ss : List Source) → length (map Some ss) ≡ length ss
  mapped [] = refl
  mapped (s ∷ ss) = ap suc (mapped ss)

  few_of : (ss : List Source) → length ss ≤ 32 → length (source_items ss) ≤ 32
  few_of [] small = omega arith
  few_of (s ∷ ss) small = omega (arith, small, mapped (s ∷ ss))

pub few_directed : {P : Type 0} (b : Bool) (f : P → List Source) (ps : List P) → ((p : P) → length (f p) ≤ 32) → length ps ≤ 65_536 → length (directed b (all_items f ps)) ≤ 2_097_152
few_directed b f ps few short = omega (arith, short, few_items f few ps, length-directed b (all_items f ps))

-- where none is left of an element, and nothing was taken yet, the items are those of all elements
pub none_taken : {P X : Type 0} (b : Bool) (f : P → List Source) (g : X → Source) (ps : List P)
    → sources_left (directed_sources b f) (map g (directed b [])) (directed b ps) ≡ directed b (all_items f ps)
none_taken true f g ps = items_directed true f ps
none_taken false f g ps = refl

pub few_new : {P X : Type 0} (b : Bool) (f : P → List Source) (g : X → Source) (ps : List P) → ((p : P) → length (f p) ≤ 32) → length ps ≤ 65_536
    → length (sources_left (directed_sources b f) (map g (directed b [])) (directed b ps)) ≤ 2_097_152
few_new b f g ps few short = subst (λ (items : List (Option Source)). length items ≤ 2_097_152) (sym (none_taken b f g ps)) (few_directed b f ps few short)

-- Steps.

-- a list with a last member has no gap
some_last : {X : Type 0} (x : X) (ys : List X) → gap_count (ys ++ x ∷ []) ≡ 0
some_last x [] = refl
some_last x (y ∷ ys) = refl

-- an element without sources is a gap, in each direction
pub counted_alike : {X : Type 0} (b : Bool) (xs : List X) → gap_count (directed b xs) ≡ gap_count xs
counted_alike false xs = refl
counted_alike true [] = refl
counted_alike true (x ∷ xs) = ap gap_count (reverse-append (x ∷ []) xs) ∙ some_last x (reverse xs)

-- an element is one gap at most
pub gap_count_small : {X : Type 0} (xs : List X) → gap_count xs ≤ 1
gap_count_small [] = omega arith
gap_count_small (x ∷ xs) = omega arith

module _ {P X : Type 0} (f : P → List Source) (g₀ g : X → Source) (old ids : List X) (held elements : List P) (element : P) (none : old ≡ []) (next : held ≡ element ∷ elements)
    (sources : map g ids ≡ f element) where
  -- what is left begins with this element
  begins : sources_left f (map g₀ old) held ≡ source_items (map g ids) ++ all_items f elements
  begins = ap (λ os. sources_left f (map g₀ os) held) none ∙ ap (all_items f) next ∙ ap (λ ss. source_items ss ++ all_items f elements) (sym sources)

  -- an element is taken, and may be a gap
  pub element_taken : (p : Bool) (gaps n : ℕ) → n ≡ gap_count ids → told_from p gaps (sources_left f (map g₀ old) held) ≡ told_from p (gaps + n) (sources_left f (map g ids) elements)
  element_taken p gaps n count = ap (told_from p gaps) begins ∙ counted ids ∙ ap (λ k. told_from p (gaps + k) (sources_left f (map g ids) elements)) (sym count)
    where
      counted : (xs : List X) → told_from p gaps (source_items (map g xs) ++ all_items f elements) ≡ told_from p (gaps + gap_count xs) (sources_left f (map g xs) elements)
      counted [] = ap (λ k. told_from p k (all_items f elements)) (sym (add-one gaps))
      counted (x ∷ xs) = ap (λ k. told_from p k (sources_left f (map g (x ∷ xs)) elements)) (sym (add-zero gaps))

  -- it leaves no more than there was
  pub element_shorter : length (sources_left f (map g ids) elements) ≤ length (sources_left f (map g₀ old) held)
  element_shorter = omega (arith, ap length begins, no_longer ids)
    where
      no_longer : (xs : List X) → length (sources_left f (map g xs) elements) ≤ length (source_items (map g xs) ++ all_items f elements)
      no_longer [] = omega arith
      no_longer (x ∷ xs) = omega arith

-- The numbers that are told.

-- the number of an item, if it has one
abbrev number_if : Option Source → Option ℕ
number_if item = option_map number_in item

abbrev told_numbers : List Told → List ℕ
told_numbers list = map (λ (told : Told). told.number) list

-- those of a sequence
listed_are : (p : Bool) (gaps : ℕ) (seq : List (Option Source)) → told_numbers (told_from p gaps seq) ≡ listed p gaps (map number_if seq)
listed_are p gaps [] = refl
listed_are p gaps (None ∷ seq) = listed_are p (suc gaps) seq
listed_are true gaps (Some s ∷ seq) = ap (λ ns. suc gaps ∷ s.number ∷ ns) (listed_are true 0 seq)
listed_are false gaps (Some s ∷ seq) = ap (λ ns. s.number ∷ ns) (listed_are false 0 seq)

-- those of an element
items_are : (ss : List Source) → map number_if (source_items ss) ≡ items_of (map number_in ss)
items_are [] = refl
items_are (s ∷ ss) = ap (λ ns. Some s.number ∷ ns) (some_are ss) where
  some_are : (ss : List Source) → map number_if (map Some ss) ≡ map Some (map number_in ss)
  some_are [] = refl
  some_are (s ∷ ss) = ap (λ ns. Some s.number ∷ ns) (some_are ss)

-- those of all elements
all_are : {P : Type 0} (f : P → List Source) (ps : List P) → map number_if (all_items f ps) ≡ items (λ p. map number_in (f p)) ps
all_are f [] = refl
all_are f (p ∷ ps) =
    map-append number_if (source_items (f p)) (all_items f ps)
    ∙ ap₂ (λ (xs ys : List (Option ℕ)). xs ++ ys) (items_are (f p)) (all_are f ps)

pub told_are_listed : ToldNumbersAreListed
told_are_listed table level rule elements =
    listed_are rule.position 0 (directed rule.backward (all_items (sources_at table level) elements))
    ∙ ap (listed rule.position 0) (map-directed number_if rule.backward (all_items (sources_at table level) elements)
    ∙ ap (directed rule.backward) (all_are (sources_at table level) elements))
    ∙ list_alike rule (λ element. map number_in (sources_at table level element)) (numbers_at table level) (numbers_are table level) elements

-- Where two lists differ first.

-- numbers that differ decide
first_decides : (a b : ℕ) (ks ls : List ℕ) → (a ≡ b → ⊥) → list_order (a ∷ ks) (b ∷ ls) ≡ nat_cmp a b
first_decides a b ks ls apart =
    by_ranked (a < b) (a ≡ b) (b < a) (nat_cmp a b) (ranked a b (nat_cmp a b) refl)
    (λ is less. ap (λ o. ordering_then o (list_order ks ls)) is ∙ sym is)
    (λ is same. absurd (apart same))
    (λ is more. ap (λ o. ordering_then o (list_order ks ls)) is ∙ sym is)

-- a difference that many places on, behind others
abbrev TellsBehind : (passed : ℕ) → (list other : List Told) → Option Apart → Type 0
TellsBehind passed list other None = told_numbers list ≡ told_numbers other
TellsBehind passed list other (Some apart) =
    (ahead : ℕ) × (apart.place ≡ suc (passed + ahead)) × (take ahead (told_numbers list) ≡ take ahead (told_numbers other))
    × (slice_get (told_numbers list) ahead ≢ slice_get (told_numbers other) ahead) × (apart.words ≡ words_or_end (slice_get list ahead))
    × (apart.other_words ≡ words_or_end (slice_get other ahead))
    × (list_order (told_numbers list) (told_numbers other) ≡ order_there (slice_get (told_numbers list) ahead) (slice_get (told_numbers other) ahead))

-- a number more that both have
one_more : (passed : ℕ) (told opposite : Told) (list other : List Told) (r : Option Apart) → told.number ≡ opposite.number → TellsBehind (suc passed) list other r
    → TellsBehind passed (told ∷ list) (opposite ∷ other) r
one_more passed told opposite list other None same h = ap₂ (λ (n : ℕ) (ns : List ℕ). n ∷ ns) same h
one_more passed told opposite list other (Some apart) same h = (
  suc h.0,
  h.1 ∙ (let moved : suc (suc passed + h.0) ≡ suc (passed + suc h.0) = omega arith in moved),
  ap₂ (λ (n : ℕ) (ns : List ℕ). n ∷ ns) same h.2,
  h.3,
  h.4,
  h.5,
  first_same told.number opposite.number (told_numbers list) (told_numbers other) same ∙ h.6,
)

tells_behind : (passed : ℕ) (list other : List Told) → TellsBehind passed list other (first_apart (suc passed) list other)
tells_behind passed [] [] = refl
tells_behind passed (told ∷ list) [] = (0, ap suc (sym (add-zero passed)), refl, (λ e. cc), refl, refl, refl)
tells_behind passed [] (opposite ∷ other) = (0, ap suc (sym (add-zero passed)), refl, (λ e. cc), refl, refl, refl)
tells_behind passed (told ∷ list) (opposite ∷ other) =
    by_test (λ b. TellsBehind passed (told ∷ list) (opposite ∷ other)
    (cond b (first_apart (suc (suc passed)) list other) (Some (record { place = suc passed; words = told.words; other_words = opposite.words })))) (told.number == opposite.number)
    (λ on. one_more passed told opposite list other (first_apart (suc (suc passed)) list other) (eqb-true told.number opposite.number on) (tells_behind (suc passed) list other))
    (λ off. (0, ap suc (sym (add-zero passed)), refl, apart off, refl, refl, first_decides told.number opposite.number (told_numbers list) (told_numbers other) (others off))) where
      others : (told.number == opposite.number) ≡ false → told.number ≡ opposite.number → ⊥
      others off same = false≢true (sym off ∙ (Decides-eqb told.number opposite.number).1 same)

      apart : (told.number == opposite.number) ≡ false → slice_get (told_numbers (told ∷ list)) 0 ≢ slice_get (told_numbers (opposite ∷ other)) 0
      apart off e = others off (let same : told.number ≡ opposite.number = cc in same)

-- the first of all is told
tells_first : (list other : List Told) (r : Option Apart) → TellsBehind 0 list other r → TellsFirst (told_numbers list) (told_numbers other) list other r
tells_first list other None h = h
tells_first list other (Some apart) h =
    let ahead : h.0 ≡ apart.place - 1 = omega (arith, h.1) in (
      record {
        counted = omega (arith, h.1);
        same = subst (λ (n : ℕ). take n (told_numbers list) ≡ take n (told_numbers other)) ahead h.2;
        apart = subst (λ (n : ℕ). slice_get (told_numbers list) n ≢ slice_get (told_numbers other) n) ahead h.3;
      },
      h.4 ∙ ap (λ (n : ℕ). words_or_end (slice_get list n)) ahead,
      h.5 ∙ ap (λ (n : ℕ). words_or_end (slice_get other n)) ahead,
      h.6 ∙ ap (λ (n : ℕ). order_there (slice_get (told_numbers list) n) (slice_get (told_numbers other) n)) ahead,
    )

pub told_first : FirstDifferencesAreTold
told_first table level rule elements others =
    let list = told_list rule (sources_at table level) elements in
    let other = told_list rule (sources_at table level) others in
    let r = first_apart 1 list other in
    subst (λ (ns : List ℕ). TellsFirst ns (level_list rule (numbers_at table level) others) list other r) (told_are_listed table level rule elements)
    (subst (λ (ns : List ℕ). TellsFirst (told_numbers list) ns list other r) (told_are_listed table level rule others) (tells_first list other r (tells_behind 0 list other)))
