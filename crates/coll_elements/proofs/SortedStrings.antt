-- The strings of elements, numbered and sorted: what stands at each place, and what is put into their order.
use Rattle.std.proofs.Common.{◌≡◌, ◌<◌, ◌≤◌, ℕ, zero, suc, ◌+◌, ◌==◌, Bool, true, false, cond, List, [], ◌∷◌, ◌++◌, length, get_or, take, sym, ap, ap₂, subst, ◌∙◌, refl, arith}
use Rattle.std.proofs.Math.ListN.{get_or-append}
use Rattle.std.proofs.Math.Seq.{get_or-append_seam, take-suc}
use Rattle.std.proofs.lemmas.List.{map-append, get_or-map, get_or-take, length-map, length-append}
use Rattle.std.proofs.lemmas.List.Sorted.{sorted_far, ranks_by, length_permutation, Contains-permutation, IsPermutation-sym}
use Rattle.std.proofs.lemmas.Cmp.{then_total, on_total, nat_cmp_total, nat_list_cmp_total}
use Rattle.std.proofs.lemmas.Bool.{ltb-false}
use Rattle.std.proofs.lemmas.Bool.Decides.{Decides-ltb, Decides-eqb}
use Rattle.std.specs.Prelude.{chars, nat_lt}
use Rattle.std.specs.List.Sorted.{IsPermutation, IsSorted}
use Rattle.std.specs.Ordering.{is_lt, nat_cmp, ordering_then}
use Rattle.std.specs.Cmp.Lexicographic.{slice_cmp}
use Rattle.std.specs.declared.cmp.Ordering.{Ordering}
use Rattle.std.specs.declared.cmp.Ordering.TheVariants.{Less, Equal, Greater}
use denote.Ref.{Bor}
use Rattle.coll_elements.proofs.Tests.{by_test}
use Rattle.coll_elements.specs.RankedElements.{RankedElement}
use Rattle.coll_elements.specs.ElementOrder.{stands_before, string_there, AreAscending, AreStringsOf, AreNumbered, IsSpelled, texts_of, numbers_of}

-- a string with a number
abbrev pub Numbered : Type 0
Numbered = Bor (List ℕ) × ℕ

-- the order of strings with numbers
abbrev pub numbered_order : Numbered → Numbered → Ordering
numbered_order x y = ordering_then (slice_cmp nat_cmp x.0.now y.0.now) (nat_cmp x.1 y.1)

-- a list has something at each of its places
pub there_is : {X : Type 0} (xs : List X) (place : ℕ) → place < length xs → (x : X) × (x ≡ get_or xs place x)
there_is [] place there = absurd (omega (arith, there))
there_is (x ∷ xs) zero there = (x, refl)
there_is (x ∷ xs) (suc place) there = there_is xs place (omega (arith, there))

-- it is the same whatever the default
pub same_there : {X : Type 0} (xs : List X) (place : ℕ) (d e : X) → place < length xs → get_or xs place d ≡ get_or xs place e
same_there [] place d e there = absurd (omega (arith, there))
same_there (x ∷ xs) zero d e there = refl
same_there (x ∷ xs) (suc place) d e there = same_there xs place d e (omega (arith, there))

text_is : (ys : List Numbered) (at : ℕ) (y : Numbered) → at < length ys → y ≡ get_or ys at y → string_there (texts_of ys) at ≡ y.0.now
text_is ys at y there is = get_or-map (λ (s : Numbered). s.0.now) ys at y [] there ∙ ap (λ (s : Numbered). s.0.now) (sym is)

number_is : (ys : List Numbered) (at : ℕ) (y : Numbered) → at < length ys → y ≡ get_or ys at y → get_or (numbers_of ys) at 0 ≡ y.1
number_is ys at y there is = get_or-map (λ (s : Numbered). s.1) ys at y 0 there ∙ ap (λ (s : Numbered). s.1) (sym is)

pub texts_count : (ys : List Numbered) → length (texts_of ys) ≡ length ys
texts_count ys = length-map ys (λ (s : Numbered). s.0.now)

pub numbers_count : (ys : List Numbered) → length (numbers_of ys) ≡ length ys
numbers_count ys = length-map ys (λ (s : Numbered). s.1)

-- one string more, with its number
pub numbered_more : (elements : List RankedElement) (xs ys : List Numbered) (string : Bor (List ℕ)) (count number : ℕ) → AreNumbered elements count xs → number ≡ count
    → ((ranked : RankedElement) → ranked ≡ get_or elements count ranked → IsSpelled ranked string.now) → ys ≡ xs ++ (string, number) ∷ [] → AreNumbered elements (count + 1) ys
numbered_more elements xs ys string count number numbered same spelled is =
    subst (AreNumbered elements (count + 1)) (sym is) record {
      counted = omega (arith, length-append xs ((string, number) ∷ []), numbered.counted);
      each = λ place ranked below ranked_is.
          by_test (λ _. IsSpelled ranked (string_there (texts_of all) place)) (nat_lt place count)
          (λ on.
          let before : place < count = (Decides-ltb place count).0 on in
          subst (IsSpelled ranked) (sym (ap (λ ts. string_there ts place) texts ∙ get_or-append (texts_of xs) (string.now ∷ []) [] place (omega (arith, before, numbered.counted, texts_count xs))))
          (numbered.each place ranked before ranked_is))
          (λ off.
          let here : count ≡ place = omega (arith, below, ltb-false place count off) in
          subst (λ (n : ℕ). IsSpelled ranked (string_there (texts_of all) n)) here
          (subst (IsSpelled ranked) (sym (ap (λ ts. string_there ts count) texts
          ∙ (ap (string_there (texts_of xs ++ string.now ∷ [])) (sym (texts_count xs ∙ numbered.counted)) ∙ get_or-append_seam (texts_of xs) string.now [] [])))
          (spelled ranked (ranked_is ∙ ap (λ n. get_or elements n ranked) (sym here)))));
      numbers = λ place below.
          ap (λ ns. get_or ns place 0) numbers
          ∙ by_test (λ _. get_or (numbers_of xs ++ number ∷ []) place 0 ≡ place) (nat_lt place count)
          (λ on.
          let before : place < count = (Decides-ltb place count).0 on in
          get_or-append (numbers_of xs) (number ∷ []) 0 place (omega (arith, before, numbered.counted, numbers_count xs)) ∙ numbered.numbers place before)
          (λ off.
          let here : count ≡ place = omega (arith, below, ltb-false place count off) in
          ap (λ n. get_or (numbers_of xs ++ number ∷ []) n 0) (sym here ∙ sym (numbers_count xs ∙ numbered.counted)) ∙ (get_or-append_seam (numbers_of xs) number [] 0 ∙ (same ∙ here)));
    } where
      all : List Numbered
      all = xs ++ (string, number) ∷ []

      texts : texts_of all ≡ texts_of xs ++ string.now ∷ []
      texts = map-append (λ (s : Numbered). s.0.now) xs ((string, number) ∷ [])

      numbers : numbers_of all ≡ numbers_of xs ++ number ∷ []
      numbers = map-append (λ (s : Numbered). s.1) xs ((string, number) ∷ [])

one_more : (n : ℕ) → suc n ≡ n + 1
one_more n = omega arith

-- what doesn't stand before by two orders doesn't by the first
not_by_first : (a b : Ordering) → is_lt (ordering_then a b) ≡ false → is_lt a ≡ false
not_by_first Less b h = h
not_by_first Equal b h = refl
not_by_first Greater b h = refl

-- a string is like itself
like_itself : (c : ℕ) → nat_cmp c c ≡ Equal
like_itself c =
    by_test (λ b. cond b Less (cond (c == c) Equal Greater) ≡ Equal) (nat_lt c c)
    (λ on. absurd (omega (arith, (Decides-ltb c c).0 on)))
    (λ off. ap (λ b. cond b Equal Greater) ((Decides-eqb c c).1 refl))

same_order : (string : List ℕ) → slice_cmp nat_cmp string string ≡ Equal
same_order [] = refl
same_order (c ∷ string) = ap (λ o. ordering_then o (slice_cmp nat_cmp string string)) (like_itself c) ∙ same_order string

not_less : (n m : ℕ) → is_lt (nat_cmp n m) ≡ false → m ≤ n
not_less n m h = ltb-false n m (by (nat_lt n m) (n == m) h) where
  by : (a b : Bool) → is_lt (cond a Less (cond b Equal Greater)) ≡ false → a ≡ false
  by true b h = h
  by false b h = refl

module _ (elements : List RankedElement) (xs ys : List Numbered) (numbered : AreNumbered elements (length elements) xs) (shuffled : IsPermutation xs ys) (sorted : IsSorted numbered_order ys) where
  long : length ys ≡ length elements
  long = length_permutation xs ys shuffled ∙ numbered.counted

  -- where a string stood that stands here now
  origin : (at : ℕ) (y : Numbered) → at < length ys → y ≡ get_or ys at y → (place : ℕ) × (place < length xs) × (y ≡ get_or xs place y)
  origin at y there is =
      let found = Contains-permutation ys xs y (IsPermutation-sym xs ys shuffled) (at, there, sym is) in
      (found.0, found.1, sym found.2)

  number_there : (at : ℕ) → at < length ys → (get_or (numbers_of ys) at 0 < length elements)
      × ((ranked : RankedElement) → ranked ≡ get_or elements (get_or (numbers_of ys) at 0) ranked → IsSpelled ranked (string_there (texts_of ys) at))
  number_there at there =
      let here = there_is ys at there in
      let from = origin at here.0 there here.1 in
      let within : from.0 < length elements = omega (arith, from.1, numbered.counted) in
      let number : get_or (numbers_of ys) at 0 ≡ from.0 = number_is ys at here.0 there here.1 ∙ (sym (number_is xs from.0 here.0 from.1 from.2) ∙ numbered.numbers from.0 within) in (
        omega (arith, number, within),
        λ ranked is.
            subst (IsSpelled ranked) (text_is xs from.0 here.0 from.1 from.2 ∙ sym (text_is ys at here.0 there here.1))
            (numbered.each from.0 ranked within (is ∙ ap (λ n. get_or elements n ranked) number)),
      )

  -- none stands before an earlier one
  rises : (earlier at : ℕ) (x y : Numbered) → earlier ≤ at → at < length ys → x ≡ get_or ys earlier x → y ≡ get_or ys at y → is_lt (numbered_order y x) ≡ false
  rises earlier at x y order there x_is y_is =
      ap₂ (λ (a b : Numbered). is_lt (numbered_order a b)) y_is (x_is ∙ same_there ys earlier x y (omega (arith, order, there)))
      ∙ sorted_far (λ (a b : Numbered). is_lt (numbered_order a b))
      (ranks_by (then_total (on_total (λ (s : Numbered). s.0.now) nat_list_cmp_total) (on_total (λ (s : Numbered). s.1) nat_cmp_total)) (λ (s : Numbered). s)) ys sorted earlier at y order there

  pub sorted_ascending : AreAscending (texts_of ys)
  sorted_ascending earlier place order below =
      let there : place < length ys = omega (arith, below, texts_count ys) in
      let before : earlier < length ys = omega (arith, order, there) in
      let x = there_is ys earlier before in
      let y = there_is ys place there in
      ap₂ stands_before (text_is ys place y.0 there y.1) (text_is ys earlier x.0 before x.1)
      ∙ not_by_first _ _ (rises earlier place x.0 y.0 order there x.1 y.1)

  pub sorted_strings : AreStringsOf elements (texts_of ys) (numbers_of ys)
  sorted_strings = record {
    counted = numbers_count ys ∙ sym (texts_count ys);
    each = λ at ranked there is. (number_there at (omega (arith, there, texts_count ys))).1 ranked is;
    within = λ at there. (number_there at (omega (arith, there, texts_count ys))).0;
    every = λ place within.
        let there : place < length xs = omega (arith, within, numbered.counted) in
        let x = there_is xs place there in
        let found = Contains-permutation xs ys x.0 shuffled (place, there, sym x.1) in
        (found.0, omega (arith, found.1, texts_count ys), number_is ys found.0 x.0 found.1 (sym found.2) ∙ (sym (number_is xs place x.0 there x.1) ∙ numbered.numbers place within));
    alike = λ earlier at order there same.
        let there_too : at < length ys = omega (arith, there, texts_count ys) in
        let before : earlier < length ys = omega (arith, order, there_too) in
        let x = there_is ys earlier before in
        let y = there_is ys at there_too in
        let strings : slice_cmp nat_cmp y.0.0.now x.0.0.now ≡ Equal = ap (λ s. slice_cmp nat_cmp s x.0.0.now) (sym (text_is ys at y.0 there_too y.1) ∙ (sym same ∙ text_is ys earlier x.0 before x.1))
        ∙ same_order x.0.0.now in
        let numbers : x.0.1 ≤ y.0.1 = not_less y.0.1 x.0.1 (ap (λ o. is_lt (ordering_then o (nat_cmp y.0.1 x.0.1))) (sym strings) ∙ rises earlier at x.0 y.0 order there_too x.1 y.1) in
        omega (arith, numbers, number_is ys at y.0 there_too y.1, number_is ys earlier x.0 before x.1);
  }

-- Where some of the sorted strings have been put into their order.

pub so_many : (ys : List Numbered) (at : ℕ) (strings : List (List ℕ)) → strings ≡ take at (texts_of ys) → length strings ≤ at
so_many ys at strings so_far = omega (arith, ap length so_far, few at (texts_of ys)) where
  few : (n : ℕ) (xs : List (List ℕ)) → length (take n xs) ≤ n
  few zero xs = omega arith
  few (suc n) [] = omega arith
  few (suc n) (x ∷ xs) = omega (arith, few n xs)

module _ (ys : List Numbered) (at : ℕ) (y : Numbered) (there : at < length ys) (is : y ≡ get_or ys at y) where
  -- the next one doesn't stand before them
  pub next_behind : (strings : List (List ℕ)) → AreAscending (texts_of ys) → strings ≡ take at (texts_of ys) → (place : ℕ) → place < length strings → stands_before y.0.now (string_there strings place)
      ≡ false
  next_behind strings ascending so_far place below =
      let counted : length strings ≤ at = so_many ys at strings so_far in
      let before : place < at = omega (arith, below, counted) in
      ap₂ stands_before (sym (text_is ys at y there is)) (ap (λ ss. string_there ss place) so_far ∙ get_or-take at (texts_of ys) place [] before)
      ∙ ascending place at (omega (arith, before)) (omega (arith, there, texts_count ys))

  -- it has a character
  pub next_has_one : (elements : List RankedElement) → AreStringsOf elements (texts_of ys) (numbers_of ys) → 0 < length (chars y.0.now)
  next_has_one elements order =
      let below : at < length (texts_of ys) = omega (arith, there, texts_count ys) in
      let ranked = there_is elements (get_or (numbers_of ys) at 0) (order.within at below) in
      let spelled = order.each at ranked.0 below ranked.1 in
      subst (λ (s : List ℕ). 0 < length (chars s)) (text_is ys at y there is) (subst (λ (s : List ℕ). 0 < length s) (sym spelled.is) spelled.some)

  -- with it there are so many more
  pub next_texts : (strings all : List (List ℕ)) → strings ≡ take at (texts_of ys) → all ≡ strings ++ y.0.now ∷ [] → all ≡ take (at + 1) (texts_of ys)
  next_texts strings all so_far with =
      with ∙ (ap₂ (λ (ss : List (List ℕ)) (s : List ℕ). ss ++ s ∷ []) so_far (sym (text_is ys at y there is))
      ∙ (sym (take-suc (texts_of ys) at [] (omega (arith, there, texts_count ys))) ∙ ap (λ n. take n (texts_of ys)) (one_more at)))

  pub next_numbers : (places all : List ℕ) → places ≡ take at (numbers_of ys) → all ≡ places ++ y.1 ∷ [] → all ≡ take (at + 1) (numbers_of ys)
  next_numbers places all so_far with =
      with ∙ (ap₂ (λ (ns : List ℕ) (n : ℕ). ns ++ n ∷ []) so_far (sym (number_is ys at y there is))
      ∙ (sym (take-suc (numbers_of ys) at 0 (omega (arith, there, numbers_count ys))) ∙ ap (λ n. take n (numbers_of ys)) (one_more at)))
