-- Slots in pages: how many pages there are, what one page more does, and that the slot of a code point is that of no other one.
use Rattle.std.proofs.Common.{◌≡◌, ◌≢◌, ◌<◌, ◌≤◌, ◌+◌, ◌-◌, ◌*◌, ◌/◌, ◌%◌, ℕ, zero, suc, Bool, true, false, cond, is_some, nat_eq, nat_lt, List, [], Option, Some, None, length, slice_index_or, slice_set, arith, sym, ap, ◌∙◌, refl}
use Rattle.std.proofs.lemmas.Bool.{true≢false, ltb-true, ltb-false}
use Rattle.std.proofs.lemmas.Bool.Decides.{Decides-eqb}
use Rattle.std.proofs.lemmas.List.{get_or_past, get_or_read, get_or-set_same, get_or-set_other}
use Rattle.std.specs.Option.{option_map_or}
use Rattle.coll_lookups.specs.CharPages.{page_at, pages_below, place_in, place_of, slot_of, ArePages}

-- a number is itself
pub itself : (k : ℕ) → nat_eq k k ≡ true
itself k = (Decides-eqb k k).1 refl

-- a number is no greater one
pub no_greater : (c k : ℕ) → suc k ≤ c → nat_eq c k ≡ false
no_greater c k h = by (nat_eq c k) refl where
  by : (b : Bool) → nat_eq c k ≡ b → b ≡ false
  by true t = let same : c ≡ k = (Decides-eqb c k).0 t in absurd (omega (arith, h, same))
  by false t = refl

-- the last of these code points, or one before it
pub last_or_before : (c k : ℕ) → c < suc k → nat_eq c k ≡ false → c < k
last_or_before c k h e = by (nat_lt c k) refl where
  by : (b : Bool) → nat_lt c k ≡ b → c < k
  by true t = ltb-true c k t
  by false t =
      let most : k ≤ c = ltb-false c k t in
      let same : c ≡ k = omega (arith, h, most) in
      absurd (true≢false (sym ((Decides-eqb c k).1 same) ∙ e))

-- the slot at a place; a free one where there is no place
abbrev pub slot_there : {Slot : Type 0} → (free : Slot) → List Slot → Option ℕ → Slot
slot_there free slots place = option_map_or (λ k. slice_index_or slots k free) place free

-- a code point behind all pages has a free slot
pub past_pages : {Slot : Type 0} (free : Slot) (pages : List ℕ) (slots : List Slot) (c : ℕ) → length pages * 128 ≤ c → slot_of free pages slots c ≡ free
past_pages free pages slots c h =
    let behind : length pages ≤ c / 128 = omega (arith, h) in
    ap (λ page. slot_there free slots (place_in page (c % 128))) (get_or_past pages (c / 128) 0 behind)

-- a place that is there is not nowhere
none_is_not : {A : Type 0} (place : ℕ) → None ≡ Some place → A
none_is_not {A} place e = absurd (true≢false (sym (ap is_some e)))

-- How many ranges have a page.

-- a page has a number, and not 0
some_page : (n : ℕ) → 0 < n → nat_eq n 0 ≡ false
some_page n h = by (nat_eq n 0) refl where
  by : (b : Bool) → nat_eq n 0 ≡ b → b ≡ false
  by true t = let none : n ≡ 0 = (Decides-eqb n 0).0 t in absurd (omega (arith, h, none))
  by false t = refl

-- no more ranges have one than there are
pub pages_few : (page : ℕ → ℕ) (count : ℕ) → pages_below page count ≤ count
unfolding pages_below
pages_few page zero = omega arith
pages_few page (suc range) = by (nat_eq (page range) 0) (pages_few page range) where
  by : (b : Bool) → pages_below page range ≤ range → cond b (pages_below page range) (suc (pages_below page range)) ≤ suc range
  by true few = omega (arith, few)
  by false few = omega (arith, few)

module _ (page more : ℕ → ℕ) (given : ℕ) (none : page given ≡ 0) (some : 0 < more given) (others : (range : ℕ) → range ≢ given → more range ≡ page range) where
  -- none of the ranges before the one that was given a page has got one
  pages_before : (count : ℕ) → count ≤ given → pages_below more count ≡ pages_below page count
  unfolding pages_below
  pages_before zero h = refl
  pages_before (suc range) h =
      ap (λ p. cond (nat_eq p 0) (pages_below more range) (suc (pages_below more range))) (others range (λ same. absurd (omega (arith, h, same))))
      ∙ ap (λ n. cond (nat_eq (page range) 0) n (suc n)) (pages_before range (omega (arith, h)))

  -- and one more has one of all those behind it
  pub pages_more : (count : ℕ) → given < count → pages_below more count ≡ suc (pages_below page count)
  unfolding pages_below
  pages_more zero h = absurd (omega arith)
  pages_more (suc range) h = by (λ behind. pages_more range behind) (pages_before range) (nat_eq range given) refl where
    step : (b : Bool) (n m : ℕ) → n ≡ suc m → cond b n (suc n) ≡ suc (cond b m (suc m))
    step true n m e = e
    step false n m e = ap suc e

    by : (given < range → pages_below more range ≡ suc (pages_below page range)) → (range ≤ given → pages_below more range ≡ pages_below page range) → (b : Bool) → nat_eq range given ≡ b
        → cond (nat_eq (more range) 0) (pages_below more range) (suc (pages_below more range)) ≡ suc (cond (nat_eq (page range) 0) (pages_below page range) (suc (pages_below page range)))
    by behind before true t =
        let same : range ≡ given = (Decides-eqb range given).0 t in
        let gets : nat_eq (more range) 0 ≡ false = ap (λ r. nat_eq (more r) 0) same ∙ some_page (more given) some in
        let had : nat_eq (page range) 0 ≡ true = ap (λ r. nat_eq (page r) 0) same ∙ ap (λ p. nat_eq p 0) none in
        ap (λ b. cond b (pages_below more range) (suc (pages_below more range))) gets
        ∙ (ap suc (before (omega (arith, same))) ∙ ap (λ b. suc (cond b (pages_below page range) (suc (pages_below page range)))) (sym had))
    by behind before false t =
        let other : range ≢ given = λ same. absurd (true≢false (sym ((Decides-eqb range given).1 same) ∙ t)) in
        ap (λ p. cond (nat_eq p 0) (pages_below more range) (suc (pages_below more range))) (others range other)
        ∙ step (nat_eq (page range) 0) _ _ (behind (last_or_before given range (omega (arith, h)) (apart t)))
      where
        apart : nat_eq range given ≡ false → nat_eq given range ≡ false
        apart t = by_same (nat_eq given range) refl where
          by_same : (b : Bool) → nat_eq given range ≡ b → b ≡ false
          by_same true e = absurd (true≢false (sym ((Decides-eqb range given).1 (sym ((Decides-eqb given range).0 e))) ∙ t))
          by_same false e = refl

none_below : (count : ℕ) → pages_below (page_at []) count ≡ 0
unfolding pages_below
none_below zero = refl
none_below (suc range) = none_below range

-- no slots are no pages
pub no_pages : ArePages [] 0
no_pages =
    let none = none_below 8704 in
    record { whole = omega (arith, none); within = λ range. omega arith; apart = λ one other e some. absurd (omega (arith, some)) }

-- so the next page has a small number
pub number_fits : (pages : List ℕ) (size : ℕ) → ArePages pages size → size / 128 + 1 < 65536
number_fits pages size are =
    let whole = are.whole in
    let few = pages_few (page_at pages) 8704 in
    omega (arith, whole, few)

no_page : (page low : ℕ) → None ≡ place_in page low → page ≡ 0
no_page page low e = by (nat_eq page 0) refl e where
  by : (b : Bool) → nat_eq page 0 ≡ b → None ≡ cond b None (Some ((page - 1) * 128 + low)) → page ≡ 0
  by true t e = (Decides-eqb page 0).0 t
  by false t e = none_is_not _ e

-- a place in a page that is there
place_there : (page low : ℕ) → 0 < page → place_in page low ≡ Some ((page - 1) * 128 + low)
place_there page low h = ap (λ b. cond b None (Some ((page - 1) * 128 + low))) (some_page page h)

-- A range that had no page is given the next one, with free slots.

module _ (pages grown : List ℕ) (size c : ℕ) (small : c < 1114112) (are : ArePages pages size) (same : (range : ℕ) → page_at grown range ≡ page_at pages range) (within : c / 128 < length grown)
    (none : None ≡ place_of pages c) where
  abbrev given : List ℕ
  given = slice_set grown (c / 128) (size / 128 + 1)

  here : (range : ℕ) → nat_eq range (c / 128) ≡ true → page_at given range ≡ size / 128 + 1
  here range t = ap (page_at given) ((Decides-eqb range (c / 128)).0 t) ∙ get_or-set_same grown (c / 128) (size / 128 + 1) 0 within

  elsewhere : (range : ℕ) → range ≢ c / 128 → page_at given range ≡ page_at pages range
  elsewhere range other = get_or-set_other grown (c / 128) range (size / 128 + 1) 0 other ∙ same range

  apart_from : (range : ℕ) → nat_eq range (c / 128) ≡ false → range ≢ c / 128
  apart_from range t e = absurd (true≢false (sym ((Decides-eqb range (c / 128)).1 e) ∙ t))

  one_more : size + 128 ≡ 128 * pages_below (page_at given) 8704
  one_more =
      let whole = are.whole in
      let now : page_at given (c / 128) ≡ size / 128 + 1 = here (c / 128) (itself (c / 128)) in
      let more = pages_more (page_at pages) (page_at given) (c / 128) (no_page _ _ none) (omega (arith, now)) elsewhere 8704 (omega (arith, small)) in
      omega (arith, whole, more)

  all_within : (range : ℕ) → page_at given range * 128 ≤ size + 128
  all_within range = by (nat_eq range (c / 128)) refl where
    by : (b : Bool) → nat_eq range (c / 128) ≡ b → page_at given range * 128 ≤ size + 128
    by true t = let now = here range t in omega (arith, now)
    by false t =
        let before = elsewhere range (apart_from range t) in
        let most = are.within range in
        omega (arith, before, most)

  all_apart : (one other : ℕ) → page_at given one ≡ page_at given other → 0 < page_at given one → one ≡ other
  all_apart one other e some = by (nat_eq one (c / 128)) (nat_eq other (c / 128)) refl refl where
    by : (a b : Bool) → nat_eq one (c / 128) ≡ a → nat_eq other (c / 128) ≡ b → one ≡ other
    by true true t u = (Decides-eqb one (c / 128)).0 t ∙ sym ((Decides-eqb other (c / 128)).0 u)
    by true false t u =
        let now = here one t in
        let before = elsewhere other (apart_from other u) in
        let most = are.within other in
        absurd (omega (arith, e, now, before, most))
    by false true t u =
        let now = here other u in
        let before = elsewhere one (apart_from one t) in
        let most = are.within one in
        absurd (omega (arith, e, now, before, most))
    by false false t u =
        let before = elsewhere one (apart_from one t) in
        let after = elsewhere other (apart_from other u) in
        are.apart one other (omega (arith, e, before, after)) (omega (arith, some, before))

  pub given_pages : ArePages given (size + 128)
  given_pages = record { whole = one_more; within = all_within; apart = all_apart }

  -- and each code point has the slot that it had
  pub given_slots : {Slot : Type 0} (free : Slot) (slots more : List Slot) → length slots ≡ size → ((place : ℕ) → slice_index_or more place free ≡ slice_index_or slots place free) → (other : ℕ)
      → slot_of free given more other ≡ slot_of free pages slots other
  given_slots {Slot} free slots more all alike other = by (nat_eq (other / 128) (c / 128)) refl where
    there : (p : Option ℕ) → slot_there free more p ≡ slot_there free slots p
    there None = refl
    there (Some place) = alike place

    by : (b : Bool) → nat_eq (other / 128) (c / 128) ≡ b → slot_of free given more other ≡ slot_of free pages slots other
    by true t =
        let now : page_at given (other / 128) ≡ size / 128 + 1 = here (other / 128) t in
        let had : page_at pages (other / 128) ≡ 0 = ap (page_at pages) ((Decides-eqb (other / 128) (c / 128)).0 t) ∙ no_page _ _ none in
        let whole = are.whole in
        let past : length slots ≤ (page_at given (other / 128) - 1) * 128 + other % 128 = omega (arith, now, whole, all) in
        ap (slot_there free more) (place_there (page_at given (other / 128)) (other % 128) (omega (arith, now)))
        ∙ (alike _ ∙ (get_or_past slots _ free past ∙ sym (ap (λ page. slot_there free slots (place_in page (other % 128))) had)))
    by false t =
        ap (λ page. slot_there free more (place_in page (other % 128))) (elsewhere (other / 128) (apart_from (other / 128) t)) ∙ there (place_of pages other)

some_is : (one other : ℕ) → Some one ≡ Some other → one ≡ other
some_is one other e = ap (λ o. option_map_or (λ n. n) o one) e

-- a place in a page is behind the slots of all pages before
pub in_page : (page low place : ℕ) → place_in page low ≡ Some place → (0 < page) × (place ≡ (page - 1) * 128 + low)
in_page page low place e = by (nat_eq page 0) refl e where
  by : (b : Bool) → nat_eq page 0 ≡ b → cond b None (Some ((page - 1) * 128 + low)) ≡ Some place → (0 < page) × (place ≡ (page - 1) * 128 + low)
  by true t e = none_is_not place e
  by false t e = (positive page t, sym (some_is _ _ e)) where
    positive : (n : ℕ) → nat_eq n 0 ≡ false → 0 < n
    positive zero t = absurd (true≢false t)
    positive (suc n) t = omega arith

module _ (pages : List ℕ) (size : ℕ) (are : ArePages pages size) where
  -- a place is that of a slot
  pub place_within : (c place : ℕ) → place_of pages c ≡ Some place → place < size
  place_within c place at =
      let page = in_page _ _ _ at in
      let most = are.within (c / 128) in
      omega (arith, page.0, page.1, most)

  -- and of one code point alone
  pub place_alone : (c other place : ℕ) → place_of pages c ≡ Some place → place_of pages other ≡ Some place → c ≡ other
  place_alone c other place at there =
      let one = in_page _ _ _ at in
      let two = in_page _ _ _ there in
      let pages_same : page_at pages (c / 128) ≡ page_at pages (other / 128) = omega (arith, one.0, one.1, two.0, two.1) in
      let range = are.apart (c / 128) (other / 128) pages_same one.0 in
      omega (arith, one.1, two.1, pages_same, range)

module _ {Slot : Type 0} (free : Slot) (pages : List ℕ) (slots : List Slot) (are : ArePages pages (length slots)) (c place : ℕ) (at : place_of pages c ≡ Some place) where
  -- the slot that is read at the place of a code point is its slot
  pub slot_read : (slot : Slot) → slot ≡ slice_index_or slots place slot → slot ≡ slot_of free pages slots c
  slot_read slot read = get_or_read slots place slot (place_within pages (length slots) are c place at) read free ∙ sym (ap (slot_there free slots) at)

  -- a slot that is written there is its slot, and all others have theirs
  pub slot_written : (slot : Slot) (other : ℕ) → slot_of free pages (slice_set slots place slot) other ≡ cond (nat_eq other c) slot (slot_of free pages slots other)
  slot_written slot other = by (place_of pages other) (nat_eq other c) refl refl where
    by : (p : Option ℕ) (b : Bool) → place_of pages other ≡ p → nat_eq other c ≡ b → option_map_or (λ k. slice_index_or (slice_set slots place slot) k free) p free
        ≡ cond b slot (option_map_or (λ k. slice_index_or slots k free) p free)
    by None true there t = none_is_not place (sym there ∙ (ap (place_of pages) ((Decides-eqb other c).0 t) ∙ at))
    by None false there t = refl
    by (Some p) true there t =
        let same : p ≡ place = some_is _ _ (sym there ∙ (ap (place_of pages) ((Decides-eqb other c).0 t) ∙ at)) in
        ap (λ n. slice_index_or (slice_set slots place slot) n free) same ∙ get_or-set_same slots place slot free (place_within pages (length slots) are c place at)
    by (Some p) false there t =
        get_or-set_other slots place p slot free
        (λ same. absurd (true≢false (sym ((Decides-eqb other c).1 (sym (place_alone pages (length slots) are c other place at (there ∙ ap Some same)))) ∙ t)))
