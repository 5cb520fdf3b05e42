-- Words that are sorted by what they are sorted by first, and then run by run, are sorted.
use Rattle.std.proofs.Common.{◌≡◌, ℕ, ◌+◌, ◌-◌, ◌<◌, ◌≤◌, Bool, true, false, not, ◌&&◌, cond, List, [], ◌∷◌, ◌++◌, length, take, drop, get_or, map, All, ⊎_elim, Ordering, Less, Equal, Greater}
use Rattle.std.proofs.Common.{refl, sym, ap, ap₂, subst, ◌∙◌, arith, true≢false, length-append}
use Rattle.std.specs.Cmp.{IsStrictWeakOrder}
use Rattle.std.specs.List.{filter}
use Rattle.std.specs.List.Sorted.{IsPermutation, IsSorted, IsSortedBy, ties}
use Rattle.std.specs.Ordering.{is_lt, ordering_then}
use Rattle.std.proofs.lemmas.Bool.{cases_lt}
use Rattle.std.proofs.lemmas.Cmp.{nat_list_cmp_total}
use Rattle.std.proofs.lemmas.List.{length-map, length-take, length-drop, length-take-le, get_or-take, get_or-drop, get_or-map, get_or_default, get_or_append_left, get_or-append_right, map-append, take_all, take-take, take-append-drop, drop-take, drop-drop}
use Rattle.std.proofs.lemmas.List.Elements.{All-nil, All-map, All-take, All-drop}
use Rattle.std.proofs.lemmas.List.Sorted.{All-permutation, IsPermutation-map, IsPermutation-trans, IsPermutation-append, IsPermutation-refl, length_permutation, ranks_by, sorted_far}
use Rattle.std.proofs.lemmas.Slice.{take-put_mid, drop-put_mid}
use borrow.Rule.Slice.PartMut.{put_mid, mid_of}
use Rattle.coll_elements.proofs.Tests.{by_test}
use Rattle.coll_nodes.specs.Table.{Collation}
use Rattle.coll_nodes.specs.WellFormed.{IsWellFormed}
use Rattle.coll_key.specs.SortKey.{key_of}
use Rattle.coll_key.specs.TextOrder.{list_order, order_of}
use Rattle.coll_key.proofs.KeyOrder.{keys_in_order, All-first, All-others}
use Rattle.coll_words.specs.FirstKeys.{packed_first_key}
use Rattle.coll_word_lists.specs.KeyedWords.{KeyedWord, AreSortedByKeys, has_less_key, texts_of}
use Rattle.coll_words.specs.LentWords.{AreDigits, IsLedFirst}
use Rattle.coll_word_lists.specs.SortedWords.{AreSorted}
use Rattle.coll_words.specs.TiedWords.{AreAlike, EndsRun}
use Rattle.coll_words.proofs.FirstLemmas.{first_decides}
use Rattle.coll_words.proofs.KeyLeadLemmas.{lead_less}
use Rattle.coll_words.proofs.LentLemmas.{less_behind}
use Rattle.coll_words.proofs.MemberLemmas.{stable_by_members}

-- What passes tests.

module _ {X : Type 0} (p q : X → Bool) where
  step_both : (x : X) (xs : List X) (b c : Bool) → p x ≡ b → (b ≡ true → c ≡ true) → filter p xs ≡ filter p (filter q xs)
      → cond b (x ∷ filter p xs) (filter p xs) ≡ filter p (cond c (x ∷ filter q xs) (filter q xs))
  step_both x xs true true is both same =
      ap (λ (l : List X). x ∷ l) same ∙ sym (ap (λ (t : Bool). cond t (x ∷ filter p (filter q xs)) (filter p (filter q xs))) is)
  step_both x xs true false is both same = absurd (true≢false (sym (both refl)))
  step_both x xs false true is both same = same ∙ sym (ap (λ (t : Bool). cond t (x ∷ filter p (filter q xs)) (filter p (filter q xs))) is)
  step_both x xs false false is both same = same

  -- what passes a test passes it behind a weaker one
  filter_both : (xs : List X) → All (λ (x : X). p x ≡ true → q x ≡ true) xs → filter p xs ≡ filter p (filter q xs)
  filter_both [] all = refl
  filter_both (x ∷ xs) all =
      step_both x xs (p x) (q x) refl (All-first (λ (x : X). p x ≡ true → q x ≡ true) x xs all) (filter_both xs (All-others (λ (x : X). p x ≡ true → q x ≡ true) x xs all))

-- a test of what a function gives
step_map : {X Y : Type 0} (f : X → Y) (x : X) (us : List X) (vs : List Y) (b : Bool) → vs ≡ map f us → cond b (f x ∷ vs) vs ≡ map f (cond b (x ∷ us) us)
step_map {X} {Y} f x us vs true same = ap (λ (l : List Y). f x ∷ l) same
step_map f x us vs false same = same

filter_map : {X Y : Type 0} (p : Y → Bool) (f : X → Y) (xs : List X) → filter p (map f xs) ≡ map f (filter (λ (x : X). p (f x)) xs)
filter_map p f [] = refl
filter_map {X} p f (x ∷ xs) = step_map f x (filter (λ (x : X). p (f x)) xs) (filter p (map f xs)) (p (f x)) (filter_map p f xs)

-- the two parts of a list
step_append : {X : Type 0} (x : X) (us vs ws : List X) (b : Bool) → us ≡ vs ++ ws → cond b (x ∷ us) us ≡ cond b (x ∷ vs) vs ++ ws
step_append {X} x us vs ws true same = ap (λ (l : List X). x ∷ l) same
step_append x us vs ws false same = same

filter_append : {X : Type 0} (p : X → Bool) (xs ys : List X) → filter p (xs ++ ys) ≡ filter p xs ++ filter p ys
filter_append p [] ys = refl
filter_append p (x ∷ xs) ys = step_append x (filter p (xs ++ ys)) (filter p xs) (filter p ys) (p x) (filter_append p xs ys)

-- an order that decides for less
less_decides : (o s : Ordering) → ordering_then o s ≡ s → is_lt o ≡ true → is_lt s ≡ true
less_decides Less s h less = sym (ap is_lt h)
less_decides Equal s h less = absurd cc
less_decides Greater s h less = absurd cc

-- neither of two is less
none_less : (b c : Bool) → b ≡ false → c ≡ false → (not b && not c) ≡ true
none_less b c off other_off = ap₂ (λ (b c : Bool). not b && not c) off other_off

first_not_less : (b c : Bool) → (not b && not c) ≡ true → b ≡ false
first_not_less true c h = absurd cc
first_not_less false c h = refl

other_not_less : (b c : Bool) → (not b && not c) ≡ true → c ≡ false
other_not_less true c h = absurd cc
other_not_less false true h = absurd cc
other_not_less false false h = refl

-- the first so many of a list, and some more
take_on : {X : Type 0} (start k : ℕ) (xs : List X) → take (start + k) xs ≡ take start xs ++ take k (drop start xs)
take_on start k xs =
    sym (take-append-drop start (take (start + k) xs))
    ∙ ap₂ (λ before behind. before ++ behind) (take-take start (start + k) xs (omega arith)) (drop-take start k xs)

-- Runs.

-- keys of words have an order
words_order : IsStrictWeakOrder has_less_key
words_order = ranks_by nat_list_cmp_total (λ (word : KeyedWord). word.key)

-- each key before a place is less than each behind it
abbrev AreApartAt : List KeyedWord → (place : ℕ) → Type 0
AreApartAt words place = All (λ (word : KeyedWord). All (λ (other : KeyedWord). has_less_key word other ≡ true) (drop place words)) (take place words)

-- where two neighbours differ all do
apart_from : (first : List KeyedWord) → IsSortedBy has_less_key first → (last : ℕ) (d : KeyedWord) → last + 1 < length first → has_less_key (get_or first last d) (get_or first (last + 1) d) ≡ true
    → (i j : ℕ) → i ≤ last → last + 1 ≤ j → j < length first → has_less_key (get_or first i d) (get_or first j d) ≡ true
apart_from first sorted last d within less i j low high all =
    let a = get_or first last d in
    let b = get_or first (last + 1) d in
    let x = get_or first i d in
    let y = get_or first j d in
    let far : has_less_key a x ≡ false = sorted_far has_less_key words_order first sorted i last d low (omega (arith, within)) in
    let far_behind : has_less_key y b ≡ false = sorted_far has_less_key words_order first sorted (last + 1) j d high all in
    by_test (λ t. t ≡ true) (has_less_key x y) (λ on. refl)
    (λ off. sym (words_order.chain a y b (words_order.chain a x y far off) far_behind) ∙ less)

-- what holds before the run at a place
pub record IsSortedTo (table : Collation) (first words : List KeyedWord) (place : ℕ) : Type 0 where
  pub within : place ≤ length first
  pub long : length words ≡ length first
  pub left : drop place words ≡ drop place first
  pub done : AreSorted table (texts_of (take place first)) (texts_of (take place words))
  pub apart : AreApartAt first place

-- neighbours with the same text
pub neighbours_alike : (words : List KeyedWord) (place : ℕ) (first second : KeyedWord) → 0 < place → place < length words → first ≡ get_or words (place - 1) first
    → second ≡ get_or words place second → first.text ≡ second.text → (d : List ℕ) → get_or (texts_of words) (place - 1) d ≡ get_or (texts_of words) place d
neighbours_alike words place first second above within first_is second_is same d =
    let text = λ (word : KeyedWord). word.text in
    get_or-map text words (place - 1) first d (omega (arith, within))
    ∙ sym (ap text first_is)
    ∙ same
    ∙ ap text second_is
    ∙ sym (get_or-map text words place second d within)

module _ (table : Collation) (well : IsWellFormed table) where
  -- a text is less
  abbrev is_less : List ℕ → List ℕ → Bool
  is_less text other = is_lt (order_of table text other)

  abbrev less_by_keys : List ℕ → List ℕ → Bool
  less_by_keys text other = is_lt (list_order (key_of table text) (key_of table other))

  by_keys : (text other : List ℕ) → is_less text other ≡ less_by_keys text other
  by_keys text other = sym (ap is_lt (keys_in_order table well text other))

  keys_order : IsStrictWeakOrder less_by_keys
  keys_order = ranks_by nat_list_cmp_total (key_of table)

  one_way : (text other : List ℕ) → is_less text other ≡ true → is_less other text ≡ false
  one_way text other less = by_keys other text ∙ keys_order.one_way text other (sym (by_keys text other) ∙ less)

  not_itself : (text : List ℕ) → is_less text text ≡ false
  not_itself text = by_test (λ b. b ≡ false) (is_less text text) (λ on. sym on ∙ one_way text text on) (λ off. refl)

  -- words that are all the same are sorted
  pub alike_sorted : (words : List (List ℕ)) → AreAlike words → AreSorted table words words
  alike_sorted words alike = record {
    same = IsPermutation-refl words;
    ordered = λ k d low within. ap (λ (text : List ℕ). is_less (get_or words (k + 1) d) text) (alike k d within) ∙ not_itself (get_or words (k + 1) d);
    stable = λ text. refl;
  }

  -- Sorted words beside sorted words.

  module _ (before before_now behind behind_now : List (List ℕ)) (sorted : AreSorted table before before_now) (other_sorted : AreSorted table behind behind_now)
      (apart : All (λ (text : List ℕ). All (λ (other : List ℕ). is_less text other ≡ true) behind) before) where
    apart_now : All (λ (text : List ℕ). All (λ (other : List ℕ). is_less text other ≡ true) behind_now) before_now
    apart_now =
        All-permutation (λ (text : List ℕ). All (λ (other : List ℕ). is_less text other ≡ true) behind_now) before before_now sorted.same
        (λ k d low. All-permutation (λ (other : List ℕ). is_less (get_or before k d) other ≡ true) behind behind_now other_sorted.same (apart k d low))

    ordered_beside : IsSorted (order_of table) (before_now ++ behind_now)
    ordered_beside k d low high =
        let n = length before_now in
        let all = length-append before_now behind_now in
        ⊎_elim
        (λ (within : k + 1 < n).
        ap₂ is_less (get_or_append_left before_now behind_now d (k + 1) within) (get_or_append_left before_now behind_now d k (omega (arith, within)))
        ∙ sorted.ordered k d low within)
        (λ (last : n ≤ k + 1).
        let second = get_or-append_right before_now behind_now n (k + 1) d refl last in
        ⊎_elim
        (λ (within : k < n).
        ap₂ is_less second (get_or_append_left before_now behind_now d k within)
        ∙ one_way (get_or before_now k d) (get_or behind_now (k + 1 - n) d) (apart_now k d within (k + 1 - n) d (omega (arith, high, all, last))))
        (λ (past : n ≤ k).
        let on : k + 1 - n ≡ k - n + 1 = omega (arith, past) in
        ap₂ is_less (second ∙ ap (λ (i : ℕ). get_or behind_now i d) on) (get_or-append_right before_now behind_now n k d refl past)
        ∙ other_sorted.ordered (k - n) d (omega arith) (omega (arith, high, all, past)))
        (cases_lt k n))
        (cases_lt (k + 1) n)

    pub sorted_beside : AreSorted table (before ++ behind) (before_now ++ behind_now)
    sorted_beside = record {
      same = IsPermutation-append before before_now behind behind_now sorted.same other_sorted.same;
      ordered = ordered_beside;
      stable = λ text.
          filter_append (ties is_less text) before_now behind_now
          ∙ ap₂ (λ (xs ys : List (List ℕ)). xs ++ ys) (sorted.stable text) (other_sorted.stable text)
          ∙ sym (filter_append (ties is_less text) before behind);
    }

  -- texts have an order
  less_order : IsStrictWeakOrder is_less
  less_order = record {
    one_way = one_way;
    chain = λ text other third not_less not_less_behind.
        by_keys text third ∙ keys_order.chain text other third (sym (by_keys text other) ∙ not_less) (sym (by_keys other third) ∙ not_less_behind);
  }

  -- Run by run.

  -- before the first run
  pub sorted_none : (first : List KeyedWord) → IsSortedTo table first first 0
  sorted_none first = record {
    within = omega arith;
    long = refl;
    left = refl;
    done = alike_sorted [] (λ k d high. absurd (omega (arith, high)));
    apart = All-nil (λ (word : KeyedWord). All (λ (other : KeyedWord). has_less_key word other ≡ true) (drop 0 first));
  }

  -- behind the last one
  pub sorted_all : (first words : List KeyedWord) (place : ℕ) → IsSortedTo table first words place → length words ≤ place → AreSorted table (texts_of first) (texts_of words)
  sorted_all first words place to past =
      subst (λ (old : List KeyedWord). AreSorted table (texts_of old) (texts_of words)) (take_all place first (omega (arith, past, to.long)))
      (subst (λ (now : List KeyedWord). AreSorted table (texts_of (take place first)) (texts_of now)) (take_all place words past) to.done)

  -- Words with what they are sorted by first, behind its lead.

  module _ (numbers : List ℕ) (base room : ℕ) (digits : AreDigits numbers base) where
    abbrev IsFirst : KeyedWord → Type 0
    IsFirst word = IsLedFirst table numbers base room word

    -- a word with a lesser key is less
    first_less : (word other : KeyedWord) → IsFirst word → IsFirst other → has_less_key word other ≡ true → is_less word.text other.text ≡ true
    first_less word other is other_is less =
        let key = packed_first_key table word.text in
        let other_key = packed_first_key table other.text in
        less_decides (list_order key other_key) (order_of table word.text other.text) (first_decides table well word.text other.text)
        (less_behind is.lead other_is.lead key other_key (λ low. lead_less numbers base digits.rising digits.less room 0 key other_key is.lead other_is.lead is.leads other_is.leads low)
        (sym (ap₂ (λ (led other_led : List ℕ). is_lt (list_order led other_led)) is.is other_is.is) ∙ less))

    -- so words that tie have keys that tie
    ties_first : (word other : KeyedWord) → IsFirst word → IsFirst other → ties is_less word.text other.text ≡ true → ties has_less_key word other ≡ true
    ties_first word other is other_is tie =
        none_less (has_less_key word other) (has_less_key other word)
        (by_test (λ b. b ≡ false) (has_less_key word other)
        (λ on. sym (first_less word other is other_is on) ∙ first_not_less (is_less word.text other.text) (is_less other.text word.text) tie)
        (λ off. refl))
        (by_test (λ b. b ≡ false) (has_less_key other word)
        (λ on. sym (first_less other word other_is is on) ∙ other_not_less (is_less word.text other.text) (is_less other.text word.text) tie)
        (λ off. refl))

    -- a word ties with words among those whose keys tie with its own
    tied_among : (word : KeyedWord) → IsFirst word → (words : List KeyedWord) → All IsFirst words
        → filter (ties is_less word.text) (texts_of words) ≡ texts_of (filter (λ (other : KeyedWord). ties is_less word.text other.text) (filter (ties has_less_key word) words))
    tied_among word is words all =
        filter_map (ties is_less word.text) (λ (other : KeyedWord). other.text) words
        ∙ ap texts_of
        (filter_both (λ (other : KeyedWord). ties is_less word.text other.text) (ties has_less_key word) words
        (λ k d low tie. ties_first word (get_or words k d) is (all k d low) tie))

    module _ (old first : List KeyedWord) (all : All IsFirst old) (sorted : AreSortedByKeys old first) where
      -- what ties with a word stays in its order
      tied_alike : (word : KeyedWord) → IsFirst word → filter (ties is_less word.text) (texts_of first) ≡ filter (ties is_less word.text) (texts_of old)
      tied_alike word is =
          tied_among word is first (All-permutation IsFirst old first sorted.same all)
          ∙ ap (λ (words : List KeyedWord). texts_of (filter (λ (other : KeyedWord). ties is_less word.text other.text) words)) (sorted.stable word)
          ∙ sym (tied_among word is old all)

      moved_texts : IsPermutation (texts_of old) (texts_of first)
      moved_texts = IsPermutation-map (λ (word : KeyedWord). word.text) old first sorted.same

      -- so words that were sorted by their keys, and then by the table, are sorted
      pub sorted_through : (final : List (List ℕ)) → AreSorted table (texts_of first) final → AreSorted table (texts_of old) final
      sorted_through final after = record {
        same = IsPermutation-trans (texts_of old) (texts_of first) final moved_texts after.same;
        ordered = after.ordered;
        stable = λ text.
            after.stable text
            ∙ stable_by_members is_less less_order (texts_of old) (texts_of first) moved_texts
            (All-map (λ (text : List ℕ). filter (ties is_less text) (texts_of first) ≡ filter (ties is_less text) (texts_of old)) (λ (word : KeyedWord). word.text) old
            (λ k d low. tied_alike (get_or old k d) (all k d low)))
            text;
      }

    -- behind one run more
    module _ (first words : List KeyedWord) (start end : ℕ) (all : All IsFirst first) (sorted : IsSortedBy has_less_key first) (to : IsSortedTo table first words start) (on : start < end)
        (within : end ≤ length words) (ends : EndsRun words end) (run_now : List KeyedWord)
        (run_sorted : AreSorted table (texts_of (mid_of start (end - start) words)) (texts_of run_now)) where
      abbrev run : List KeyedWord
      run = take (end - start) (drop start first)

      run_is : mid_of start (end - start) words ≡ run
      run_is = ap (take (end - start)) to.left

      length_run : length run ≡ end - start
      length_run = length-take-le (end - start) (drop start first) (omega (arith, within, to.long, length-drop start first))

      length_run_now : length run_now ≡ end - start
      length_run_now =
          sym (length-map run_now (λ (word : KeyedWord). word.text))
          ∙ length_permutation (texts_of (mid_of start (end - start) words)) (texts_of run_now) run_sorted.same
          ∙ length-map (mid_of start (end - start) words) (λ (word : KeyedWord). word.text)
          ∙ ap length run_is
          ∙ length_run

      abbrev words_now : List KeyedWord
      words_now = put_mid start (end - start) words run_now

      start_within : start ≤ length words
      start_within = omega (arith, on, within)

      taken_now : take end words_now ≡ take start words ++ run_now
      taken_now = take-put_mid start (end - start) words run_now end (omega (arith, length_run_now, on)) start_within

      taken_first : take end first ≡ take start first ++ run
      taken_first =
          let whole : end ≡ start + (end - start) = omega (arith, on) in
          ap (λ (n : ℕ). take n first) whole ∙ take_on start (end - start) first

      left_now : drop end words_now ≡ drop end first
      left_now =
          drop-put_mid start (end - start) words run_now end (omega (arith, on)) start_within length_run_now
          ∙ left_on words first to.left
        where
          left_on : (xs ys : List KeyedWord) → drop start xs ≡ drop start ys → drop end xs ≡ drop end ys
          left_on xs ys same =
              let whole : start + (end - start) ≡ end = omega (arith, on) in
              ap (λ (n : ℕ). drop n xs) (sym whole)
              ∙ sym (drop-drop (end - start) start xs)
              ∙ ap (drop (end - start)) same
              ∙ drop-drop (end - start) start ys
              ∙ ap (λ (n : ℕ). drop n ys) whole

      texts_apart : All (λ (text : List ℕ). All (λ (other : List ℕ). is_less text other ≡ true) (texts_of run)) (texts_of (take start first))
      texts_apart =
          All-map (λ (text : List ℕ). All (λ (other : List ℕ). is_less text other ≡ true) (texts_of run)) (λ (word : KeyedWord). word.text) (take start first)
          (λ k d low.
          let word = get_or (take start first) k d in
          All-map (λ (other : List ℕ). is_less word.text other ≡ true) (λ (other : KeyedWord). other.text) run
          (λ j e high.
          first_less word (get_or run j e) (All-take IsFirst start first all k d low) (All-take IsFirst (end - start) (drop start first) (All-drop IsFirst start first all) j e high)
          (All-take (λ (other : KeyedWord). has_less_key word other ≡ true) (end - start) (drop start first) (to.apart k d low) j e high)))

      done_now : AreSorted table (texts_of (take end first)) (texts_of (take end words_now))
      done_now =
          let text = λ (word : KeyedWord). word.text in
          subst (λ (old : List (List ℕ)). AreSorted table old (texts_of (take end words_now))) (sym (ap texts_of taken_first ∙ map-append text (take start first) run))
          (subst (λ (now : List (List ℕ)). AreSorted table (texts_of (take start first) ++ texts_of run) now) (sym (ap texts_of taken_now ∙ map-append text (take start words) run_now))
          (sorted_beside (texts_of (take start first)) (texts_of (take start words)) (texts_of run) (texts_of run_now) to.done
          (subst (λ (old : List KeyedWord). AreSorted table (texts_of old) (texts_of run_now)) run_is run_sorted) texts_apart))

      -- a word that isn't reached yet
      same_at : (i : ℕ) (d : KeyedWord) → start ≤ i → get_or words i d ≡ get_or first i d
      same_at i d low =
          let whole : start + (i - start) ≡ i = omega (arith, low) in
          ap (λ (n : ℕ). get_or words n d) (sym whole)
          ∙ sym (get_or-drop start words (i - start) d)
          ∙ ap (λ (left : List KeyedWord). get_or left (i - start) d) to.left
          ∙ get_or-drop start first (i - start) d
          ∙ ap (λ (n : ℕ). get_or first n d) whole

      apart_now_at : AreApartAt first end
      apart_now_at k d low j e high =
          let count = length-drop end first in
          let before : k < end = omega (arith, low, length-take end first) in
          let here : end + j < length first = omega (arith, high, count) in
          ⊎_elim
          (λ (last : end ≡ length words). absurd (omega (arith, last, to.long, here)))
          (λ (less : (d : KeyedWord) → has_less_key (get_or words (end - 1) d) (get_or words end d) ≡ true).
          let behind : end - 1 + 1 ≡ end = omega (arith, on) in
          let differ : has_less_key (get_or first (end - 1) d) (get_or first (end - 1 + 1) d) ≡ true =
          ap₂ has_less_key (sym (same_at (end - 1) d (omega (arith, on)))) (ap (λ (n : ℕ). get_or first n d) behind ∙ sym (same_at end d (omega (arith, on)))) ∙ less d in
          ap₂ has_less_key (get_or-take end first k d before) (get_or-drop end first j e ∙ get_or_default first (end + j) e d here)
          ∙ apart_from first sorted (end - 1) d (omega (arith, behind, here)) differ k (end + j) (omega (arith, before)) (omega (arith, behind)) here)
          ends

      pub sorted_on : IsSortedTo table first words_now end
      sorted_on = record {
        within = omega (arith, within, to.long);
        long = omega (
          arith,
          to.long,
          on,
          within,
          length_run_now,
          length-append (take start words) (run_now ++ drop (end - start) (drop start words)),
          length-append run_now (drop (end - start) (drop start words)),
          length-take-le start words start_within,
          length-drop (end - start) (drop start words),
          length-drop start words,
        );
        left = left_now;
        done = done_now;
        apart = apart_now_at;
      }
