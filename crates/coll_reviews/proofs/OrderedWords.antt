-- Words that stand in order, taken apart and put together.
use Rattle.std.proofs.Common.{◌≡◌, ℕ, zero, suc, ◌+◌, ◌-◌, ◌<◌, ◌≤◌, Bool, true, false, List, [], ◌∷◌, ◌++◌, length, get_or, reverse, refl, sym, ap, subst, ◌∙◌, arith, append_assoc, append-nil}
use Rattle.std.specs.List.Sorted.{IsPermutation}
use Rattle.std.specs.Cmp.{IsTotalOrder}
use Rattle.std.specs.Ordering.{is_lt, nat_cmp, ordering_reverse, ordering_then}
use Rattle.std.specs.declared.cmp.Ordering.{Ordering}
use Rattle.std.specs.declared.cmp.Ordering.TheVariants.{Less, Equal, Greater}
use Rattle.std.proofs.lemmas.Cmp.{nat_cmp_total, nat_list_cmp_total, on_total, then_total}
use Rattle.std.proofs.lemmas.List.{length-append, reverse-append, reverse-reverse}
use Rattle.std.proofs.lemmas.List.Sorted.{IsPermutation-refl, IsPermutation-sym, IsPermutation-trans, IsPermutation-middle, IsPermutation-to_front, IsPermutation-reverse}
use Rattle.std.proofs.lemmas.List.Sorted.{IsPermutation-append_right, IsPermutation-append_left, IsPermutation-append_comm}
use Rattle.coll_nodes.specs.Table.{Collation}
use Rattle.coll_nodes.specs.WellFormed.{IsWellFormed}
use Rattle.coll_key.specs.SortKey.{key_of}
use Rattle.coll_key.specs.TextOrder.{list_order}
use Rattle.coll_key.proofs.KeyOrder.{keys_in_order}
use Rattle.coll_key.specs.declared.key_faults.KeyFault.{KeyFault}
use Rattle.coll_reviews.specs.ListedWords.{all_numbered, numbered_of}
use Rattle.coll_word_lists.specs.Neighbours.{NumberedWord}
use Rattle.coll_word_lists.specs.NumberedWords.{line_order}
use Rattle.coll_reviews.specs.MovedWords.{StandInOrder, MayStandBefore, PartsAt, PutsBefore, PutsLast}
use Rattle.coll_reviews.specs.declared.listed_words.ListedWord.{ListedWord}
use Rattle.std.specs.Prelude.{OnOk, Result, Ok, Err}

-- In order, word by word.

module _ (table : Collation) where
  -- a word comes before another one
  abbrev pub before : ListedWord → ListedWord → Bool
  before listed other = is_lt (line_order table (numbered_of listed) (numbered_of other))

  -- no word comes before the one that it stands behind
  abbrev pub Ascends : List ListedWord → Type 0
  Ascends [] = Unit {0}
  Ascends (listed ∷ []) = Unit {0}
  Ascends (listed ∷ next ∷ list) = (before next listed ≡ false) × Ascends (next ∷ list)

  one_more : (listed next : ListedWord) (list : List ListedWord) → before next listed ≡ false → StandInOrder table (next ∷ list) → (k : ℕ) (d : NumberedWord)
      → k + 1 < length (all_numbered (listed ∷ next ∷ list))
      → is_lt (line_order table (get_or (all_numbered (listed ∷ next ∷ list)) (k + 1) d) (get_or (all_numbered (listed ∷ next ∷ list)) k d)) ≡ false
  one_more listed next list apart ordered zero d high = apart
  one_more listed next list apart ordered (suc k) d high =
      subst (λ (n : ℕ). is_lt (line_order table (get_or (all_numbered (listed ∷ next ∷ list)) n d) (get_or (all_numbered (next ∷ list)) k d)) ≡ false) (shifted k)
      (ordered k d (omega arith) (omega (arith, high)))
    where
      shifted : (k : ℕ) → suc (k + 1) ≡ suc k + 1
      shifted k = omega arith

  pub in_order : (list : List ListedWord) → Ascends list → StandInOrder table list
  in_order [] ascends = λ k d low high. absurd (omega (arith, high))
  in_order (listed ∷ []) ascends = λ k d low high. absurd (omega (arith, high))
  in_order (listed ∷ next ∷ list) ascends = λ k d low high. one_more listed next list ascends.0 (in_order (next ∷ list) ascends.1) k d high

  pub ascending : (list : List ListedWord) → StandInOrder table list → Ascends list
  ascending [] ordered = tt
  ascending (listed ∷ []) ordered = tt
  ascending (listed ∷ next ∷ list) ordered = (
    ordered 0 (numbered_of listed) (omega arith) (omega arith),
    ascending (next ∷ list) (λ k d low high.
        subst (λ (n : ℕ). is_lt (line_order table (get_or (all_numbered (listed ∷ next ∷ list)) n d) (get_or (all_numbered (next ∷ list)) k d)) ≡ false) (shifted k)
        (ordered (suc k) d (omega arith) (omega (arith, high)))),
  )
    where
      shifted : (k : ℕ) → suc k + 1 ≡ suc (k + 1)
      shifted k = omega arith

  -- a word before a list that it may stand before
  pub ascends_with : (listed : ListedWord) (list : List ListedWord) → MayStandBefore table listed list → Ascends list → Ascends (listed ∷ list)
  ascends_with listed [] may ascends = tt
  ascends_with listed (next ∷ list) may ascends = (may, ascends)

  -- what stands behind others is in order
  pub ascends_behind : (front : List ListedWord) (list : List ListedWord) → Ascends (front ++ list) → Ascends list
  ascends_behind [] list ascends = ascends
  ascends_behind (listed ∷ []) [] ascends = tt
  ascends_behind (listed ∷ []) (next ∷ list) ascends = ascends.1
  ascends_behind (listed ∷ next ∷ front) list ascends = ascends_behind (next ∷ front) list ascends.1

  -- a word goes behind a front, and before what else stands behind that
  pub ascends_between : (front : List ListedWord) (listed : ListedWord) (list other : List ListedWord) → Ascends (front ++ listed ∷ other) → Ascends (front ++ list) → MayStandBefore table listed list
      → Ascends (front ++ listed ∷ list)
  ascends_between [] listed list other fits ascends may = ascends_with listed list may ascends
  ascends_between (first ∷ []) listed list other fits ascends may = (fits.0, ascends_with listed list may (ascends_behind (first ∷ []) list ascends))
  ascends_between (first ∷ second ∷ front) listed list other fits ascends may = (fits.0, ascends_between (second ∷ front) listed list other fits.1 ascends.1 may)

-- Taken apart.

-- a word of a list goes to those that stay
pub one_stays : (all list kept moved : List ListedWord) (listed : ListedWord) → IsPermutation all ((list ++ listed ∷ []) ++ (kept ++ moved))
    → IsPermutation all (list ++ ((kept ++ listed ∷ []) ++ moved))
one_stays all list kept moved listed same =
    IsPermutation-trans _ _ _ same
    (subst (λ (l : List ListedWord). IsPermutation l (list ++ ((kept ++ listed ∷ []) ++ moved))) (sym (append_assoc list (listed ∷ []) (kept ++ moved)))
    (IsPermutation-append_right list _ _ (subst (IsPermutation (listed ∷ (kept ++ moved))) (sym (append_assoc kept (listed ∷ []) moved))
    (IsPermutation-sym _ _ (IsPermutation-middle kept listed moved)))))

-- or to those that move
pub one_moves : (all list kept moved : List ListedWord) (listed : ListedWord) → IsPermutation all ((list ++ listed ∷ []) ++ (kept ++ moved))
    → IsPermutation all (list ++ (kept ++ (moved ++ listed ∷ [])))
one_moves all list kept moved listed same =
    IsPermutation-trans _ _ _ same
    (subst (λ (l : List ListedWord). IsPermutation l (list ++ (kept ++ (moved ++ listed ∷ [])))) (sym (append_assoc list (listed ∷ []) (kept ++ moved)))
    (IsPermutation-append_right list _ _ (subst (IsPermutation (listed ∷ (kept ++ moved))) (append_assoc kept moved (listed ∷ []))
    (IsPermutation-sym _ _ (IsPermutation-to_front (kept ++ moved) listed)))))

pub reversed_with : (list : List ListedWord) (listed : ListedWord) → reverse (list ++ listed ∷ []) ≡ listed ∷ reverse list
reversed_with list listed = reverse-append list (listed ∷ [])

-- how far a list is taken apart
pub record ApartSoFar (table : Collation) (all list kept moved : List ListedWord) : Type 0 where
  pub same : IsPermutation all (list ++ (kept ++ moved))
  pub ordered : Ascends table (reverse kept)

module _ (table : Collation) (all now list kept moved : List ListedWord) (listed : ListedWord) (so_far : ApartSoFar table all now kept moved) (is : now ≡ list ++ listed ∷ []) where
  pub stays_so : (kept_now : List ListedWord) → kept_now ≡ kept ++ listed ∷ [] → MayStandBefore table listed (reverse kept) → ApartSoFar table all list kept_now moved
  stays_so kept_now kept_is may = record {
    same = subst (λ (k : List ListedWord). IsPermutation all (list ++ (k ++ moved))) (sym kept_is)
        (one_stays all list kept moved listed (subst (λ (l : List ListedWord). IsPermutation all (l ++ (kept ++ moved))) is so_far.same));
    ordered = subst (λ (k : List ListedWord). Ascends table (reverse k)) (sym kept_is)
        (subst (Ascends table) (sym (reversed_with kept listed)) (ascends_with table listed (reverse kept) may so_far.ordered));
  }

  pub moves_so : (moved_now : List ListedWord) → moved_now ≡ moved ++ listed ∷ [] → ApartSoFar table all list kept moved_now
  moves_so moved_now moved_is = record {
    same = subst (λ (m : List ListedWord). IsPermutation all (list ++ (kept ++ m))) (sym moved_is)
        (one_moves all list kept moved listed (subst (λ (l : List ListedWord). IsPermutation all (l ++ (kept ++ moved))) is so_far.same));
    ordered = so_far.ordered;
  }

-- at first nothing is taken
pub none_apart : (table : Collation) (all kept moved : List ListedWord) → kept ≡ [] → moved ≡ [] → ApartSoFar table all all kept moved
none_apart table all kept moved none none_moved = record {
  same = subst (λ (k : List ListedWord). IsPermutation all (all ++ (k ++ moved))) (sym none)
      (subst (λ (m : List ListedWord). IsPermutation all (all ++ m)) (sym none_moved) (subst (IsPermutation all) (sym (append-nil all)) (IsPermutation-refl all)));
  ordered = subst (λ (k : List ListedWord). Ascends table (reverse k)) (sym none) tt;
}

-- the last word is the same, however the list is taken apart
pub same_last : (list front left : List ListedWord) (listed other : ListedWord) → list ≡ front ++ listed ∷ [] → list ≡ left ++ other ∷ [] → listed ≡ other
same_last list front left listed other is other_is =
    ap (first_or listed) (sym (reversed_with front listed) ∙ ap reverse (sym is ∙ other_is) ∙ reversed_with left other)
  where
    first_or : ListedWord → List ListedWord → ListedWord
    first_or none [] = none
    first_or none (first ∷ others) = first

-- Put together.

module _ (table : Collation) where
  -- a word may stand behind others: it doesn't come before the last of them
  abbrev pub MayStandBehind : ListedWord → List ListedWord → Type 0
  MayStandBehind next [] = Unit {0}
  MayStandBehind next (listed ∷ []) = before table next listed ≡ false
  MayStandBehind next (listed ∷ second ∷ list) = MayStandBehind next (second ∷ list)

  behind_last : (next : ListedWord) (list : List ListedWord) (last : ListedWord) → before table next last ≡ false → MayStandBehind next (list ++ last ∷ [])
  behind_last next [] last apart = apart
  behind_last next (first ∷ []) last apart = apart
  behind_last next (first ∷ second ∷ list) last apart = behind_last next (second ∷ list) last apart

  -- words that stand behind a front go before another one, which may stand behind them
  ascends_through : (front taken rest : List ListedWord) (next : ListedWord) (later : List ListedWord) → Ascends table (front ++ (taken ++ rest)) → Ascends table (front ++ next ∷ later)
      → MayStandBehind next taken → Ascends table (front ++ (taken ++ next ∷ later))
  ascends_through [] [] rest next later ascends fits may = fits
  ascends_through [] (first ∷ []) rest next later ascends fits may = (may, fits)
  ascends_through [] (first ∷ second ∷ taken) rest next later ascends fits may = (ascends.0, ascends_through [] (second ∷ taken) rest next later ascends.1 fits may)
  ascends_through (first ∷ []) [] rest next later ascends fits may = fits
  ascends_through (first ∷ []) (second ∷ taken) rest next later ascends fits may = (ascends.0, ascends_through [] (second ∷ taken) rest next later ascends.1 fits.1 may)
  ascends_through (first ∷ second ∷ front) taken rest next later ascends fits may =
      (ascends.0, ascends_through (second ∷ front) taken rest next later ascends.1 fits.1 may)

-- words were put from the end of a list, and no fewer than so many are left
pub record PutsDownTo (left : ℕ) (put words put_now words_now : List ListedWord) : Type 0 where
  pub taken : List ListedWord
  pub put_is : put_now ≡ put ++ reverse taken
  pub words_are : words ≡ words_now ++ taken
  pub enough : left ≤ length words_now

pub none_down : (left : ℕ) (put words : List ListedWord) → left ≤ length words → PutsDownTo left put words put words
none_down left put words enough = record { taken = []; put_is = sym (append-nil put); words_are = sym (append-nil words); enough = enough }

pub down_one : (left : ℕ) (put words put_now words_now : List ListedWord) → PutsDownTo left put words put_now words_now → (next : ListedWord) (rest put_then : List ListedWord)
    → words_now ≡ rest ++ next ∷ [] → put_then ≡ put_now ++ next ∷ [] → left < length words_now → PutsDownTo left put words put_then rest
down_one left put words put_now words_now so_far next rest put_then rest_is put_is more = record {
  taken = next ∷ so_far.taken;
  put_is = put_is ∙ ap (λ (l : List ListedWord). l ++ next ∷ []) so_far.put_is ∙ append_assoc put (reverse so_far.taken) (next ∷ [])
      ∙ ap (λ (l : List ListedWord). put ++ l) (sym (reverse-append (next ∷ []) so_far.taken));
  words_are = so_far.words_are ∙ ap (λ (l : List ListedWord). l ++ so_far.taken) rest_is ∙ append_assoc rest (next ∷ []) so_far.taken;
  enough = omega (arith, more, ap length rest_is, length-append rest (next ∷ []));
}

pub down_to : (left : ℕ) (put words put_now words_now : List ListedWord) → PutsDownTo left put words put_now words_now → length words_now ≤ left → PutsLast left put words put_now words_now
down_to left put words put_now words_now so_far few = record {
  taken = so_far.taken;
  put_is = so_far.put_is;
  words_are = so_far.words_are;
  long = omega (arith, so_far.enough, few);
}

-- a member within a list, whatever stands for none
pub same_member : (list : List ListedWord) (n : ℕ) (d e : ListedWord) → n < length list → get_or list n d ≡ get_or list n e
same_member [] n d e within = absurd (omega (arith, within))
same_member (first ∷ list) zero d e within = refl
same_member (first ∷ list) (suc n) d e within = same_member list n d e (omega (arith, within))

-- a word that comes before another one
pub put_at : (table : Collation) (list : List ListedWord) (place : ℕ) (listed next d : ListedWord) → ((one other : ListedWord) → before table one other ≡ true → before table other one ≡ false)
    → place < length list → listed ≡ get_or list place listed → before table listed next ≡ true → before table next (get_or list place d) ≡ false
put_at table list place listed next d asymmetric within is less =
    ap (λ (l : ListedWord). before table next l) (same_member list place d listed within ∙ sym is) ∙ asymmetric listed next less

-- or doesn't
pub stays_at : (table : Collation) (list : List ListedWord) (place n : ℕ) (listed next d : ListedWord) → place < length list → n ≡ place → listed ≡ get_or list place listed
    → before table listed next ≡ false → before table (get_or list n d) next ≡ false
stays_at table list place n listed next d within here is apart =
    ap (λ (l : ListedWord). before table l next) (ap (λ (k : ℕ). get_or list k d) here ∙ same_member list place d listed within ∙ sym is) ∙ apart

-- the same of a word as it stands in the list
pub put_here : (table : Collation) (list : List ListedWord) (place : ℕ) (e next d : ListedWord) → ((one other : ListedWord) → before table one other ≡ true → before table other one ≡ false)
    → place < length list → before table (get_or list place e) next ≡ true → before table next (get_or list place d) ≡ false
put_here table list place e next d asymmetric within less =
    put_at table list place (get_or list place e) next d asymmetric within (same_member list place e (get_or list place e) within) less

pub stays_here : (table : Collation) (list : List ListedWord) (place n : ℕ) (e next d : ListedWord) → place < length list → n ≡ place → before table (get_or list place e) next ≡ false
    → before table (get_or list n d) next ≡ false
stays_here table list place n e next d within here apart =
    stays_at table list place n (get_or list place e) next d within here (same_member list place e (get_or list place e) within) apart

-- the member behind so many others
at_end : (front : List ListedWord) (first : ListedWord) (others : List ListedWord) (n : ℕ) (d : ListedWord) → n ≡ length front → get_or (front ++ first ∷ others) n d ≡ first
at_end [] first others n d is = ap (λ (k : ℕ). get_or (first ∷ others) k d) is
at_end (one ∷ front) first others zero d is = absurd (omega (arith, is))
at_end (one ∷ front) first others (suc n) d is = at_end front first others n d (omega (arith, is))

-- the words behind those that are left were put before another one, which may stand among them
module _ (table : Collation) (next : ListedWord) (put words put_now words_now : List ListedWord) (left : ℕ) (parts : PartsAt table next words left) (puts : PutsLast left put words put_now words_now) where
  turned : put ++ reverse words ≡ put ++ (reverse puts.taken ++ reverse words_now)
  turned = ap (λ (l : List ListedWord). put ++ reverse l) puts.words_are ∙ ap (λ (l : List ListedWord). put ++ l) (reverse-append words_now puts.taken)

  behind_taken : (taken : List ListedWord) → words ≡ words_now ++ taken → MayStandBehind table next (reverse taken)
  behind_taken [] is = tt
  behind_taken (first ∷ others) is =
      subst (MayStandBehind table next) (sym (reverse-append (first ∷ []) others))
      (behind_last table next (reverse others) first
      (sym (ap (λ (l : ListedWord). before table next l) (ap (λ (l : List ListedWord). get_or l left first) is ∙ at_end words_now first others left first (sym puts.long)))
      ∙ parts.put first (omega (arith, ap length is, length-append words_now (first ∷ others), puts.long))))

  before_left : (turned_now : List ListedWord) → reverse words_now ≡ turned_now → MayStandBefore table next turned_now
  before_left [] e = tt
  before_left (last ∷ others) e =
      let left_is : words_now ≡ reverse others ++ last ∷ [] = sym (reverse-reverse words_now) ∙ ap reverse e ∙ reverse-append (last ∷ []) others in
      let long : left ≡ length (reverse others) + 1 = sym puts.long ∙ ap length left_is ∙ length-append (reverse others) (last ∷ []) in
      let here : words ≡ reverse others ++ last ∷ puts.taken =
      puts.words_are ∙ ap (λ (l : List ListedWord). l ++ puts.taken) left_is ∙ append_assoc (reverse others) (last ∷ []) puts.taken in
      sym (ap (λ (l : ListedWord). before table l next) (ap (λ (l : List ListedWord). get_or l (left - 1) last) here ∙ at_end (reverse others) last puts.taken (left - 1) last (omega (arith, long))))
      ∙ parts.stay last (omega (arith, long))

  pub puts_parted : PutsBefore table next put words put_now words_now
  puts_parted = record {
    same = ap (λ (l : List ListedWord). l ++ reverse words_now) puts.put_is ∙ append_assoc put (reverse puts.taken) (reverse words_now) ∙ sym turned;
    fits = λ later ascends fits. in_order table (put_now ++ next ∷ later)
        (subst (λ (l : List ListedWord). Ascends table (l ++ next ∷ later)) (sym puts.put_is)
        (subst (Ascends table) (sym (append_assoc put (reverse puts.taken) (next ∷ later)))
        (ascends_through table put (reverse puts.taken) (reverse words_now) next later (subst (Ascends table) turned (ascending table (put ++ reverse words) ascends))
        (ascending table (put ++ next ∷ later) fits) (behind_taken puts.taken puts.words_are))));
    before = before_left (reverse words_now) refl;
  }

-- how far words that stay and words that move are put together
pub record TogetherSoFar (table : Collation) (kept moved put kept_now moved_now : List ListedWord) : Type 0 where
  pub same : IsPermutation (kept ++ moved) (put ++ (kept_now ++ moved_now))
  pub kept_ordered : Ascends table (put ++ reverse kept_now)
  pub moved_ordered : Ascends table (put ++ reverse moved_now)

pub none_together : (table : Collation) (kept moved put : List ListedWord) → put ≡ [] → StandInOrder table (reverse kept)
    → StandInOrder table (reverse moved) → TogetherSoFar table kept moved put kept moved
none_together table kept moved put none ordered moved_ordered = subst (λ (p : List ListedWord). TogetherSoFar table kept moved p kept moved) (sym none) (record {
  same = IsPermutation-refl (kept ++ moved);
  kept_ordered = ascending table (reverse kept) ordered;
  moved_ordered = ascending table (reverse moved) moved_ordered;
})

-- what is put of words that move, and what is left of them, are the same words
put_of : (put moved put_now moved_now others : List ListedWord) → put_now ++ reverse moved_now ≡ put ++ reverse moved → IsPermutation (put ++ (others ++ moved)) (put_now ++ (others ++ moved_now))
put_of put moved put_now moved_now others same =
    let turned : (front back : List ListedWord) → IsPermutation (front ++ (others ++ back)) (others ++ (front ++ reverse back)) = λ front back.
    IsPermutation-trans _ _ _ (IsPermutation-append_right front _ _ (IsPermutation-append_right others _ _ (IsPermutation-reverse back)))
    (subst (λ (l : List ListedWord). IsPermutation l (others ++ (front ++ reverse back))) (append_assoc front others (reverse back))
    (subst (IsPermutation ((front ++ others) ++ reverse back)) (append_assoc others front (reverse back)) (IsPermutation-append_left (reverse back) _ _ (IsPermutation-append_comm front others)))) in
    IsPermutation-trans _ _ _ (turned put moved)
    (subst (λ (l : List ListedWord). IsPermutation (others ++ l) (put_now ++ (others ++ moved_now))) same (IsPermutation-sym _ _ (turned put_now moved_now)))

module _ (table : Collation) (kept moved put kept_now moved_now : List ListedWord) (so_far : TogetherSoFar table kept moved put kept_now moved_now)
    (left : List ListedWord) (next : ListedWord) (is : kept_now ≡ left ++ next ∷ []) (put_then moved_then : List ListedWord) (puts : PutsBefore table next put moved_now put_then moved_then) where
  pub one_together : (put_last : List ListedWord) → put_last ≡ put_then ++ next ∷ [] → TogetherSoFar table kept moved put_last left moved_then
  one_together put_last put_is =
      let from_next : Ascends table (put ++ next ∷ reverse left) = subst (λ (l : List ListedWord). Ascends table (put ++ l)) (ap reverse is ∙ reversed_with left next) so_far.kept_ordered in
      let fits : Ascends table (put_then ++ next ∷ reverse left) = ascending table (put_then ++ next ∷ reverse left)
      (puts.fits (reverse left) (in_order table (put ++ reverse moved_now) so_far.moved_ordered) (in_order table (put ++ next ∷ reverse left) from_next)) in
      let others : Ascends table (put_then ++ reverse moved_then) = subst (Ascends table) (sym puts.same) so_far.moved_ordered in
      subst (λ (l : List ListedWord). TogetherSoFar table kept moved l left moved_then) (sym put_is) (record {
        same = IsPermutation-trans _ _ _ so_far.same (IsPermutation-trans _ _ _ (put_of put moved_now put_then moved_then kept_now puts.same)
            (subst (λ (l : List ListedWord). IsPermutation (put_then ++ (l ++ moved_then)) ((put_then ++ next ∷ []) ++ (left ++ moved_then))) (sym is) (next_put put_then left moved_then)));
        kept_ordered = subst (Ascends table) (sym (append_assoc put_then (next ∷ []) (reverse left))) fits;
        moved_ordered = subst (Ascends table) (sym (append_assoc put_then (next ∷ []) (reverse moved_then)))
            (ascends_between table put_then next (reverse moved_then) (reverse left) fits others puts.before);
      })
    where
      next_put : (a b c : List ListedWord) → IsPermutation (a ++ ((b ++ next ∷ []) ++ c)) ((a ++ next ∷ []) ++ (b ++ c))
      next_put a b c =
          subst (IsPermutation (a ++ ((b ++ next ∷ []) ++ c))) (sym (append_assoc a (next ∷ []) (b ++ c)))
          (IsPermutation-append_right a _ _ (subst (λ (l : List ListedWord). IsPermutation l (next ∷ (b ++ c))) (sym (append_assoc b (next ∷ []) c)) (IsPermutation-middle b next c)))

-- where none is left of those that stay, the others go behind
module _ (table : Collation) (kept moved put kept_now moved_now : List ListedWord) (so_far : TogetherSoFar table kept moved put kept_now moved_now) where
  pub all_same : kept_now ≡ [] → IsPermutation (kept ++ moved) (put ++ reverse moved_now)
  all_same none =
      IsPermutation-trans _ _ _ (subst (λ (l : List ListedWord). IsPermutation (kept ++ moved) (put ++ (l ++ moved_now))) none so_far.same)
      (IsPermutation-append_right put _ _ (IsPermutation-reverse moved_now))

  pub all_ordered : StandInOrder table (put ++ reverse moved_now)
  all_ordered = in_order table (put ++ reverse moved_now) so_far.moved_ordered

pub rest_of : (P : List ListedWord → Type 0) (r : Result (Unit {0}) KeyFault) (put all : List ListedWord) → OnOk r (put ≡ all) → P all → OnOk r (P put)
rest_of P (Ok done) put all is holds = subst P (sym is) holds
rest_of P (Err fault) put all is holds = tt

pub nothing_left : (list : List ListedWord) → length list ≡ 0 → list ≡ []
nothing_left [] none = refl
nothing_left (first ∷ list) none = absurd (omega (arith, none))

flipped : (o p : Ordering) → p ≡ ordering_reverse o → is_lt o ≡ true → is_lt p ≡ false
flipped Less p is less = ap is_lt is
flipped Equal p is less = absurd cc
flipped Greater p is less = absurd cc

-- one of two words at most comes before the other
pub comes_once : (table : Collation) → IsWellFormed table → (listed other : ListedWord) → before table listed other ≡ true → before table other listed ≡ false
comes_once table well listed other less =
    flipped (keyed listed other) (line_order table (numbered_of other) (numbered_of listed)) (by_keys other listed ∙ total.antisymm (numbered_of other) (numbered_of listed))
    (ap is_lt (sym (by_keys listed other)) ∙ less)
  where
    keyed : ListedWord → ListedWord → Ordering
    keyed a b = ordering_then (list_order (key_of table (numbered_of a).text) (key_of table (numbered_of b).text)) (nat_cmp a.line b.line)

    by_keys : (a b : ListedWord) → line_order table (numbered_of a) (numbered_of b) ≡ keyed a b
    by_keys a b = ap (λ (o : Ordering). ordering_then o (nat_cmp a.line b.line)) (sym (keys_in_order table well (numbered_of a).text (numbered_of b).text))

    total : IsTotalOrder (λ (a b : NumberedWord). ordering_then (list_order (key_of table a.text) (key_of table b.text)) (nat_cmp a.line b.line))
    total = then_total (on_total (λ (a : NumberedWord). key_of table a.text) nat_list_cmp_total) (on_total (λ (a : NumberedWord). a.line) nat_cmp_total)
