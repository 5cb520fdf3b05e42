-- What two texts both begin with is the same elements in both, where each element that begins there has ended.
use Rattle.std.proofs.Common.{◌≡◌, inl, inr, ⊎_elim, ℕ, zero, suc, ◌+◌, ◌-◌, ◌<◌, ◌≤◌, ◌&&◌, ◌==◌, Bool, true, false, if◌then◌else◌, List, [], ◌∷◌, ◌++◌, length, map, Option, None, Some, chars, refl, sym, ap, ap₂, subst, ◌∙◌, append_assoc, arith, drop}
use Rattle.std.specs.Prelude.{nat_lt, slice_index_or}
use Rattle.std.specs.List.{flat_map}
use Rattle.std.specs.Str.{IsUtf8}
use Rattle.std.proofs.lemmas.Bool.{eqb-true, ltb-false}
use Rattle.std.proofs.lemmas.Bool.Decides.{Decides-ltb}
use Rattle.coll_syntax.specs.declared.identifiers.Id.{Id}
use Rattle.coll_syntax.specs.declared.identifiers.Id.TheVariants.{Char, Named}
use Rattle.coll_nodes.specs.Table.{Collation, is_placed}
use Rattle.coll_nodes.specs.declared.declarations.Declaration.{Declaration}
use Rattle.coll_nodes.specs.declared.declarations.Declaration.TheVariants as declaration
use Rattle.coll_elements.specs.Elements.{Element, beyond_first, begins_with, element_id, element_placed, element_text, elements_of, elements_placed, longer, longest, split}
use Rattle.coll_elements.proofs.Tests.{by_test}
use Rattle.coll_ranks.specs.WeightNumbers.{numbers_at}
use Rattle.coll_key.specs.LevelList.{items_of, listed}
use Rattle.coll_key.specs.TextOrder.{list_order}
use Rattle.coll_letters.specs.ElementMarks.{AreMarked, AreMarks, EndsBefore, IsApartAt, IsLeftAt, IsMostAt, IsSureAt, StandsAlone, TellOfAll, pair_mark}
use Rattle.coll_letters.specs.LetterWeights.{OrdersAlike}
use Rattle.coll_letters.specs.declared.element_marks.ElementMarks.{ElementMarks}
use Rattle.coll_letters.proofs.MarkLemmas.{stands_apart}
use Rattle.coll_letters.proofs.LetterLemmas.{GoesOnBehind, apart_behind, apart_first, behind_byte, byte_first, same_element}

-- Characters that two texts both begin with.

-- two texts have so many characters in common
abbrev Agree : ℕ → List ℕ → List ℕ → Type 0
Agree zero xs ys = Unit {0}
Agree (suc n) [] ys = ⊥
Agree (suc n) (x ∷ xs) [] = ⊥
Agree (suc n) (x ∷ xs) (y ∷ ys) = (x ≡ y) × Agree n xs ys

-- so no string of as many tells them apart
begins_alike : (string : List ℕ) (count : ℕ) (xs ys : List ℕ) → length string ≤ count → Agree count xs ys → begins_with xs string ≡ begins_with ys string
begins_alike [] count xs ys few agree = refl
begins_alike (c ∷ string) zero xs ys few agree = absurd (omega (arith, few))
begins_alike (c ∷ string) (suc n) [] ys few agree = absurd agree
begins_alike (c ∷ string) (suc n) (x ∷ xs) [] few agree = absurd agree
begins_alike (c ∷ string) (suc n) (x ∷ xs) (y ∷ ys) few agree =
    ap (λ (z : ℕ). (z == c) && begins_with xs string) agree.0 ∙ ap (λ (b : Bool). (y == c) && b) (begins_alike string n xs ys (omega (arith, few)) agree.1)

-- a byte of two texts that is the same character by itself in both
record IsLowAt (text other : List ℕ) (place : ℕ) : Type 0 where
  within : place < length text
  other_within : place < length other
  low : slice_index_or text place 0 < 128
  same : slice_index_or text place 0 ≡ slice_index_or other place 0

low_at : (marks : ElementMarks) (text other : List ℕ) (front place : ℕ) → IsSureAt marks text other front place → IsLowAt text other place
low_at marks text other front place is = record { within = is.within; other_within = is.other_within; low = is.low; same = is.same }

low_other : (b o : ℕ) → b < 128 → b ≡ o → o < 128
low_other b o low same = subst (λ (n : ℕ). n < 128) same low

low_behind : (b o : ℕ) (text other : List ℕ) (place : ℕ) → IsLowAt (b ∷ text) (o ∷ other) (suc place) → IsLowAt text other place
low_behind b o text other place is = record { within = omega (arith, is.within); other_within = omega (arith, is.other_within); low = is.low; same = is.same }

agree_low : (count : ℕ) (text other : List ℕ) → IsUtf8 text → IsUtf8 other → ((k : ℕ) → k < count → IsLowAt text other k) → Agree count (chars text) (chars other)
agree_low zero text other utf8 other_utf8 low = tt
agree_low (suc n) [] other utf8 other_utf8 low = absurd (omega (arith, (low 0 (omega arith)).within))
agree_low (suc n) (b ∷ text) [] utf8 other_utf8 low = absurd (omega (arith, (low 0 (omega arith)).other_within))
agree_low (suc n) (b ∷ text) (o ∷ other) utf8 other_utf8 low =
    let here = low 0 (omega arith) in
    let other_here : o < 128 = low_other b o here.low here.same in
    let rest : Agree n (chars text) (chars other) =
    agree_low n text other (behind_byte b text utf8 here.low) (behind_byte o other other_utf8 other_here) (λ k within. low_behind b o text other k (low (suc k) (omega (arith, within)))) in
    subst (λ (l : List ℕ). Agree (suc n) l (chars (o ∷ other))) (sym (byte_first b text utf8 here.low))
    (subst (Agree (suc n) (b ∷ chars text)) (sym (byte_first o other other_utf8 other_here)) (here.same, rest))

-- Elements that are marked.

module _ (marks : ElementMarks) (c count : ℕ) where
  -- a string that is marked tells no two texts apart that agree as far as the mark says
  marked_alike : (d : ℕ) (rest others string : List ℕ) → AreMarked marks string → pair_mark marks c d ≤ count → Agree count (c ∷ d ∷ rest) (c ∷ d ∷ others)
      → begins_with (c ∷ d ∷ rest) string ≡ begins_with (c ∷ d ∷ others) string
  marked_alike d rest others [] marked most agree = absurd marked
  marked_alike d rest others (e ∷ []) marked most agree = refl
  marked_alike d rest others (e ∷ f ∷ more) marked most agree =
      by_test (λ (b : Bool). begins_with (c ∷ d ∷ rest) (e ∷ f ∷ more) ≡ begins_with (c ∷ d ∷ others) (e ∷ f ∷ more)) (c == e)
      (λ on.
      by_test (λ (b : Bool). begins_with (c ∷ d ∷ rest) (e ∷ f ∷ more) ≡ begins_with (c ∷ d ∷ others) (e ∷ f ∷ more)) (d == f)
      (λ both.
      let same = ap (λ (n : ℕ). pair_mark marks n d) (eqb-true c e on) ∙ ap (pair_mark marks e) (eqb-true d f both) in
      begins_alike (e ∷ f ∷ more) count (c ∷ d ∷ rest) (c ∷ d ∷ others) (omega (arith, marked.1, most, same)) agree)
      (λ off. ap (λ (b : Bool). (c == e) && (b && begins_with rest more)) off ∙ sym (ap (λ (b : Bool). (c == e) && (b && begins_with others more)) off)))
      (λ off. ap (λ (b : Bool). b && ((d == f) && begins_with rest more)) off ∙ sym (ap (λ (b : Bool). b && ((d == f) && begins_with others more)) off))

  -- and where a text begins with one, it is no longer than that
  marked_short : (xs string : List ℕ) → IsMostAt marks c xs count → AreMarked marks string → begins_with (c ∷ xs) string ≡ true → length string ≤ count
  marked_short xs [] most marked on = absurd marked
  marked_short [] (e ∷ []) most marked on = omega (arith, most)
  marked_short (d ∷ xs) (e ∷ []) most marked on = omega (arith, most.0)
  marked_short [] (e ∷ f ∷ more) most marked on =
      by_test (λ (b : Bool). (b && false) ≡ true → length (e ∷ f ∷ more) ≤ count) (c == e) (λ same no. absurd cc) (λ off no. absurd cc) on
  marked_short (d ∷ xs) (e ∷ f ∷ more) most marked on =
      by_test (λ (b : Bool). (b && ((d == f) && begins_with xs more)) ≡ true → length (e ∷ f ∷ more) ≤ count) (c == e)
      (λ first.
      by_test (λ (b : Bool). (b && begins_with xs more) ≡ true → length (e ∷ f ∷ more) ≤ count) (d == f)
      (λ second found.
      let same = ap (λ (n : ℕ). pair_mark marks n d) (eqb-true c e first) ∙ ap (pair_mark marks e) (eqb-true d f second) in
      omega (arith, marked.1, most.1, same))
      (λ off no. absurd cc))
      (λ off no. absurd cc)
      on

  longer_short : (x : Element) (found : Option Element) → length x.text ≤ count → beyond_first element_text found ≤ count - 1 → beyond_first element_text (Some (longer element_text x found)) ≤ count - 1
  longer_short x None short few = omega (arith, short)
  longer_short x (Some other) short few =
      by_test (λ (b : Bool). length (element_text (if b then x else other)) - 1 ≤ count - 1) (nat_lt (length other.text) (length x.text)) (λ on. omega (arith, short)) (λ off. few)

  module _ (table : Collation) where
    -- the longest element that is placed among these
    abbrev longest_of : List Declaration → List ℕ → Option Element
    longest_of ds text = longest element_text (flat_map (element_placed table) ds) text

    longest_short : (ds : List Declaration) (xs : List ℕ) → TellOfAll marks ds → IsMostAt marks c xs count → beyond_first element_text (longest_of ds (c ∷ xs)) ≤ count - 1
    longest_short [] xs told most = omega arith
    longest_short (declaration.Symbol name ∷ ds) xs told most = longest_short ds xs told.1 most
    longest_short (declaration.Equivalence name symbol ∷ ds) xs told most = longest_short ds xs told.1 most
    longest_short (declaration.Element name string ∷ ds) xs told most =
        let one : Element = record { name = name; text = string } in
        let later : beyond_first element_text (longest_of ds (c ∷ xs)) ≤ count - 1 = longest_short ds xs told.1 most in
        by_test (λ (b : Bool). beyond_first element_text (longest element_text ((if b then one ∷ [] else []) ++ flat_map (element_placed table) ds) (c ∷ xs)) ≤ count - 1) (is_placed table (Named name))
        (λ placed.
        by_test (λ (b : Bool). begins_with (c ∷ xs) string ≡ b → beyond_first element_text (if b then Some (longer element_text one (longest_of ds (c ∷ xs))) else longest_of ds (c ∷ xs)) ≤ count - 1)
        (begins_with (c ∷ xs) string)
        (λ on is. longer_short one (longest_of ds (c ∷ xs)) (marked_short xs string most told.0 is) later)
        (λ off is. later) refl)
        (λ off. later)

    longest_alike : (ds : List Declaration) (d : ℕ) (rest others : List ℕ) → TellOfAll marks ds → pair_mark marks c d ≤ count → Agree count (c ∷ d ∷ rest) (c ∷ d ∷ others)
        → longest_of ds (c ∷ d ∷ rest) ≡ longest_of ds (c ∷ d ∷ others)
    longest_alike [] d rest others told most agree = refl
    longest_alike (declaration.Symbol name ∷ ds) d rest others told most agree = longest_alike ds d rest others told.1 most agree
    longest_alike (declaration.Equivalence name symbol ∷ ds) d rest others told most agree = longest_alike ds d rest others told.1 most agree
    longest_alike (declaration.Element name string ∷ ds) d rest others told most agree =
        let one : Element = record { name = name; text = string } in
        let later : longest_of ds (c ∷ d ∷ rest) ≡ longest_of ds (c ∷ d ∷ others) = longest_alike ds d rest others told.1 most agree in
        by_test (λ (b : Bool). longest element_text ((if b then one ∷ [] else []) ++ flat_map (element_placed table) ds) (c ∷ d ∷ rest)
        ≡ longest element_text ((if b then one ∷ [] else []) ++ flat_map (element_placed table) ds) (c ∷ d ∷ others)) (is_placed table (Named name))
        (λ placed. ap₂ (λ (b : Bool) (found : Option Element). if b then Some (longer element_text one found) else found) (marked_alike d rest others string told.0 most agree) later)
        (λ off. later)

-- Texts that are split alike.

-- behind so many characters two texts begin with the same elements, and go on with these
record SplitsAlike (table : Collation) (skipped : ℕ) (text other later others : List ℕ) : Type 0 where
  ids : List Id
  first : split element_text (elements_placed table) element_id skipped text ≡ ids ++ elements_of table later
  second : split element_text (elements_placed table) element_id skipped other ≡ ids ++ elements_of table others

-- a place is as sure behind the first byte
sure_behind : (marks : ElementMarks) (b o : ℕ) (text other : List ℕ) (front place : ℕ) → IsSureAt marks (b ∷ text) (o ∷ other) (suc front) (suc place) → IsSureAt marks text other front place
sure_behind marks b o text other front place is = record {
  within = omega (arith, is.within);
  other_within = omega (arith, is.other_within);
  low = is.low;
  same = is.same;
  ends = ⊎_elim
      (λ (apart : IsApartAt marks (b ∷ text) (suc place) × IsApartAt marks (o ∷ other) (suc place)). inl (apart_behind marks b text place apart.0, apart_behind marks o other place apart.1))
      (λ (ended : EndsBefore marks (b ∷ text) (suc front) (suc place)). inr (omega (arith, ended.0), omega (arith, ended.1)))
      is.ends;
}

-- two texts begin with the same element, which has no more than so many characters beyond the first
record BeginAlike (table : Collation) (most : ℕ) (text other : List ℕ) (behind behind_other : List ℕ) : Type 0 where
  id : Id
  skipped : ℕ
  few : skipped ≤ most
  first : split element_text (elements_placed table) element_id 0 text ≡ id ∷ split element_text (elements_placed table) element_id skipped behind
  second : split element_text (elements_placed table) element_id 0 other ≡ id ∷ split element_text (elements_placed table) element_id skipped behind_other

begin_alone : (table : Collation) (most c : ℕ) (text other : List ℕ) → StandsAlone table c text → StandsAlone table c other → BeginAlike table most (c ∷ text) (c ∷ other) text other
begin_alone table most c text other alone other_alone = record {
  id = Char c;
  skipped = 0;
  few = omega arith;
  first = ap (λ (found : Option Element). element_id found c ∷ split element_text (elements_placed table) element_id (beyond_first element_text found) text) alone;
  second = ap (λ (found : Option Element). element_id found c ∷ split element_text (elements_placed table) element_id (beyond_first element_text found) other) other_alone;
}

begin_marked : (table : Collation) (marks : ElementMarks) → AreMarks table marks → (n c : ℕ) (text other : List ℕ) → 0 < n → IsMostAt marks c text (suc n) → Agree (suc n) (c ∷ text) (c ∷ other)
    → BeginAlike table n (c ∷ text) (c ∷ other) text other
begin_marked table marks are zero c text other more most agree = absurd (omega (arith, more))
begin_marked table marks are (suc n) c [] other more most agree = absurd agree.1
begin_marked table marks are (suc n) c (d ∷ text) [] more most agree = absurd agree.1
begin_marked table marks are (suc n) c (d ∷ text) (e ∷ other) more most agree =
    let found = longest element_text (elements_placed table) (c ∷ d ∷ text) in
    let same : d ≡ e = agree.1.0 in
    let alike : longest element_text (elements_placed table) (c ∷ d ∷ text) ≡ longest element_text (elements_placed table) (c ∷ d ∷ other) =
    longest_alike marks c (suc (suc n)) table table.declared d text other are most.1 (refl, (refl, agree.1.1)) in
    let here : longest element_text (elements_placed table) (c ∷ e ∷ other) ≡ found =
    ap (λ (l : ℕ). longest element_text (elements_placed table) (c ∷ l ∷ other)) (sym same) ∙ sym alike in
    record {
      id = element_id found c;
      skipped = beyond_first element_text found;
      few = omega (arith, longest_short marks c (suc (suc n)) table table.declared (d ∷ text) are most);
      first = refl;
      second = ap (λ (f : Option Element). element_id f c ∷ split element_text (elements_placed table) element_id (beyond_first element_text f) (e ∷ other)) here;
    }

-- the mark of the first two bytes is that of the first two characters
most_first : (marks : ElementMarks) (b count : ℕ) (text : List ℕ) → IsUtf8 text → 0 < length text → slice_index_or text 0 0 < 128 → 1 ≤ count → pair_mark marks b (slice_index_or text 0 0) ≤ count
    → IsMostAt marks b (chars text) count
most_first marks b count [] utf8 some low one most = absurd (omega (arith, some))
most_first marks b count (d ∷ more) utf8 some low one most = subst (λ (l : List ℕ). IsMostAt marks b l count) (sym (byte_first d more utf8 low)) (one, most)

module _ (table : Collation) (marks : ElementMarks) (are : AreMarks table marks) where
  begin_by : (n b o : ℕ) (text other : List ℕ) → IsUtf8 (b ∷ text) → IsUtf8 (o ∷ other) → ((k : ℕ) → k < suc n → IsSureAt marks (b ∷ text) (o ∷ other) (suc n) k)
      → BeginAlike table n (b ∷ chars text) (b ∷ chars other) (chars text) (chars other)
  begin_by n b o text other utf8 other_utf8 sure =
      let here = sure 0 (omega arith) in
      let other_low : o < 128 = low_other b o here.low here.same in
      let later_utf8 : IsUtf8 text = behind_byte b text utf8 here.low in
      let others_utf8 : IsUtf8 other = behind_byte o other other_utf8 other_low in
      ⊎_elim
      (λ (apart : IsApartAt marks (b ∷ text) 0 × IsApartAt marks (o ∷ other) 0).
      begin_alone table n b (chars text) (chars other) (stands_apart table marks are b (chars text) (apart_first marks b text later_utf8 apart.0))
      (subst (λ (c : ℕ). StandsAlone table c (chars other)) (sym here.same) (stands_apart table marks are o (chars other) (apart_first marks o other others_utf8 apart.1))))
      (λ (ended : EndsBefore marks (b ∷ text) (suc n) 0).
      let next = sure 1 (omega (arith, ended.0)) in
      let low : (k : ℕ) → k < n → IsLowAt text other k = λ k within. low_behind b o text other k (low_at marks (b ∷ text) (o ∷ other) (suc n) (suc k) (sure (suc k) (omega (arith, within)))) in
      begin_marked table marks are n b (chars text) (chars other) (omega (arith, ended.0))
      (most_first marks b (suc n) text later_utf8 (omega (arith, next.within)) next.low (omega arith) (omega (arith, ended.1)))
      (refl, agree_low n text other later_utf8 others_utf8 low))
      here.ends

  splits_alike : (count skipped : ℕ) (text other : List ℕ) → IsUtf8 text → IsUtf8 other → skipped ≤ count → ((k : ℕ) → k < count → IsSureAt marks text other count k)
      → SplitsAlike table skipped (chars text) (chars other) (chars (drop count text)) (chars (drop count other))
  unfolding elements_of
  splits_alike zero zero text other utf8 other_utf8 few sure = record { ids = []; first = refl; second = refl }
  splits_alike zero (suc skipped) text other utf8 other_utf8 few sure = absurd (omega (arith, few))
  splits_alike (suc n) skipped [] other utf8 other_utf8 few sure = absurd (omega (arith, (sure 0 (omega arith)).within))
  splits_alike (suc n) skipped (b ∷ text) [] utf8 other_utf8 few sure = absurd (omega (arith, (sure 0 (omega arith)).other_within))
  splits_alike (suc n) (suc skipped) (b ∷ text) (o ∷ other) utf8 other_utf8 few sure =
      let here = sure 0 (omega arith) in
      let other_low : o < 128 = low_other b o here.low here.same in
      let rest : SplitsAlike table skipped (chars text) (chars other) (chars (drop n text)) (chars (drop n other)) =
      splits_alike n skipped text other (behind_byte b text utf8 here.low) (behind_byte o other other_utf8 other_low) (omega (arith, few))
      (λ k within. sure_behind marks b o text other n k (sure (suc k) (omega (arith, within)))) in
      record {
        ids = rest.ids;
        first = ap (split element_text (elements_placed table) element_id (suc skipped)) (byte_first b text utf8 here.low) ∙ rest.first;
        second = ap (split element_text (elements_placed table) element_id (suc skipped)) (byte_first o other other_utf8 other_low) ∙ rest.second;
      }
  splits_alike (suc n) zero (b ∷ text) (o ∷ other) utf8 other_utf8 few sure =
      let here = sure 0 (omega arith) in
      let other_low : o < 128 = low_other b o here.low here.same in
      let begin = begin_by n b o text other utf8 other_utf8 sure in
      let rest : SplitsAlike table begin.skipped (chars text) (chars other) (chars (drop n text)) (chars (drop n other)) =
      splits_alike n begin.skipped text other (behind_byte b text utf8 here.low) (behind_byte o other other_utf8 other_low) begin.few
      (λ k within. sure_behind marks b o text other n k (sure (suc k) (omega (arith, within)))) in
      record {
        ids = begin.id ∷ rest.ids;
        first = ap (split element_text (elements_placed table) element_id 0) (byte_first b text utf8 here.low) ∙ begin.first ∙ ap (λ (l : List Id). begin.id ∷ l) rest.first;
        second = ap (split element_text (elements_placed table) element_id 0) (byte_first o other other_utf8 other_low ∙ ap (λ (c : ℕ). c ∷ chars other) (sym here.same)) ∙ begin.second
            ∙ ap (λ (l : List Id). begin.id ∷ l) rest.second;
      }

-- The order of what is left.

-- the same elements leave it to what comes later
same_elements : (position : Bool) (gaps : ℕ) (nss : List (List ℕ)) (xs ys : List (Option ℕ))
    → (after : ℕ) × (list_order (listed position gaps (flat_map items_of nss ++ xs)) (listed position gaps (flat_map items_of nss ++ ys)) ≡ list_order (listed position after xs) (listed position after ys))
same_elements position gaps [] xs ys = (gaps, refl)
same_elements position gaps (ns ∷ nss) xs ys =
    let one = same_element position gaps ns (flat_map items_of nss ++ xs) (flat_map items_of nss ++ ys) in
    let two = same_elements position one.0 nss xs ys in (
      two.0,
      ap₂ (λ (l m : List (Option ℕ)). list_order (listed position gaps l) (listed position gaps m)) (append_assoc (items_of ns) (flat_map items_of nss) xs) (append_assoc (items_of ns) (flat_map items_of nss) ys)
          ∙ one.1 ∙ two.1,
    )

numbers_behind : (f : Id → List ℕ) (ids later : List Id) → flat_map items_of (map f (ids ++ later)) ≡ flat_map items_of (map f ids) ++ flat_map items_of (map f later)
numbers_behind f [] later = refl
numbers_behind f (id ∷ ids) later =
    ap (λ (l : List (Option ℕ)). items_of (f id) ++ l) (numbers_behind f ids later) ∙ sym (append_assoc (items_of (f id)) (flat_map items_of (map f ids)) (flat_map items_of (map f later)))

-- behind what both surely begin with, what is left tells the order
pub sure_front_alike : (table : Collation) (marks : ElementMarks) → AreMarks table marks → (level count : ℕ) (text other : List ℕ) → IsUtf8 text → IsUtf8 other
    → ((k : ℕ) → k < count → IsSureAt marks text other count k) → OrdersAlike table level (chars text) (chars other) (chars (drop count text)) (chars (drop count other))
unfolding elements_of
sure_front_alike table marks are level count text other utf8 other_utf8 sure = λ position gaps.
    let alike = splits_alike table marks are count 0 text other utf8 other_utf8 (omega arith) sure in
    let f = numbers_at table level in
    let later = elements_of table (chars (drop count text)) in
    let others = elements_of table (chars (drop count other)) in
    let one = same_elements position gaps (map f alike.ids) (flat_map items_of (map f later)) (flat_map items_of (map f others)) in (
      one.0,
      ap₂ (λ (l m : List (Option ℕ)). list_order (listed position gaps l) (listed position gaps m)) (ap (λ (l : List Id). flat_map items_of (map f l)) alike.first ∙ numbers_behind f alike.ids later)
          (ap (λ (l : List Id). flat_map items_of (map f l)) alike.second ∙ numbers_behind f alike.ids others)
          ∙ one.1,
    )

-- and is no longer
pub left_behind : (marks : ElementMarks) (count front : ℕ) (text other : List ℕ) → IsUtf8 text → IsUtf8 other → ((k : ℕ) → k < count → IsSureAt marks text other front k)
    → GoesOnBehind text (drop count text) × GoesOnBehind other (drop count other)
left_behind marks zero front text other utf8 other_utf8 sure = (record { utf8 = utf8; shorter = omega arith }, record { utf8 = other_utf8; shorter = omega arith })
left_behind marks (suc count) front text other utf8 other_utf8 sure = lows (suc count) text other utf8 other_utf8 (λ k within. low_at marks text other front k (sure k within)) where
  lows : (count : ℕ) (text other : List ℕ) → IsUtf8 text → IsUtf8 other → ((k : ℕ) → k < count → IsLowAt text other k) → GoesOnBehind text (drop count text) × GoesOnBehind other (drop count other)
  lows zero text other utf8 other_utf8 low = (record { utf8 = utf8; shorter = omega arith }, record { utf8 = other_utf8; shorter = omega arith })
  lows (suc n) [] other utf8 other_utf8 low = absurd (omega (arith, (low 0 (omega arith)).within))
  lows (suc n) (b ∷ text) [] utf8 other_utf8 low = absurd (omega (arith, (low 0 (omega arith)).other_within))
  lows (suc n) (b ∷ text) (o ∷ other) utf8 other_utf8 low =
      let here = low 0 (omega arith) in
      let other_low : o < 128 = low_other b o here.low here.same in
      let rest = lows n text other (behind_byte b text utf8 here.low) (behind_byte o other other_utf8 other_low) (λ k within. low_behind b o text other k (low (suc k) (omega (arith, within)))) in (
        record { utf8 = rest.0.utf8; shorter = omega (arith, rest.0.shorter, ap length (byte_first b text utf8 here.low)) },
        record { utf8 = rest.1.utf8; shorter = omega (arith, rest.1.shorter, ap length (byte_first o other other_utf8 other_low)) },
      )

-- Places that are passed.

-- what has ended before so many bytes has before more
pub sure_of_more : (marks : ElementMarks) (text other : List ℕ) (front more place : ℕ) → front ≤ more → IsSureAt marks text other front place → IsSureAt marks text other more place
sure_of_more marks text other front more place few is = record {
  within = is.within;
  other_within = is.other_within;
  low = is.low;
  same = is.same;
  ends = ⊎_elim
      (λ (apart : IsApartAt marks text place × IsApartAt marks other place). inl apart)
      (λ (ended : EndsBefore marks text front place). inr (omega (arith, ended.0, few), omega (arith, ended.1, few)))
      is.ends;
}

-- a place that is passed is sure where what begins there has ended
sure_here : (marks : ElementMarks) (text other : List ℕ) (place at front : ℕ) → place < length text → place < length other → slice_index_or text place 0 < 128
    → slice_index_or text place 0 ≡ slice_index_or other place 0 → IsLeftAt marks text other place at → suc (place + at) ≤ front → IsSureAt marks text other front place
sure_here marks text other place at front within other_within low same left few = record {
  within = within;
  other_within = other_within;
  low = low;
  same = same;
  ends = ⊎_elim
      (λ (apart : IsApartAt marks text place × IsApartAt marks other place). inl apart)
      (λ (ended : (1 ≤ at) × (pair_mark marks (slice_index_or text place 0) (slice_index_or text (suc place) 0) ≤ suc at)). inr (omega (arith, ended.0, few), omega (arith, ended.1, few)))
      left;
}

-- and so are those before it
pub sure_next : (marks : ElementMarks) (text other : List ℕ) (place left at next : ℕ) → place < length text → place < length other → slice_index_or text place 0 < 128
    → slice_index_or text place 0 ≡ slice_index_or other place 0 → IsLeftAt marks text other place at → at ≤ next → left ≤ suc next
    → ((k : ℕ) → k < place → IsSureAt marks text other (place + left) k) → (k : ℕ) → k < place + 1 → IsSureAt marks text other (place + 1 + next) k
sure_next marks text other place left at next within other_within low same ends few longer passed k before =
    by_test (λ (b : Bool). nat_lt k place ≡ b → IsSureAt marks text other (place + 1 + next) k) (nat_lt k place)
    (λ on less. sure_of_more marks text other (place + left) (place + 1 + next) k (omega (arith, longer)) (passed k ((Decides-ltb k place).0 less)))
    (λ off more.
    let above : place ≤ k = ltb-false k place more in
    let here : place ≡ k = omega (arith, above, before) in
    subst (IsSureAt marks text other (place + 1 + next)) here (sure_here marks text other place at (place + 1 + next) within other_within low same ends (omega (arith, few))))
    refl
