-- A list of words that is led, keyed and sorted, member by member.
use Rattle.std.proofs.Common.{◌≡◌, ◌≢◌, ℕ, zero, suc, ◌+◌, ◌-◌, ◌<◌, ◌≤◌, ◌==◌, Bool, false, if◌then◌else◌, List, [], ◌∷◌, ◌++◌, length, take, drop, get_or, set, Option}
use Rattle.std.proofs.Common.{eq-eqb, refl, sym, ap, subst, ◌∙◌, arith, append-nil, append_assoc}
use Rattle.std.specs.List.Sorted.{IsPermutation, IsSorted, IsSortedWithin}
use Rattle.std.proofs.lemmas.List.Sorted.{IsPermutation-refl}
use Rattle.std.specs.Ordering.{is_lt}
use Rattle.std.proofs.lemmas.List.{length-map, get_or-map, set-append_right, take_more, length-take, length-drop, get_or-drop, get_or-append_right, take_all, drop_all}
use Rattle.std.specs.Io.KnownBytes.{Appends}
use Rattle.std.specs.List.{flat_map}
use Rattle.std.proofs.lemmas.Bool.{eqb-true, eqb-false, ne_eqb}
use Rattle.coll_devices.specs.Devices.{AppendsPrefix}
use Rattle.coll_elements.proofs.Tests.{by_test}
use Rattle.coll_nodes.specs.Table.{Collation}
use Rattle.coll_texts.proofs.PrintedParts.{HasWritten, left_begins, written_more, written_prefix}
use Rattle.coll_reviews.specs.MovedWords.{IsOrderedTo}
use Rattle.coll_reviews.specs.ListedWords.{IsSortedAnew, all_numbered, led_by, newly_beside, numbered_of}
use Rattle.coll_word_lists.specs.Neighbours.{NumberedWord, WordPair}
use Rattle.coll_word_lists.specs.NumberedWords.{line_order}
use Rattle.coll_reviews.specs.ReviewLines.{joined_line}
use Rattle.coll_reviews.specs.declared.listed_words.ListedWord.{ListedWord}
use Rattle.coll_reviews.proofs.NeighbourLemmas.{numbered_still}
use Rattle.coll_reviews.proofs.OrderedWords.{same_member}

-- Led by the word before.

-- the line of the last word, or this one
abbrev pub last_line : ℕ → List ListedWord → ℕ
last_line leader [] = leader
last_line leader (listed ∷ list) = last_line listed.line list

led_behind : (leader : ℕ) (list : List ListedWord) (listed : ListedWord) → led_by leader (list ++ listed ∷ []) ≡ led_by leader list ++ record listed { leader = last_line leader list } ∷ []
led_behind leader [] listed = refl
led_behind leader (first ∷ list) listed = ap (λ (led : List ListedWord). record first { leader = leader } ∷ led) (led_behind first.line list listed)

last_behind : (leader : ℕ) (list : List ListedWord) (listed : ListedWord) → last_line leader (list ++ listed ∷ []) ≡ listed.line
last_behind leader [] listed = refl
last_behind leader (first ∷ list) listed = last_behind first.line list listed

pub length_led : (leader : ℕ) (list : List ListedWord) → length (led_by leader list) ≡ length list
length_led leader [] = refl
length_led leader (listed ∷ list) = omega (arith, length_led listed.line list)

-- of the list so many words were led
pub record LedSoFar (before now : List ListedWord) (count leader : ℕ) : Type 0 where
  pub led : now ≡ led_by 0 (take count before) ++ drop count before
  pub last : leader ≡ last_line 0 (take count before)

module _ (before now : List ListedWord) (count leader : ℕ) (so_far : LedSoFar before now count leader) (listed : ListedWord) (within : count < length before) where
  first_left : listed ≡ get_or before count listed → drop count before ≡ listed ∷ drop (count + 1) before
  first_left is = left_begins before count listed within is

  as_long : length (led_by 0 (take count before)) ≡ count
  as_long = omega (arith, length_led 0 (take count before), length-take count before, within)

  -- what is left is as it was
  still_there : (d : ListedWord) → get_or now count d ≡ get_or before count d
  still_there d =
      ap (λ (l : List ListedWord). get_or l count d) so_far.led
      ∙ get_or-append_right (led_by 0 (take count before)) (drop count before) count count d as_long (omega arith)
      ∙ ap (λ (n : ℕ). get_or (drop count before) n d) none_left
      ∙ get_or-drop count before 0 d
      ∙ ap (λ (n : ℕ). get_or before n d) none_more
    where
      none_left : count - count ≡ 0
      none_left = omega arith

      none_more : count + 0 ≡ count
      none_more = omega arith

  -- one more
  pub one_more_led : listed ≡ get_or now count listed → LedSoFar before (set now count (record listed { leader = leader })) (count + 1) listed.line
  one_more_led is_now =
      let is : listed ≡ get_or before count listed = is_now ∙ still_there listed in
      let none_left : count - count ≡ 0 = omega arith in
      let more = take_more before count listed within ∙ ap (λ (x : ListedWord). take count before ++ x ∷ []) (sym is) in
      record {
        led =
            ap (λ (l : List ListedWord). set l count (record listed { leader = leader })) (so_far.led ∙ ap (λ (l : List ListedWord). led_by 0 (take count before) ++ l) (first_left is))
            ∙ set-append_right (led_by 0 (take count before)) (listed ∷ drop (count + 1) before) count count (record listed { leader = leader }) as_long (omega arith)
            ∙ ap (λ (n : ℕ). led_by 0 (take count before) ++ set (listed ∷ drop (count + 1) before) n (record listed { leader = leader })) none_left
            ∙ ap (λ (n : ℕ). led_by 0 (take count before) ++ record listed { leader = n } ∷ drop (count + 1) before) so_far.last
            ∙ sym (append_assoc (led_by 0 (take count before)) (record listed { leader = last_line 0 (take count before) } ∷ []) (drop (count + 1) before))
            ∙ ap (λ (l : List ListedWord). l ++ drop (count + 1) before) (sym (led_behind 0 (take count before) listed))
            ∙ ap (λ (l : List ListedWord). led_by 0 l ++ drop (count + 1) before) (sym more);
        last = sym (ap (last_line 0) more ∙ last_behind 0 (take count before) listed);
      }

-- the same of a word as it stands in the list
pub one_more_led_at : (before now : List ListedWord) (count leader : ℕ) → LedSoFar before now count leader → (d : ListedWord) → count < length before → count < length now
    → LedSoFar before (set now count (record (get_or now count d) { leader = leader })) (count + 1) (get_or now count d).line
one_more_led_at before now count leader so_far d within now_within =
    one_more_led before now count leader so_far (get_or now count d) within (same_member now count d (get_or now count d) now_within)

-- so many of a list and of what stands behind it
pub take_front : (len : ℕ) (list rest : List ListedWord) → length list ≡ len → take len (list ++ rest) ≡ list
take_front zero [] rest same = refl
take_front zero (listed ∷ list) rest same = absurd (omega (arith, same))
take_front (suc len) [] rest same = absurd (omega (arith, same))
take_front (suc len) (listed ∷ list) rest same = ap (λ (l : List ListedWord). listed ∷ l) (take_front len list rest (omega (arith, same)))

-- a list that is led where it stands
pub led_in_place : (len : ℕ) (list led rest : List ListedWord) → led ≡ led_by 0 list → len ≡ length list → take len (led ++ rest) ≡ led_by 0 list
led_in_place len list led rest is long = take_front len led rest (ap (λ (l : List ListedWord). length l) is ∙ length_led 0 list ∙ sym long) ∙ is

-- fewer than two words are in order
pub few_in_order : (table : Collation) (list : List ListedWord) → length list < 2 → IsSorted (line_order table) (all_numbered list)
few_in_order table list few = λ k d low high. absurd (omega (arith, few, high, length-map list numbered_of))

module _ (table : Collation) (old new : List ListedWord) where
  -- a list that is in order still
  pub anew_in_order : new ≡ led_by zero old → IsSorted (line_order table) (all_numbered old) → IsSortedAnew table old new
  anew_in_order led ordered = record {
    moved = subst (IsPermutation (led_by zero old)) (sym led) (IsPermutation-refl (led_by zero old));
    ordered = subst (IsSorted (line_order table)) (sym (ap all_numbered led ∙ numbered_still zero old)) ordered;
  }

-- all were led
pub all_led : (before now : List ListedWord) (count leader : ℕ) → LedSoFar before now count leader → length before ≤ count → now ≡ led_by 0 before
all_led before now count leader so_far all =
    so_far.led ∙ ap (λ (l : List ListedWord). led_by 0 l ++ drop count before) (take_all count before all)
    ∙ ap (λ (l : List ListedWord). led_by 0 before ++ l) (drop_all count before all) ∙ append-nil (led_by 0 before)

-- Pairs that are new.

module _ (list : List ListedWord) (place : ℕ) where
  -- from a word on, where another one is behind it
  pub pairs_from : (first next : ListedWord) → 0 < place → place < length list → first ≡ get_or list (place - 1) first → next ≡ get_or list place next
      → newly_beside (drop (place - 1) list) ≡ (if first.line == next.leader then newly_beside (drop place list) else (numbered_of first, numbered_of next) ∷ newly_beside (drop place list))
  pairs_from first next above within is next_is =
      let second = left_begins list place next within next_is in
      let begun : drop (place - 1) list ≡ first ∷ drop place list = left_begins list (place - 1) first (omega (arith, within)) is
      ∙ ap (λ (n : ℕ). first ∷ drop n list) (omega (arith, above)) in
      ap newly_beside (begun ∙ ap (λ (l : List ListedWord). first ∷ l) second)
      ∙ ap (λ (l : List ListedWord). if first.line == next.leader then newly_beside l else (numbered_of first, numbered_of next) ∷ newly_beside l) (sym second)

  -- from the last word on there is none
  pub pairs_end : length list ≤ place → newly_beside (drop (place - 1) list) ≡ []
  pairs_end all = at_most_one (drop (place - 1) list) (omega (arith, all, length_left))
    where
      length_left : length (drop (place - 1) list) ≤ 1
      length_left = omega (arith, all, length-drop (place - 1) list)

      at_most_one : (l : List ListedWord) → length l ≤ 1 → newly_beside l ≡ []
      at_most_one [] few = refl
      at_most_one (listed ∷ []) few = refl
      at_most_one (listed ∷ next ∷ l) few = absurd (omega (arith, few))

abbrev no_pairs : List WordPair
no_pairs = []

pub take_nothing : (n : ℕ) → take n no_pairs ≡ []
take_nothing zero = refl
take_nothing (suc n) = refl

-- so many pairs are counted, and those to come are the rest of all
pub record CountedSoFar (list : List ListedWord) (place count : ℕ) : Type 0 where
  pub above : 0 < place
  pub few : count < place
  pub told : count + length (newly_beside (drop (place - 1) list)) ≡ length (newly_beside list)

module _ (list : List ListedWord) (place : ℕ) (first next : ListedWord) (above : 0 < place) (within : place < length list)
    (is : first ≡ get_or list (place - 1) first) (next_is : next ≡ get_or list place next) where
  abbrev pair : WordPair
  pair = (numbered_of first, numbered_of next)

  abbrev later : List WordPair
  later = newly_beside (drop (place + 1 - 1) list)

  from_here : newly_beside (drop (place - 1) list) ≡ (if first.line == next.leader then later else pair ∷ later)
  from_here = pairs_from list place first next above within is next_is
      ∙ ap (λ (n : ℕ). if first.line == next.leader then newly_beside (drop n list) else pair ∷ newly_beside (drop n list)) here
    where
      here : place ≡ place + 1 - 1
      here = omega arith

  new_here : first.line ≢ next.leader → newly_beside (drop (place - 1) list) ≡ pair ∷ later
  new_here other = from_here ∙ ap (λ (b : Bool). if b then later else pair ∷ later) (ne_eqb first.line next.leader other)

  old_here : first.line ≡ next.leader → newly_beside (drop (place - 1) list) ≡ later
  old_here same = from_here ∙ ap (λ (b : Bool). if b then later else pair ∷ later) (eq-eqb first.line next.leader same)

  pub counted_new : (count : ℕ) → CountedSoFar list place count → first.line ≢ next.leader → CountedSoFar list (place + 1) (count + 1)
  counted_new count so_far other = record {
    above = omega arith;
    few = omega (arith, so_far.few);
    told = omega (arith, so_far.told, ap length (new_here other));
  }

  pub counted_old : (count : ℕ) → CountedSoFar list place count → first.line ≡ next.leader → CountedSoFar list (place + 1) count
  counted_old count so_far same = record {
    above = omega arith;
    few = omega (arith, so_far.few);
    told = omega (arith, so_far.told, ap length (old_here same));
  }

  -- the first of some is written
  first_of : (left : ℕ) → left ≢ 0 → first.line ≢ next.leader → take left (newly_beside (drop (place - 1) list)) ≡ pair ∷ take (left - 1) later
  first_of zero none other = absurd (none refl)
  first_of (suc left) none other = ap (take (suc left)) (new_here other) ∙ ap (λ (n : ℕ). pair ∷ take n later) less
    where
      less : left ≡ suc left - 1
      less = omega arith

  pub joined_new : (all : List WordPair) (left : ℕ) (a b c : Option (List ℕ)) → left ≢ 0 → first.line ≢ next.leader
      → HasWritten joined_line all (take left (newly_beside (drop (place - 1) list))) a b → Appends b c (joined_line pair)
      → HasWritten joined_line all (take (left - 1) later) a c
  joined_new all left a b c none other so_far sent =
      written_more joined_line all (take left (newly_beside (drop (place - 1) list))) (take (left - 1) later) pair a b c (first_of left none other) so_far sent

  pub joined_old : (all : List WordPair) (left : ℕ) (a b : Option (List ℕ)) → first.line ≡ next.leader
      → HasWritten joined_line all (take left (newly_beside (drop (place - 1) list))) a b → HasWritten joined_line all (take left later) a b
  joined_old all left a b same so_far = subst (λ (pairs : List WordPair). HasWritten joined_line all (take left pairs) a b) (old_here same) so_far

  pub joined_stops : (all : List WordPair) (left : ℕ) (a b c : Option (List ℕ)) → left ≢ 0 → first.line ≢ next.leader
      → HasWritten joined_line all (take left (newly_beside (drop (place - 1) list))) a b → AppendsPrefix b c (joined_line pair)
      → AppendsPrefix a c (flat_map joined_line all)
  joined_stops all left a b c none other so_far stops =
      written_prefix joined_line all (take left (newly_beside (drop (place - 1) list))) (take (left - 1) later) pair a b c (first_of left none other) so_far stops

  -- a word that comes before none of those before it
  pub order_on : (table : Collation) → is_lt (line_order table (numbered_of next) (numbered_of first)) ≡ false
      → IsSortedWithin (λ x y. is_lt (line_order table x y)) (all_numbered list) 0 place → IsSortedWithin (λ x y. is_lt (line_order table x y)) (all_numbered list) 0 (place + 1)
  order_on table ordered sorted = λ k d low high.
      by_test (λ (b : Bool). is_lt (line_order table (get_or (all_numbered list) (k + 1) d) (get_or (all_numbered list) k d)) ≡ false) (k + 1 == place)
      (λ on.
      let at : k + 1 ≡ place = eqb-true (k + 1) place on in
      let before : k ≡ place - 1 = omega (arith, at) in
      let second : get_or (all_numbered list) (k + 1) d ≡ numbered_of next =
      ap (λ (n : ℕ). get_or (all_numbered list) n d) at ∙ get_or-map numbered_of list place next d within ∙ ap numbered_of (sym next_is) in
      let one : get_or (all_numbered list) k d ≡ numbered_of first =
      ap (λ (n : ℕ). get_or (all_numbered list) n d) before ∙ get_or-map numbered_of list (place - 1) first d (omega (arith, within)) ∙ ap numbered_of (sym is) in
      ap (λ (word : NumberedWord). is_lt (line_order table word (get_or (all_numbered list) k d))) second
      ∙ ap (λ (word : NumberedWord). is_lt (line_order table (numbered_of next) word)) one ∙ ordered)
      (λ off. let other : k + 1 ≢ place = eqb-false (k + 1) place off in sorted k d low (omega (arith, high, other)))

module _ (list : List ListedWord) (place : ℕ) (d e : ListedWord) (above : 0 < place) (within : place < length list) where
  abbrev pub first_at : ListedWord
  first_at = get_or list (place - 1) d

  abbrev pub next_at : ListedWord
  next_at = get_or list place e

  first_is : first_at ≡ get_or list (place - 1) first_at
  first_is = same_member list (place - 1) d first_at (omega (arith, within))

  next_is : next_at ≡ get_or list place next_at
  next_is = same_member list place e next_at within

  -- the same of two words as they stand in the list
  pub order_on_at : (table : Collation) → is_lt (line_order table (numbered_of next_at) (numbered_of first_at)) ≡ false
      → IsSortedWithin (λ x y. is_lt (line_order table x y)) (all_numbered list) 0 place → IsSortedWithin (λ x y. is_lt (line_order table x y)) (all_numbered list) 0 (place + 1)
  order_on_at table ordered sorted = order_on list place first_at next_at above within first_is next_is table ordered sorted

  pub counted_new_at : (count : ℕ) → CountedSoFar list place count → first_at.line ≢ next_at.leader → CountedSoFar list (place + 1) (count + 1)
  counted_new_at count so_far other = counted_new list place first_at next_at above within first_is next_is count so_far other

  pub counted_old_at : (count : ℕ) → CountedSoFar list place count → first_at.line ≡ next_at.leader → CountedSoFar list (place + 1) count
  counted_old_at count so_far same = counted_old list place first_at next_at above within first_is next_is count so_far same

  abbrev later_at : List WordPair
  later_at = newly_beside (drop (place + 1 - 1) list)

  pub joined_new_at : (all : List WordPair) (left : ℕ) (a b c : Option (List ℕ)) → left ≢ 0 → first_at.line ≢ next_at.leader
      → HasWritten joined_line all (take left (newly_beside (drop (place - 1) list))) a b → Appends b c (joined_line (numbered_of first_at, numbered_of next_at))
      → HasWritten joined_line all (take (left - 1) later_at) a c
  joined_new_at all left a b c none other so_far sent = joined_new list place first_at next_at above within first_is next_is all left a b c none other so_far sent

  pub joined_old_at : (all : List WordPair) (left : ℕ) (a b : Option (List ℕ)) → first_at.line ≡ next_at.leader
      → HasWritten joined_line all (take left (newly_beside (drop (place - 1) list))) a b → HasWritten joined_line all (take left later_at) a b
  joined_old_at all left a b same so_far = joined_old list place first_at next_at above within first_is next_is all left a b same so_far

  pub joined_stops_at : (all : List WordPair) (left : ℕ) (a b c : Option (List ℕ)) → left ≢ 0 → first_at.line ≢ next_at.leader
      → HasWritten joined_line all (take left (newly_beside (drop (place - 1) list))) a b → AppendsPrefix b c (joined_line (numbered_of first_at, numbered_of next_at))
      → AppendsPrefix a c (flat_map joined_line all)
  joined_stops_at all left a b c none other so_far stops = joined_stops list place first_at next_at above within first_is next_is all left a b c none other so_far stops

-- where as many words are in order as there are, all are
pub whole_ordered : (table : Collation) (items list : List ListedWord) (count : ℕ) → list ≡ items → count ≡ length items → IsOrderedTo table (all_numbered list) count
    → IsSorted (line_order table) (all_numbered items)
whole_ordered table items list count same whole ordered = λ k d low high.
    subst (λ (l : List ListedWord). is_lt (line_order table (get_or (all_numbered l) (k + 1) d) (get_or (all_numbered l) k d)) ≡ false) same
    (ordered k d low (omega (arith, high, whole, length-map items numbered_of)))
