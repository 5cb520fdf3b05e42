-- What the characters of texts weigh decides their order.
use Rattle.std.proofs.Common.{◌≡◌, inl, inr, ⊎_elim, ℕ, zero, suc, ◌+◌, ◌<◌, ◌≤◌, Bool, true, false, List, [], ◌∷◌, ◌++◌, length, map, Option, None, Some, chars, refl, sym, ap, subst, ◌∙◌, append_assoc, arith, drop, get_or}
use Rattle.std.specs.Prelude.{IfSome, slice_index_or}
use Rattle.std.specs.List.{flat_map}
use Rattle.std.specs.Ordering.{is_lt, is_ne, nat_cmp, ordering_then}
use Rattle.std.specs.declared.cmp.Ordering.{Ordering}
use Rattle.std.specs.declared.cmp.Ordering.TheVariants.{Less, Equal, Greater}
use Rattle.std.specs.Cmp.{nat_cmp_is}
use Rattle.std.proofs.lemmas.Bool.{false≢true, true≢false}
use Rattle.std.proofs.lemmas.List.{map-append}
use Rattle.std.specs.Str.{IsUtf8}
use Rattle.std.proofs.lemmas.Str.{IsCharBoundary-after_ascii, IsUtf8-drop, chars-nil, chars_past_char, encode_ascii}
use Rattle.coll_syntax.specs.declared.identifiers.Id.TheVariants.{Char}
use Rattle.coll_syntax.specs.declared.rules.Rule.{Rule}
use Rattle.coll_nodes.specs.Table.{Collation}
use Rattle.coll_elements.specs.Elements.{Element, beyond_first, element_id, element_text, elements_of, elements_placed, split}
use Rattle.coll_ranks.specs.LevelWeights.{row_numbers}
use Rattle.coll_ranks.specs.RankLists.{WeightsValue}
use Rattle.coll_ranks.specs.WeightNumbers.{numbers_at}
use Rattle.coll_ranks.specs.declared.text_elements.ElementRow.{ElementRow}
use Rattle.coll_nodes.specs.WellFormed.{IsWellFormed}
use Rattle.coll_key.proofs.KeyOrder.{keys_in_order}
use Rattle.coll_key.specs.SortKey.{key_of}
use Rattle.coll_key.proofs.LevelLemmas.{level_list_same}
use Rattle.coll_key.proofs.OrderLemmas.{order_decided, order_from, order_goes_on}
use Rattle.coll_key.proofs.RowLemmas.{list_alike}
use Rattle.coll_key.specs.RowKeys.{AreRowsOf}
use Rattle.coll_key.specs.LevelList.{items, items_of, level_list, listed, position_of}
use Rattle.coll_key.specs.TextOrder.{level_lists, list_order, order_of}
use Rattle.coll_letters.specs.AlikeLevels.{AreAlike}
use Rattle.coll_letters.specs.ElementMarks.{AreMarks, GoesOnOther, GoesOnOtherAt, IsAloneAt, IsApart, IsApartAt, IsSameAt, StandsAlone, pair_mark}
use Rattle.coll_letters.proofs.LevelNumberLemmas.{gaps_tell_nothing}
use Rattle.coll_letters.proofs.MarkLemmas.{stands_apart}
use Rattle.coll_letters.specs.LetterWeights.{DecidesBoth, GoesOn, IsFirstLetter, IsLevelOrder, IsRowOf, IsStep, IsStepAtEnd, IsStepOfBoth, OrdersAlike, OrdersAlikeAt, OrdersSo, PassesAtEnd, PassesOne, list_behind, order_at_end, order_behind, text_items, text_numbers}
use Rattle.coll_letters.specs.declared.element_marks.ElementMarks.{ElementMarks}
use Rattle.coll_letters.specs.declared.letter_weights.FirstLetter.{FirstLetter}
use Rattle.coll_letters.specs.declared.letter_weights.LetterStep.{LetterStep}
use Rattle.coll_letters.specs.declared.letter_weights.LetterStep.TheVariants.{Decided, Later, PassedFirst, PassedSecond, Unknown}

-- One level after another.

-- the items of elements are those of their numbers
pub items_by_numbers : {P : Type 0} (f : P → List ℕ) (ps : List P) → items f ps ≡ flat_map items_of (map f ps)
items_by_numbers f [] = refl
items_by_numbers f (p ∷ ps) = ap (λ (xs : List (Option ℕ)). items_of (f p) ++ xs) (items_by_numbers f ps)

-- the list of a level that is looked at from the front
forward_list : (table : Collation) (level : ℕ) (rule : Rule) → rule.backward ≡ false → (text : List ℕ)
    → level_list rule (numbers_at table level) (elements_of table text) ≡ list_behind table level rule.position 0 text
forward_list table level rule forward text =
    rw forward (ap (listed rule.position 0) (items_by_numbers (numbers_at table level) (elements_of table text)))

-- how a level that is looked at from the front orders two texts
pub level_orders_at : (table : Collation) (level : ℕ) (rule : Rule) (text other : List ℕ) (order : Ordering) → rule.backward ≡ false → order ≡ order_behind table level rule.position 0 text other
    → IsLevelOrder table level rule text other order
level_orders_at table level rule text other order forward orders =
    orders
    ∙ ap (λ (l : List ℕ). list_order l (list_behind table level rule.position 0 other)) (sym (forward_list table level rule forward text))
    ∙ ap (list_order (level_list rule (numbers_at table level) (elements_of table text))) (sym (forward_list table level rule forward other))

-- the same where it is told of what is left of both texts
pub level_orders_behind : (table : Collation) (level : ℕ) (rule : Rule) (text other left right : List ℕ) (found : Option Ordering) → rule.backward ≡ false
    → OrdersAlikeAt table level rule.position text other left right → IfSome found (λ order. order ≡ order_behind table level rule.position 0 left right) → IfSome found (IsLevelOrder table level rule text other)
level_orders_behind table level rule text other left right None forward alike orders = tt
level_orders_behind table level rule text other left right (Some order) forward alike orders =
    let one = alike 0 in
    level_orders_at table level rule text other order forward (orders ∙ sym (one.1 ∙ gaps_tell_nothing table level rule.position one.0 left right))

-- or whatever gaps came before
pub level_orders : (table : Collation) (level : ℕ) (rule : Rule) (text other : List ℕ) (order : Ordering) → rule.backward ≡ false → OrdersSo table level text other order
    → IsLevelOrder table level rule text other order
level_orders table level rule text other order forward orders = level_orders_at table level rule text other order forward (orders rule.position 0)

-- the same where it is told of what is left of both texts
pub level_orders_left : (table : Collation) (level : ℕ) (rule : Rule) (text other left right : List ℕ) (order : Ordering) → rule.backward ≡ false
    → OrdersAlikeAt table level rule.position text other left right → OrdersSo table level left right order → IsLevelOrder table level rule text other order
level_orders_left table level rule text other left right order forward alike orders =
    let one = alike 0 in
    level_orders_at table level rule text other order forward (orders rule.position one.0 ∙ sym one.1)

-- and how one that is looked at from the back does, by rows
pub level_orders_by_rows : (table : Collation) (level : ℕ) (rule : Rule) (f : ElementRow → List ℕ) (weights : WeightsValue) → ((row : ElementRow) → f row ≡ row_numbers weights level row)
    → level < length table.rules → (text other : List ℕ) (rows others : List ElementRow) (order : Ordering) → AreRowsOf table text weights rows → AreRowsOf table other weights others
    → order ≡ list_order (level_list rule f rows) (level_list rule f others) → IsLevelOrder table level rule text other order
level_orders_by_rows table level rule f weights same within text other rows others order are other_are orders =
    orders
    ∙ ap (λ (l : List ℕ). list_order l (level_list rule f others)) (listed_alike text rows are)
    ∙ ap (list_order (level_list rule (numbers_at table level) (elements_of table text))) (listed_alike other others other_are)
  where
    listed_alike : (text : List ℕ) (rows : List ElementRow) → AreRowsOf table text weights rows → level_list rule f rows ≡ level_list rule (numbers_at table level) (elements_of table text)
    listed_alike text rows are =
        list_alike rule f (row_numbers weights level) same rows ∙ level_list_same rule (row_numbers weights level) (numbers_at table level) rows (elements_of table text) (are level within)

-- the level at hand decides, where its order was found
pub found_decides : {P : Type 0} (f : ℕ → P → List ℕ) (ps qs : List P) (level : ℕ) (rules_now rules : List Rule) (rule : Rule) (found : Option Ordering) (order : Ordering) → found ≡ Some order
    → rules_now ≡ rules → level < length rules_now → true ≡ is_ne order
    → IfSome found (λ o. o ≡ list_order (level_list (get_or rules_now level rule) (f level) ps) (level_list (get_or rules_now level rule) (f level) qs))
    → order_from f ps qs level (drop level rules) ≡ order
found_decides f ps qs level rules_now rules rule found order is same within ne decides =
    order_decided f ps qs level rules_now rules rule order same within ne
    (subst (λ (o : Option Ordering). IfSome o (λ p. p ≡ list_order (level_list (get_or rules_now level rule) (f level) ps) (level_list (get_or rules_now level rule) (f level) qs))) is decides)

-- or leaves it to the next one
pub found_goes_on : {P : Type 0} (f : ℕ → P → List ℕ) (ps qs : List P) (level : ℕ) (rules_now rules : List Rule) (rule : Rule) (found : Option Ordering) (order whole : Ordering)
    → found ≡ Some order → rules_now ≡ rules → level < length rules_now → false ≡ is_ne order
    → IfSome found (λ o. o ≡ list_order (level_list (get_or rules_now level rule) (f level) ps) (level_list (get_or rules_now level rule) (f level) qs))
    → whole ≡ order_from f ps qs level (drop level rules) → whole ≡ order_from f ps qs (level + 1) (drop (level + 1) rules)
found_goes_on f ps qs level rules_now rules rule found order whole is same within eq passes so_far =
    order_goes_on f ps qs level rules_now rules rule order whole same within eq
    (subst (λ (o : Option Ordering). IfSome o (λ p. p ≡ list_order (level_list (get_or rules_now level rule) (f level) ps) (level_list (get_or rules_now level rule) (f level) qs))) is passes) so_far

-- the order of two texts is that of all their levels
pub order_by_levels : (table : Collation) (text other : List ℕ) → order_of table text other ≡ order_from (numbers_at table) (elements_of table text) (elements_of table other) 0 table.rules
unfolding order_of level_lists
order_by_levels table text other = refl

decided : (order later : Ordering) → is_ne order ≡ true → order ≡ ordering_then order later
decided Less later ne = refl
decided Equal later ne = absurd cc
decided Greater later ne = refl

-- Characters.

-- a character that stands alone is the first element
pub alone_first : (table : Collation) (c : ℕ) (rest : List ℕ) → StandsAlone table c rest → elements_of table (c ∷ rest) ≡ Char c ∷ elements_of table rest
unfolding elements_of
alone_first table c rest alone =
    ap (λ (found : Option Element). element_id found c ∷ split element_text (elements_placed table) element_id (beyond_first element_text found) rest) alone

pub letter_alone : (table : Collation) (c : ℕ) (text rest : List ℕ) → text ≡ c ∷ rest → StandsAlone table c rest → (level : ℕ)
    → text_numbers table level text ≡ numbers_at table level (Char c) ∷ text_numbers table level rest
letter_alone table c text rest is alone level = ap (text_numbers table level) is ∙ ap (map (numbers_at table level)) (alone_first table c rest alone)

pub letter_first : (table : Collation) (weights : WeightsValue) (c : ℕ) (row : ElementRow) (text rest : List ℕ) → text ≡ c ∷ rest → StandsAlone table c rest → IsRowOf table weights c row
    → (level : ℕ) → level < length table.rules → text_numbers table level text ≡ row_numbers weights level row ∷ text_numbers table level rest
letter_first table weights c row text rest is alone has level within =
    letter_alone table c text rest is alone level
    ∙ ap (λ (ns : List ℕ). ns ∷ text_numbers table level rest) (sym (has.numbers level within))

-- no text has no numbers
none_behind : (table : Collation) (level : ℕ) (position : Bool) (gaps : ℕ) → list_behind table level position gaps [] ≡ []
unfolding elements_of
none_behind table level position gaps = refl

-- Steps.

-- what both begin with changes no order
pub same_front : (ns xs ys : List ℕ) → list_order (ns ++ xs) (ns ++ ys) ≡ list_order xs ys
same_front [] xs ys = refl
same_front (n ∷ ns) xs ys = ap (λ (o : Ordering). ordering_then o (list_order (ns ++ xs) (ns ++ ys))) (sym (nat_cmp_is n n Equal refl)) ∙ same_front ns xs ys

not_ne : (o later : Ordering) → is_ne o ≡ false → ordering_then o later ≡ later
not_ne Less later eq = absurd cc
not_ne Equal later eq = refl
not_ne Greater later eq = absurd cc

-- a number behind as many gaps in both
same_number : (position : Bool) (gaps n : ℕ) (xs ys : List ℕ) → list_order (position_of position gaps ++ n ∷ xs) (position_of position gaps ++ n ∷ ys) ≡ list_order xs ys
same_number position gaps n xs ys = same_front (position_of position gaps) (n ∷ xs) (n ∷ ys) ∙ same_front (n ∷ []) xs ys

-- numbers without a gap before them
same_some : (position : Bool) (ns : List ℕ) (xs ys : List (Option ℕ)) → list_order (listed position 0 (map Some ns ++ xs)) (listed position 0 (map Some ns ++ ys))
    ≡ list_order (listed position 0 xs) (listed position 0 ys)
same_some position [] xs ys = refl
same_some position (n ∷ ns) xs ys =
    same_number position 0 n (listed position 0 (map Some ns ++ xs)) (listed position 0 (map Some ns ++ ys)) ∙ same_some position ns xs ys

-- the same element leaves it to what comes later
pub same_element : (position : Bool) (gaps : ℕ) (ns : List ℕ) (xs ys : List (Option ℕ))
    → (after : ℕ) × (list_order (listed position gaps (items_of ns ++ xs)) (listed position gaps (items_of ns ++ ys)) ≡ list_order (listed position after xs) (listed position after ys))
same_element position gaps [] xs ys = (suc gaps, refl)
same_element position gaps (n ∷ ns) xs ys =
    (0, same_number position gaps n (listed position 0 (map Some ns ++ xs)) (listed position 0 (map Some ns ++ ys)) ∙ same_some position ns xs ys)

-- two numbers decide
pub singles_decide : (n m : ℕ) (ns ms : List ℕ) (order : Ordering) → ns ≡ n ∷ [] → ms ≡ m ∷ [] → order ≡ nat_cmp n m → is_ne order ≡ true → DecidesBoth ns ms order
singles_decide n m ns ms order is other_is order_is ne = λ position gaps xs ys.
    decided order (list_order (listed position 0 xs) (listed position 0 ys)) ne
    ∙ ap (λ (o : Ordering). ordering_then o (list_order (listed position 0 xs) (listed position 0 ys))) order_is
    ∙ sym (same_front (position_of position gaps) (n ∷ listed position 0 xs) (m ∷ listed position 0 ys))
    ∙ ap (λ (l : List ℕ). list_order (listed position gaps (items_of l ++ xs)) (listed position gaps (items_of (m ∷ []) ++ ys))) (sym is)
    ∙ ap (λ (l : List ℕ). list_order (listed position gaps (items_of ns ++ xs)) (listed position gaps (items_of l ++ ys))) (sym other_is)

-- or they don't
pub singles_pass : (n m : ℕ) (ns ms : List ℕ) (order : Ordering) → ns ≡ n ∷ [] → ms ≡ m ∷ [] → order ≡ nat_cmp n m → is_ne order ≡ false
    → (position : Bool) (gaps : ℕ) (xs ys : List (Option ℕ))
    → list_order (listed position gaps (items_of ns ++ xs)) (listed position gaps (items_of ms ++ ys)) ≡ list_order (listed position 0 xs) (listed position 0 ys)
singles_pass n m ns ms order is other_is order_is eq position gaps xs ys =
    ap (λ (l : List ℕ). list_order (listed position gaps (items_of l ++ xs)) (listed position gaps (items_of ms ++ ys))) is
    ∙ ap (λ (l : List ℕ). list_order (listed position gaps (items_of (n ∷ []) ++ xs)) (listed position gaps (items_of l ++ ys))) other_is
    ∙ same_front (position_of position gaps) (n ∷ listed position 0 xs) (m ∷ listed position 0 ys)
    ∙ ap (λ (o : Ordering). ordering_then o (list_order (listed position 0 xs) (listed position 0 ys))) (sym order_is)
    ∙ not_ne order (list_order (listed position 0 xs) (listed position 0 ys)) eq

-- a byte that is a character by itself
pub byte_first : (b : ℕ) (rest : List ℕ) → IsUtf8 (b ∷ rest) → b < 128 → chars (b ∷ rest) ≡ b ∷ chars rest
byte_first b rest utf8 low = chars_past_char (b ∷ rest) rest b utf8 (sym (ap (λ (l : List ℕ). l ++ rest) (encode_ascii b low)))

pub behind_byte : (b : ℕ) (rest : List ℕ) → IsUtf8 (b ∷ rest) → b < 128 → IsUtf8 rest
behind_byte b rest utf8 low = IsUtf8-drop (b ∷ rest) 1 utf8 (IsCharBoundary-after_ascii (b ∷ rest) 0 utf8 (omega arith) low)

-- no element begins with it there
goes_on_first : (marks : ElementMarks) (b : ℕ) (rest : List ℕ) → IsUtf8 rest → GoesOnOtherAt marks (b ∷ rest) 0 → GoesOnOther marks b (chars rest)
goes_on_first marks b [] utf8 goes = subst (GoesOnOther marks b) (sym chars-nil) tt
goes_on_first marks b (d ∷ more) utf8 goes =
    ⊎_elim
    (λ (short : length (b ∷ d ∷ more) ≤ suc 0). absurd (omega (arith, short)))
    (λ (low : (d < 128) × (pair_mark marks b d ≡ 0)). subst (GoesOnOther marks b) (sym (byte_first d more utf8 low.0)) low.1)
    goes

pub apart_first : (marks : ElementMarks) (b : ℕ) (rest : List ℕ) → IsUtf8 rest → IsApartAt marks (b ∷ rest) 0 → IsApart marks b (chars rest)
apart_first marks b rest utf8 apart =
    ⊎_elim
    (λ (none : slice_index_or marks.firsts b 0 ≡ 0). inl none)
    (λ (low : (slice_index_or marks.firsts b 0 < 2) × GoesOnOtherAt marks (b ∷ rest) 0). inr (low.0, goes_on_first marks b rest utf8 low.1))
    apart

-- nor with one behind it
goes_on_behind : (marks : ElementMarks) (b : ℕ) (bytes : List ℕ) (place : ℕ) → GoesOnOtherAt marks (b ∷ bytes) (suc place) → GoesOnOtherAt marks bytes place
goes_on_behind marks b bytes place goes =
    ⊎_elim
    (λ (short : length (b ∷ bytes) ≤ suc (suc place)). inl (omega (arith, short)))
    (λ (low : (slice_index_or bytes (suc place) 0 < 128) × (pair_mark marks (slice_index_or bytes place 0) (slice_index_or bytes (suc place) 0) ≡ 0)). inr low)
    goes

pub apart_behind : (marks : ElementMarks) (b : ℕ) (bytes : List ℕ) (place : ℕ) → IsApartAt marks (b ∷ bytes) (suc place) → IsApartAt marks bytes place
apart_behind marks b bytes place apart =
    ⊎_elim
    (λ (none : slice_index_or marks.firsts (slice_index_or bytes place 0) 0 ≡ 0). inl none)
    (λ (low : (slice_index_or marks.firsts (slice_index_or bytes place 0) 0 < 2) × GoesOnOtherAt marks (b ∷ bytes) (suc place)). inr (low.0, goes_on_behind marks b bytes place low.1))
    apart

pub alone_behind : (marks : ElementMarks) (b : ℕ) (bytes : List ℕ) (place : ℕ) → IsAloneAt marks (b ∷ bytes) (suc place) → IsAloneAt marks bytes place
alone_behind marks b bytes place is = record { within = omega (arith, is.within); alone = is.alone; apart = apart_behind marks b bytes place is.apart }

-- behind such characters a text goes on, and is no longer
pub record GoesOnBehind (text rest : List ℕ) : Type 0 where
  pub utf8 : IsUtf8 rest
  pub shorter : length (chars rest) ≤ length (chars text)

pub behind_bytes : (marks : ElementMarks) (count : ℕ) (text : List ℕ) → IsUtf8 text → ((k : ℕ) → k < count → IsAloneAt marks text k) → GoesOnBehind text (drop count text)
behind_bytes marks zero text utf8 alone = record { utf8 = utf8; shorter = omega arith }
behind_bytes marks (suc count) [] utf8 alone = absurd (omega (arith, (alone 0 (omega arith)).within))
behind_bytes marks (suc count) (b ∷ text) utf8 alone =
    let here = alone 0 (omega arith) in
    let later : GoesOnBehind text (drop count text) =
    behind_bytes marks count text (behind_byte b text utf8 here.alone) (λ k within. alone_behind marks b text k (alone (suc k) (omega (arith, within)))) in
    record { utf8 = later.utf8; shorter = omega (arith, later.shorter, ap length (byte_first b text utf8 here.alone)) }

-- one pair of texts after another
pub alike_on : (table : Collation) (level : ℕ) (text other later others last last_other : List ℕ) → OrdersAlike table level text other later others
    → OrdersAlike table level later others last last_other → OrdersAlike table level text other last last_other
alike_on table level text other later others last last_other first second = λ position gaps.
    let one = first position gaps in
    let two = second position one.0 in
    (two.0, one.1 ∙ two.1)

-- the same with positions, or without
pub alike_at : (table : Collation) (level : ℕ) (position : Bool) (text other later others last last_other : List ℕ) → OrdersAlikeAt table level position text other later others
    → OrdersAlikeAt table level position later others last last_other → OrdersAlikeAt table level position text other last last_other
alike_at table level position text other later others last last_other first second = λ gaps.
    let one = first gaps in
    let two = second one.0 in
    (two.0, one.1 ∙ two.1)

-- without positions gaps tell nothing
gaps_unseen : (gaps after : ℕ) (xs : List (Option ℕ)) → listed false gaps xs ≡ listed false after xs
gaps_unseen gaps after [] = refl
gaps_unseen gaps after (None ∷ xs) = gaps_unseen (suc gaps) (suc after) xs
gaps_unseen gaps after (Some n ∷ xs) = refl

-- an order that is told of what is left
pub orders_before : (table : Collation) (level : ℕ) (text other later others : List ℕ) (order : Ordering) → OrdersAlike table level text other later others
    → OrdersSo table level later others order → OrdersSo table level text other order
orders_before table level text other later others order alike orders = λ position gaps.
    let one = alike position gaps in
    orders position one.0 ∙ sym one.1

module _ (table : Collation) (level : ℕ) where
  -- the list of a text by the numbers of its first element
  pub begin_behind : (text : List ℕ) (ns : List ℕ) (rest : List (List ℕ)) (position : Bool) (gaps : ℕ) → text_numbers table level text ≡ ns ∷ rest
      → list_behind table level position gaps text ≡ listed position gaps (items_of ns ++ flat_map items_of rest)
  begin_behind text ns rest position gaps is = ap (λ (l : List (List ℕ)). listed position gaps (flat_map items_of l)) is

  -- the same character leaves it to what comes later
  pub step_same : (text other rest rest_other : List ℕ) (c d : ℕ) → text ≡ c ∷ rest → other ≡ d ∷ rest_other → c ≡ d → StandsAlone table c rest → StandsAlone table c rest_other
      → GoesOn table level text other rest rest_other
  step_same text other rest rest_other c d is other_is same alone other_alone =
      let numbers = numbers_at table level (Char c) in
      let here : other ≡ c ∷ rest_other = other_is ∙ ap (λ (e : ℕ). e ∷ rest_other) (sym same) in
      record {
        same = λ position gaps.
            let first = begin_behind text numbers (text_numbers table level rest) position gaps (letter_alone table c text rest is alone level) in
            let second = begin_behind other numbers (text_numbers table level rest_other) position gaps (letter_alone table c other rest_other here other_alone level) in
            let one = same_element position gaps numbers (flat_map items_of (text_numbers table level rest)) (flat_map items_of (text_numbers table level rest_other)) in (
              one.0,
              ap (λ (l : List ℕ). list_order l (list_behind table level position gaps other)) first
                  ∙ ap (list_order (listed position gaps (items_of numbers ++ flat_map items_of (text_numbers table level rest)))) second ∙ one.1,
            );
        shorter = omega (arith, ap length is);
        shorter_other = omega (arith, ap length other_is);
      }

  -- what both begin with, byte by byte, leaves it to what comes later
  pub same_behind : (marks : ElementMarks) → AreMarks table marks → (count : ℕ) (text other : List ℕ) → IsUtf8 text → IsUtf8 other → ((k : ℕ) → k < count → IsSameAt marks text other k)
      → OrdersAlike table level (chars text) (chars other) (chars (drop count text)) (chars (drop count other))
  same_behind marks are zero text other utf8 other_utf8 same = λ position gaps. (gaps, refl)
  same_behind marks are (suc count) [] other utf8 other_utf8 same = absurd (omega (arith, (same 0 (omega arith)).first.within))
  same_behind marks are (suc count) (b ∷ text) [] utf8 other_utf8 same = absurd (omega (arith, (same 0 (omega arith)).second.within))
  same_behind marks are (suc count) (b ∷ text) (o ∷ other) utf8 other_utf8 same =
      let here = same 0 (omega arith) in
      let later_utf8 : IsUtf8 text = behind_byte b text utf8 here.first.alone in
      let others_utf8 : IsUtf8 other = behind_byte o other other_utf8 here.second.alone in
      let apart : StandsAlone table b (chars text) = stands_apart table marks are b (chars text) (apart_first marks b text later_utf8 here.first.apart) in
      let other_apart : StandsAlone table b (chars other) =
      subst (λ (c : ℕ). StandsAlone table c (chars other)) (sym here.same) (stands_apart table marks are o (chars other) (apart_first marks o other others_utf8 here.second.apart)) in
      let one = step_same (chars (b ∷ text)) (chars (o ∷ other)) (chars text) (chars other) b o (byte_first b text utf8 here.first.alone) (byte_first o other other_utf8 here.second.alone) here.same apart
      other_apart in
      alike_on table level (chars (b ∷ text)) (chars (o ∷ other)) (chars text) (chars other) (chars (drop count text)) (chars (drop count other)) one.same
      (same_behind marks are count text other later_utf8 others_utf8 (λ k within.
      let next = same (suc k) (omega (arith, within)) in
      record { same = next.same; first = alone_behind marks b text k next.first; second = alone_behind marks o other k next.second }))

  -- the text that goes on where the other one ended is greater
  greater_at_end : (xs : List ℕ) → order_at_end Greater xs ≡ list_order xs []
  greater_at_end [] = refl
  greater_at_end (x ∷ xs) = refl

  less_at_end : (xs : List ℕ) → order_at_end Less xs ≡ list_order [] xs
  less_at_end [] = refl
  less_at_end (x ∷ xs) = refl

  pub step_greater : (plain : Bool) (text other : List ℕ) (step : LetterStep) → other ≡ [] → IsStepAtEnd table level plain text Greater step → IsStep table level plain text other step
  step_greater plain text other (Decided order) ended ends = λ position gaps.
      ends position gaps ∙ greater_at_end (list_behind table level position gaps text)
      ∙ sym (ap (λ (l : List ℕ). list_order (list_behind table level position gaps text) (list_behind table level position gaps l)) ended
      ∙ ap (list_order (list_behind table level position gaps text)) (none_behind table level position gaps))
  step_greater plain text other (Later later others) ended ends = absurd ends
  step_greater plain text other (PassedFirst later) ended ends = record {
    same = λ gaps. (gaps, ap (λ (l : List ℕ). list_order l (list_behind table level plain gaps other)) (ends.same gaps));
    shorter = omega (arith, ends.shorter);
  }
  step_greater plain text other (PassedSecond others) ended ends = absurd (false≢true ends.side)
  step_greater plain text other Unknown ended ends = tt

  pub step_less : (plain : Bool) (text other : List ℕ) (step : LetterStep) → text ≡ [] → IsStepAtEnd table level plain other Less step → IsStep table level plain text other step
  step_less plain text other (Decided order) ended ends = λ position gaps.
      ends position gaps ∙ less_at_end (list_behind table level position gaps other)
      ∙ sym (ap (λ (l : List ℕ). list_order (list_behind table level position gaps l) (list_behind table level position gaps other)) ended
      ∙ ap (λ (l : List ℕ). list_order l (list_behind table level position gaps other)) (none_behind table level position gaps))
  step_less plain text other (Later later others) ended ends = absurd ends
  step_less plain text other (PassedFirst later) ended ends = absurd (true≢false ends.side)
  step_less plain text other (PassedSecond others) ended ends = record {
    same = λ gaps. (gaps, ap (list_order (list_behind table level plain gaps text)) (ends.same gaps));
    shorter = omega (arith, ends.shorter);
  }
  step_less plain text other Unknown ended ends = tt

  -- no text has no numbers
  pub none_at_end : (bytes : List ℕ) (wanted : Ordering) → bytes ≡ [] → (position : Bool) (gaps : ℕ) → Equal ≡ order_at_end wanted (list_behind table level position gaps (chars bytes))
  none_at_end bytes wanted none position gaps =
      sym (ap (λ (l : List ℕ). order_at_end wanted (list_behind table level position gaps (chars l))) none
      ∙ ap (λ (l : List ℕ). order_at_end wanted (list_behind table level position gaps l)) chars-nil
      ∙ ap (order_at_end wanted) (none_behind table level position gaps))

  module _ (weights : WeightsValue) (within : level < length table.rules) where
    -- the list of a text, by its first character
    begin_first : (text : List ℕ) (first : FirstLetter) (numbers : List ℕ) → IsFirstLetter table weights text first → numbers ≡ row_numbers weights level first.row → (position : Bool) (gaps : ℕ)
        → list_behind table level position gaps text ≡ listed position gaps (items_of numbers ++ flat_map items_of (text_numbers table level (chars first.rest.now)))
    begin_first text first numbers is same position gaps =
        begin_behind text numbers (text_numbers table level (chars first.rest.now)) position gaps
        (is.numbers level within ∙ ap (λ (ns : List ℕ). ns ∷ text_numbers table level (chars first.rest.now)) (sym same))

    -- a character that is ignored is passed, where gaps aren't looked at
    ignored_behind : (position : Bool) (text : List ℕ) (first : FirstLetter) (ns : List ℕ) (later : List ℕ) → IsFirstLetter table weights text first → ns ≡ row_numbers weights level first.row
        → PassesOne position ns first later → (gaps : ℕ) → list_behind table level position gaps text ≡ list_behind table level position gaps (chars later)
    ignored_behind position text first ns later is n one gaps =
        begin_first text first ns is n position gaps
        ∙ ap (λ (l : List ℕ). listed position gaps (items_of l ++ flat_map items_of (text_numbers table level (chars first.rest.now)))) one.none
        ∙ subst (λ (p : Bool). listed p (suc gaps) (text_items table level (chars first.rest.now)) ≡ listed p gaps (text_items table level (chars first.rest.now))) (sym one.plain)
        (gaps_unseen (suc gaps) gaps (text_items table level (chars first.rest.now)))
        ∙ ap (λ (l : List ℕ). list_behind table level position gaps (chars l)) (sym one.rest_is)

    -- so where the other text has ended
    pub passed_at_end : (position : Bool) (text : List ℕ) (first : FirstLetter) (ns : List ℕ) (wanted : Ordering) (is_less : Bool) → IsFirstLetter table weights text first
        → ns ≡ row_numbers weights level first.row → ns ≡ [] → position ≡ false → is_lt wanted ≡ is_less → PassesAtEnd table level position text (chars first.rest.now) wanted is_less
    passed_at_end position text first ns wanted is_less is n none plain side = record {
      same = ignored_behind position text first ns first.rest.now is n (record { none = none; plain = plain; rest_is = refl });
      shorter = is.shorter;
      side = side;
    }

    pub step_both : (plain : Bool) (text other : List ℕ) (first second : FirstLetter) (ns ms : List ℕ) (step : LetterStep) → IsFirstLetter table weights text first → IsFirstLetter table weights other second
        → ns ≡ row_numbers weights level first.row → ms ≡ row_numbers weights level second.row → IsStepOfBoth plain ns ms first second step → IsStep table level plain text other step
    step_both plain text other first second ns ms (Decided order) is other_is n m steps = λ position gaps.
        steps position gaps (flat_map items_of (text_numbers table level (chars first.rest.now))) (flat_map items_of (text_numbers table level (chars second.rest.now)))
        ∙ ap (λ (l : List ℕ). list_order l (listed position gaps (items_of ms ++ flat_map items_of (text_numbers table level (chars second.rest.now)))))
        (sym (begin_first text first ns is n position gaps))
        ∙ ap (list_order (list_behind table level position gaps text)) (sym (begin_first other second ms other_is m position gaps))
    step_both plain text other first second ns ms (Later later others) is other_is n m steps = record {
      same = λ position gaps. (
        0,
        ap (λ (l : List ℕ). list_order l (list_behind table level position gaps other)) (begin_first text first ns is n position gaps)
            ∙ ap (list_order (listed position gaps (items_of ns ++ flat_map items_of (text_numbers table level (chars first.rest.now))))) (begin_first other second ms other_is m position gaps)
            ∙ steps.same position gaps (flat_map items_of (text_numbers table level (chars first.rest.now))) (flat_map items_of (text_numbers table level (chars second.rest.now)))
            ∙ ap (λ (l : List ℕ). order_behind table level position 0 (chars l) (chars second.rest.now)) (sym steps.rest_is)
            ∙ ap (λ (l : List ℕ). order_behind table level position 0 (chars later.now) (chars l)) (sym steps.other_is),
      );
      shorter = subst (λ (l : List ℕ). length (chars l) < length text) (sym steps.rest_is) is.shorter;
      shorter_other = omega (arith, subst (λ (l : List ℕ). length (chars l) < length other) (sym steps.other_is) other_is.shorter);
    }
    step_both plain text other first second ns ms (PassedFirst later) is other_is n m steps = record {
      same = λ gaps. (gaps, ap (λ (l : List ℕ). list_order l (list_behind table level plain gaps other)) (ignored_behind plain text first ns later.now is n steps gaps));
      shorter = omega (arith, subst (λ (l : List ℕ). length (chars l) < length text) (sym steps.rest_is) is.shorter);
    }
    step_both plain text other first second ns ms (PassedSecond others) is other_is n m steps = record {
      same = λ gaps. (gaps, ap (list_order (list_behind table level plain gaps text)) (ignored_behind plain other second ms others.now other_is m steps gaps));
      shorter = omega (arith, subst (λ (l : List ℕ). length (chars l) < length other) (sym steps.rest_is) other_is.shorter);
    }
    step_both plain text other first second ns ms Unknown is other_is n m steps = tt

    single_at_end : (position : Bool) (gaps n : ℕ) (xs : List (Option ℕ)) (wanted : Ordering) → wanted ≡ order_at_end wanted (listed position gaps (items_of (n ∷ []) ++ xs))
    single_at_end true gaps n xs wanted = refl
    single_at_end false gaps n xs wanted = refl

    -- a text that begins with a number has one
    pub some_at_end : (text : List ℕ) (first : FirstLetter) (numbers : List ℕ) (n : ℕ) (wanted : Ordering) → IsFirstLetter table weights text first
        → numbers ≡ row_numbers weights level first.row → numbers ≡ n ∷ [] → (position : Bool) (gaps : ℕ) → wanted ≡ order_at_end wanted (list_behind table level position gaps text)
    some_at_end text first numbers n wanted is same single position gaps =
        single_at_end position gaps n (flat_map items_of (text_numbers table level (chars first.rest.now))) wanted
        ∙ ap (λ (l : List ℕ). order_at_end wanted (listed position gaps (items_of l ++ flat_map items_of (text_numbers table level (chars first.rest.now))))) (sym single)
        ∙ ap (order_at_end wanted) (sym (begin_first text first numbers is same position gaps))

-- Levels that are alike.

-- the first text's character is passed, where so many of the first levels ignore it
pub first_passed : (table : Collation) (weights : WeightsValue) (text other : List ℕ) (first : FirstLetter) (count : ℕ) → IsFirstLetter table weights text first → count ≤ length table.rules
    → ((level : ℕ) → level < count → row_numbers weights level first.row ≡ []) → (level : ℕ) → level < count → OrdersAlikeAt table level false text other (chars first.rest.now) other
first_passed table weights text other first count is few none level within = λ gaps. (
  gaps,
  ap (λ (l : List ℕ). list_order l (list_behind table level false gaps other)) (ignored_behind table level weights (omega (arith, within, few)) false text first [] first.rest.now is
      (sym (none level within)) (record { none = refl; plain = refl; rest_is = refl }) gaps),
)

-- or the second one's
pub second_passed : (table : Collation) (weights : WeightsValue) (text other : List ℕ) (second : FirstLetter) (count : ℕ) → IsFirstLetter table weights other second → count ≤ length table.rules
    → ((level : ℕ) → level < count → row_numbers weights level second.row ≡ []) → (level : ℕ) → level < count → OrdersAlikeAt table level false text other text (chars second.rest.now)
second_passed table weights text other second count is few none level within = λ gaps. (
  gaps,
  ap (list_order (list_behind table level false gaps text)) (ignored_behind table level weights (omega (arith, within, few)) false other second [] second.rest.now is
      (sym (none level within)) (record { none = refl; plain = refl; rest_is = refl }) gaps),
)

-- where both have ended nothing tells them apart
pub alike_ended : (table : Collation) (count : ℕ) (text other left right : List ℕ) → left ≡ [] → right ≡ []
    → ((level : ℕ) → level < count → OrdersAlikeAt table level false text other (chars left) (chars right)) → AreAlike table count text other
alike_ended table count text other left right none other_none alike = λ level within.
    let one = alike level within 0 in
    sym (one.1 ∙ ap (λ (l : List ℕ). list_order l (list_behind table level false one.0 (chars right))) (ended level left none one.0) ∙ ap (list_order []) (ended level right other_none one.0))
  where
    ended : (level : ℕ) (bytes : List ℕ) → bytes ≡ [] → (gaps : ℕ) → list_behind table level false gaps (chars bytes) ≡ []
    ended level bytes none gaps =
        ap (λ (l : List ℕ). list_behind table level false gaps (chars l)) none ∙ ap (list_behind table level false gaps) chars-nil ∙ none_behind table level false gaps

-- Rows.

-- no text has no numbers
pub no_numbers : (table : Collation) (level : ℕ) (bytes : List ℕ) → bytes ≡ [] → text_numbers table level (chars bytes) ≡ []
unfolding elements_of
no_numbers table level bytes none = ap (λ (l : List ℕ). text_numbers table level (chars l)) none ∙ ap (text_numbers table level) chars-nil

-- a row more, and what is left behind it
pub one_row_more : (f : ElementRow → List ℕ) (rows with : List ElementRow) (row : ElementRow) (left later whole : List (List ℕ)) → with ≡ rows ++ row ∷ [] → left ≡ f row ∷ later
    → map f rows ++ left ≡ whole → map f with ++ later ≡ whole
one_row_more f rows with row left later whole is begins so_far =
    ap (λ (l : List ElementRow). map f l ++ later) is ∙ ap (λ (l : List (List ℕ)). l ++ later) (map-append f rows (row ∷ []))
    ∙ append_assoc (map f rows) (f row ∷ []) later ∙ ap (λ (l : List (List ℕ)). map f rows ++ l) (sym begins) ∙ so_far

same_list : (ns : List ℕ) → list_order ns ns ≡ Equal
same_list [] = refl
same_list (n ∷ ns) = ap (λ (o : Ordering). ordering_then o (list_order ns ns)) (sym (nat_cmp_is n n Equal refl)) ∙ same_list ns

-- the same texts are equal
pub same_texts : (table : Collation) → IsWellFormed table → (text other : List ℕ) → text ≡ other → Equal ≡ order_of table text other
same_texts table well text other same =
    sym (ap (order_of table text) (sym same) ∙ sym (keys_in_order table well text text) ∙ same_list (key_of table text))
