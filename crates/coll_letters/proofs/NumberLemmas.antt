-- Single numbers of the first level decide the order of texts.
use Rattle.std.proofs.Common.{◌≡◌, ℕ, zero, suc, ◌<◌, ◌≤◌, ◌≢◌, chars, drop, Bool, true, false, List, [], ◌∷◌, ◌++◌, length, map, get_or, All, refl, sym, ap, subst, ◌∙◌, arith}
use Rattle.std.specs.List.{flat_map}
use Rattle.std.specs.Prelude.{slice_index_or}
use Rattle.std.specs.Ordering.{is_ne, nat_cmp}
use Rattle.std.specs.declared.cmp.Ordering.{Ordering}
use Rattle.std.specs.declared.cmp.Ordering.TheVariants.{Less, Equal, Greater}
use Rattle.std.specs.Str.{IsUtf8}
use Rattle.std.proofs.lemmas.List.{drop_all}
use Rattle.std.proofs.lemmas.Str.{chars-nil}
use Rattle.std.proofs.lemmas.List.Elements.{All-append, All-cons, All-nil}
use Rattle.coll_syntax.specs.declared.rules.Rule.{Rule}
use Rattle.coll_nodes.specs.Table.{Collation}
use Rattle.coll_elements.specs.Elements.{elements_of}
use Rattle.coll_ranks.specs.LevelWeights.{row_numbers}
use Rattle.coll_ranks.specs.RankLists.{WeightsValue}
use Rattle.coll_ranks.specs.WeightNumbers.{numbers_at}
use Rattle.coll_ranks.specs.declared.text_elements.ElementRow.{ElementRow}
use Rattle.coll_key.proofs.OrderLemmas.{order_decided}
use Rattle.coll_key.specs.LevelList.{items_of, listed}
use Rattle.coll_key.specs.TextOrder.{list_order, order_of}
use Rattle.coll_letters.specs.ElementMarks.{AreMarks, IsSameAt, StandsAlone}
use Rattle.coll_letters.specs.FirstNumbers.{AreNumbersByCode, IsFirstNumber, IsNumberAt, IsNumberOf, LooksForward}
use Rattle.coll_letters.specs.LetterWeights.{GoesOn, IsRowOf, OrdersAlike, OrdersSo, list_behind, order_at_end, text_numbers}
use Rattle.coll_letters.specs.declared.first_numbers.FirstNumber.{FirstNumber}
use Rattle.coll_letters.proofs.MarkLemmas.{stands_apart}
use Rattle.coll_letters.proofs.LetterLemmas.{alone_behind, apart_first, begin_behind, behind_byte, behind_bytes, byte_first, letter_alone, level_orders, order_by_levels, orders_before, same_behind, singles_decide, singles_pass, step_greater, step_less}
use Rattle.coll_letters.specs.declared.element_marks.ElementMarks.{ElementMarks}
use Rattle.coll_letters.specs.declared.letter_weights.LetterStep.TheVariants.{Decided}

-- a text begins with a character of this number, and goes on with the rest
pub record IsNumbered (table : Collation) (text : List ℕ) (number : ℕ) (rest : List ℕ) : Type 0 where
  pub numbers : text_numbers table 0 text ≡ (number ∷ []) ∷ text_numbers table 0 rest
  pub shorter : length rest < length text

pub numbered_text : (table : Collation) (c : ℕ) (text rest : List ℕ) (n : ℕ) → text ≡ c ∷ rest → StandsAlone table c rest → IsNumberOf table c n → n ≢ 0 → 0 < length table.rules
    → IsNumbered table text n rest
numbered_text table c text rest zero is alone has above some = absurd (above refl)
numbered_text table c text rest (suc n) is alone has above some = record {
  numbers = letter_alone table c text rest is alone 0 ∙ ap (λ (ns : List ℕ). ns ∷ text_numbers table 0 rest) (has.single (omega arith) some);
  shorter = omega (arith, ap length is);
}

module _ (table : Collation) where
  -- two numbers decide
  pub numbers_decide : (text other rest rest_other : List ℕ) (n m : ℕ) (order : Ordering) → IsNumbered table text n rest → IsNumbered table other m rest_other → order ≡ nat_cmp n m
      → is_ne order ≡ true → OrdersSo table 0 text other order
  numbers_decide text other rest rest_other n m order is other_is order_is ne = λ position gaps.
      singles_decide n m (n ∷ []) (m ∷ []) order refl refl order_is ne position gaps (flat_map items_of (text_numbers table 0 rest)) (flat_map items_of (text_numbers table 0 rest_other))
      ∙ ap (λ (l : List ℕ). list_order l (listed position gaps (items_of (m ∷ []) ++ flat_map items_of (text_numbers table 0 rest_other))))
      (sym (begin_behind table 0 text (n ∷ []) (text_numbers table 0 rest) position gaps is.numbers))
      ∙ ap (list_order (list_behind table 0 position gaps text)) (sym (begin_behind table 0 other (m ∷ []) (text_numbers table 0 rest_other) position gaps other_is.numbers))

  -- or they leave it to what comes later
  pub numbers_leave : (text other rest rest_other : List ℕ) (n m : ℕ) (order : Ordering) → IsNumbered table text n rest → IsNumbered table other m rest_other → order ≡ nat_cmp n m
      → is_ne order ≡ false → GoesOn table 0 text other rest rest_other
  numbers_leave text other rest rest_other n m order is other_is order_is eq = record {
    same = λ position gaps. (
      0,
      ap (λ (l : List ℕ). list_order l (list_behind table 0 position gaps other)) (begin_behind table 0 text (n ∷ []) (text_numbers table 0 rest) position gaps is.numbers)
          ∙ ap (list_order (listed position gaps (items_of (n ∷ []) ++ flat_map items_of (text_numbers table 0 rest))))
          (begin_behind table 0 other (m ∷ []) (text_numbers table 0 rest_other) position gaps other_is.numbers)
          ∙ singles_pass n m (n ∷ []) (m ∷ []) order refl refl order_is eq position gaps (flat_map items_of (text_numbers table 0 rest)) (flat_map items_of (text_numbers table 0 rest_other)),
    );
    shorter = is.shorter;
    shorter_other = omega (arith, other_is.shorter);
  }

  single_at_end : (position : Bool) (gaps n : ℕ) (xs : List ℕ) (wanted : Ordering) (rest : List (List ℕ)) → wanted ≡ order_at_end wanted (listed position gaps (items_of (n ∷ []) ++ flat_map items_of rest))
  single_at_end true gaps n xs wanted rest = refl
  single_at_end false gaps n xs wanted rest = refl

  -- a text that begins with a number has one
  pub number_at_end : (text rest : List ℕ) (n : ℕ) (wanted : Ordering) → IsNumbered table text n rest → (position : Bool) (gaps : ℕ)
      → wanted ≡ order_at_end wanted (list_behind table 0 position gaps text)
  number_at_end text rest n wanted is position gaps =
      single_at_end position gaps n [] wanted (text_numbers table 0 rest)
      ∙ ap (order_at_end wanted) (sym (begin_behind table 0 text (n ∷ []) (text_numbers table 0 rest) position gaps is.numbers))

-- Bytes.

-- the byte at a place, as the first character of what is behind
number_behind : (table : Collation) (marks : ElementMarks) → AreMarks table marks → 0 < length table.rules → (place : ℕ) (bytes : List ℕ) (n : ℕ) → IsUtf8 (drop place bytes)
    → IsNumberAt table marks bytes place n → n ≢ 0 → IsNumbered table (chars (drop place bytes)) n (chars (drop (suc place) bytes))
number_behind table marks are some zero [] n utf8 is above = absurd (omega (arith, is.alone.within))
number_behind table marks are some zero (b ∷ rest) n utf8 is above =
    numbered_text table b (chars (b ∷ rest)) (chars rest) n (byte_first b rest utf8 is.alone.alone)
    (stands_apart table marks are b (chars rest) (apart_first marks b rest (behind_byte b rest utf8 is.alone.alone) is.alone.apart)) is.number above some
number_behind table marks are some (suc place) [] n utf8 is above = absurd (omega (arith, is.alone.within))
number_behind table marks are some (suc place) (b ∷ bytes) n utf8 is above =
    number_behind table marks are some place bytes n utf8 (record { alone = alone_behind marks b bytes place is.alone; number = is.number }) above

module _ (table : Collation) (marks : ElementMarks) (are : AreMarks table marks) (some : 0 < length table.rules) (front : ℕ) (text other : List ℕ) (utf8 : IsUtf8 text) (other_utf8 : IsUtf8 other)
    (same : (k : ℕ) → k < front → IsSameAt marks text other k) where
  behind_front : OrdersAlike table 0 (chars text) (chars other) (chars (drop front text)) (chars (drop front other))
  behind_front = same_behind table 0 marks are front text other utf8 other_utf8 same

  first_behind : (n : ℕ) → IsNumberAt table marks text front n → n ≢ 0 → IsNumbered table (chars (drop front text)) n (chars (drop (suc front) text))
  first_behind n is above = number_behind table marks are some front text n (behind_bytes marks front text utf8 (λ k within. (same k within).first)).utf8 is above

  second_behind : (n : ℕ) → IsNumberAt table marks other front n → n ≢ 0 → IsNumbered table (chars (drop front other)) n (chars (drop (suc front) other))
  second_behind n is above = number_behind table marks are some front other n (behind_bytes marks front other other_utf8 (λ k within. (same k within).second)).utf8 is above

  -- the numbers of both decide
  pub bytes_decide : (n m : ℕ) (order : Ordering) → IsNumberAt table marks text front n → n ≢ 0 → IsNumberAt table marks other front m → m ≢ 0 → order ≡ nat_cmp n m → is_ne order ≡ true
      → OrdersSo table 0 (chars text) (chars other) order
  bytes_decide n m order is above other_is other_above order_is ne =
      orders_before table 0 (chars text) (chars other) (chars (drop front text)) (chars (drop front other)) order behind_front
      (numbers_decide table (chars (drop front text)) (chars (drop front other)) (chars (drop (suc front) text)) (chars (drop (suc front) other)) n m order (first_behind n is above)
      (second_behind m other_is other_above) order_is ne)

  -- where one has ended, the other goes on with a number
  none_left : (bytes : List ℕ) → length bytes ≤ front → chars (drop front bytes) ≡ []
  none_left bytes ended = ap chars (drop_all front bytes ended) ∙ chars-nil

  pub ended_less : (m : ℕ) → length text ≤ front → IsNumberAt table marks other front m → m ≢ 0 → OrdersSo table 0 (chars text) (chars other) Less
  ended_less m ended is above =
      orders_before table 0 (chars text) (chars other) (chars (drop front text)) (chars (drop front other)) Less behind_front
      (step_less table 0 true (chars (drop front text)) (chars (drop front other)) (Decided Less) (none_left text ended)
      (number_at_end table (chars (drop front other)) (chars (drop (suc front) other)) m Less (second_behind m is above)))

  pub ended_greater : (n : ℕ) → length other ≤ front → IsNumberAt table marks text front n → n ≢ 0 → OrdersSo table 0 (chars text) (chars other) Greater
  ended_greater n ended is above =
      orders_before table 0 (chars text) (chars other) (chars (drop front text)) (chars (drop front other)) Greater behind_front
      (step_greater table 0 true (chars (drop front text)) (chars (drop front other)) (Decided Greater) (none_left other ended)
      (number_at_end table (chars (drop front text)) (chars (drop (suc front) text)) n Greater (first_behind n is above)))

-- The first level.

pub some_level : (rules : List Rule) → LooksForward rules → 0 < length rules
some_level [] forward = absurd forward
some_level (rule ∷ rules) forward = omega arith

first_forward : (rules : List Rule) (d : Rule) → LooksForward rules → (get_or rules 0 d).backward ≡ false
first_forward [] d forward = absurd forward
first_forward (rule ∷ rules) d forward = forward

-- what doesn't decide is no difference
pub not_ne_equal : (order : Ordering) → false ≡ is_ne order → order ≡ Equal
not_ne_equal Less eq = absurd cc
not_ne_equal Equal eq = refl
not_ne_equal Greater eq = absurd cc

-- an order of the first level that decides is that of the texts
pub first_level_decides : (table : Collation) (text other : List ℕ) (order : Ordering) → LooksForward table.rules → OrdersSo table 0 text other order → true ≡ is_ne order
    → order ≡ order_of table text other
first_level_decides table text other order forward orders ne =
    let none : Rule = record { backward = false; position = false } in
    sym (order_by_levels table text other
    ∙ order_decided (numbers_at table) (elements_of table text) (elements_of table other) 0 table.rules table.rules none order refl (some_level table.rules forward) ne
    (level_orders table 0 (get_or table.rules 0 none) text other order (first_forward table.rules none forward) orders))

-- the first rule is that of the first level
pub looks_so : (rules later : List Rule) (rule : Rule) → rules ≡ rule ∷ later → rule.backward ≡ false → LooksForward rules
looks_so rules later rule is forward = subst LooksForward (sym is) forward

-- Rows.

-- a single rank is a single number
pub single_is : (f : ℕ → ℕ) (rank n : ℕ) (ranks : List ℕ) → rank ∷ [] ≡ ranks → n ≡ f rank → map f ranks ≡ n ∷ []
single_is f rank n ranks is n_is = sym (ap (map f) is) ∙ ap (λ (m : ℕ). m ∷ []) (sym n_is)

-- a character's number is that of its row
pub number_of_row : (table : Collation) (weights : WeightsValue) (c n : ℕ) (row : ElementRow) → IsRowOf table weights c row → (0 < n → row_numbers weights 0 row ≡ n ∷ []) → IsNumberOf table c n
number_of_row table weights c n row has single = record { single = λ above some. sym (has.numbers 0 some) ∙ single above }

-- one more
pub one_more_number : (table : Collation) (kept with : List FirstNumber) (next : FirstNumber) → All (IsFirstNumber table) kept → IsFirstNumber table next → with ≡ kept ++ next ∷ []
    → All (IsFirstNumber table) with
one_more_number table kept with next all one is =
    subst (All (IsFirstNumber table)) (sym is)
    (All-append (IsFirstNumber table) kept (next ∷ []) all (All-cons (IsFirstNumber table) next [] one (All-nil (IsFirstNumber table))))

-- nobody has the number 0
pub nobody : (table : Collation) (c : ℕ) → IsNumberOf table c 0
nobody table c = record { single = λ above some. absurd (omega (arith, above)) }

-- and so has everybody in an empty list
pub no_number_yet : (table : Collation) (numbers : List ℕ) → ((c : ℕ) → slice_index_or numbers c 0 ≡ 0) → AreNumbersByCode table numbers
no_number_yet table numbers none = λ c. subst (IsNumberOf table c) (sym (none c)) (nobody table c)
