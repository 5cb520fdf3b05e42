-- Keys are ordered as their texts are, since no number of a level is the 0 that ends it.
use Rattle.std.proofs.Common.{◌≡◌, ℕ, zero, suc, ◌+◌, ◌<◌, ◌||◌, Bool, true, false, cond, List, [], ◌∷◌, ◌++◌, length, get_or, map, reverse, replicate}
use Rattle.std.proofs.Common.{Option, Some, None, Ordering, Less, Equal, Greater, All, MatchOption, refl, sym, ap, ◌∙◌, append_assoc, arith}
use Rattle.std.specs.Cmp.{nat_cmp_is}
use Rattle.std.specs.List.{flat_map}
use Rattle.std.specs.Option.{option_map, option_or, unwrap_or, is_some}
use Rattle.std.specs.Ordering.{nat_cmp, ordering_then}
use Rattle.std.proofs.lemmas.List.Elements.{All-append, All-cons, All-nil, All-map}
use Rattle.std.proofs.lemmas.List.Sorted.{All-permutation, IsPermutation-reverse}
use Rattle.coll_syntax.specs.Identifier.{same_id, has_id}
use Rattle.coll_syntax.specs.declared.identifiers.Id.{Id}
use Rattle.coll_syntax.specs.declared.identifiers.Id.TheVariants.{Undefined}
use Rattle.coll_syntax.specs.declared.rules.Rule.{Rule}
use Rattle.coll_syntax.specs.declared.weights.Weight.{Weight}
use Rattle.coll_syntax.specs.declared.weights.Weight.TheVariants.{Ignore, Own, Names}
use Rattle.coll_nodes.specs.Entries.{weight_ids}
use Rattle.coll_nodes.specs.Placement.{entry_at, place_among}
use Rattle.coll_nodes.specs.Table.{Collation, entries_of, ids_of, is_placed}
use Rattle.coll_nodes.specs.WellFormed.{IsWellFormed, HasPlacedWeights}
use Rattle.coll_nodes.specs.declared.entries.Entry.{Entry}
use Rattle.coll_elements.specs.Elements.{elements_of}
use Rattle.coll_key.specs.LevelList.{items_of, items, directed, listed, level_list, level_lists_from}
use Rattle.coll_ranks.specs.WeightNumbers.{number_of, undefined_weights, weights_or, weights_of, weight_at, own_number, weight_numbers, code_point, numbers_at}
use Rattle.coll_elements.specs.Rank.{rank_unplaced, known_rank}
use Rattle.coll_key.specs.SortKey.{ended, key_of, KeysAreOrderedAsTexts}
use Rattle.coll_key.specs.TextOrder.{list_order, first_difference, level_lists, order_of}
use Rattle.coll_elements.proofs.Tests.{by_test}

-- the first member of a list, and the others
pub All-first : {X : Type 0} (P : X → Type 0) (x : X) (xs : List X) → All P (x ∷ xs) → P x
All-first P x xs all = all 0 x (omega arith)

pub All-others : {X : Type 0} (P : X → Type 0) (x : X) (xs : List X) → All P (x ∷ xs) → All P xs
All-others P x xs all = λ k d within. all (suc k) d (omega arith)

-- the two parts of a list
All-prefix : {X : Type 0} (P : X → Type 0) (xs ys : List X) → All P (xs ++ ys) → All P xs
All-prefix P [] ys all = All-nil P
All-prefix P (x ∷ xs) ys all = All-cons P x xs (All-first P x (xs ++ ys) all) (All-prefix P xs ys (All-others P x (xs ++ ys) all))

All-back : {X : Type 0} (P : X → Type 0) (xs ys : List X) → All P (xs ++ ys) → All P ys
All-back P [] ys all = all
All-back P (x ∷ xs) ys all = All-back P xs ys (All-others P x (xs ++ ys) all)

-- Lists of numbers.

-- a number is above 0
abbrev pub IsPositive : ℕ → Type 0
IsPositive n = 0 < n

-- an item is a gap, or a number above 0
abbrev IsPositiveItem : Option ℕ → Type 0
IsPositiveItem item = MatchOption item (Unit {0}) IsPositive

-- an order that is joined of three
then_assoc : (a b c : Ordering) → ordering_then a (ordering_then b c) ≡ ordering_then (ordering_then a b) c
then_assoc Less b c = refl
then_assoc Equal b c = refl
then_assoc Greater b c = refl

-- of two lists that a 0 ends each, the numbers before it decide first
ended_order : (xs ys ks ls : List ℕ) → All IsPositive xs → All IsPositive ys → list_order (xs ++ 0 ∷ ks) (ys ++ 0 ∷ ls) ≡ ordering_then (list_order xs ys) (list_order ks ls)
ended_order [] [] ks ls left right = refl
ended_order [] (y ∷ ys) ks ls left right = ap (λ o. ordering_then o (list_order ks (ys ++ 0 ∷ ls))) (sym (nat_cmp_is 0 y Less (All-first IsPositive y ys right)))
ended_order (x ∷ xs) [] ks ls left right = ap (λ o. ordering_then o (list_order (xs ++ 0 ∷ ks) ls)) (sym (nat_cmp_is x 0 Greater (All-first IsPositive x xs left)))
ended_order (x ∷ xs) (y ∷ ys) ks ls left right =
    ap (ordering_then (nat_cmp x y)) (ended_order xs ys ks ls (All-others IsPositive x xs left) (All-others IsPositive y ys right))
    ∙ then_assoc (nat_cmp x y) (list_order xs ys) (list_order ks ls)

-- items in either direction
directed_positive : (backward : Bool) (sequence : List (Option ℕ)) → All IsPositiveItem sequence → All IsPositiveItem (directed backward sequence)
directed_positive true sequence all = All-permutation IsPositiveItem sequence (reverse sequence) (IsPermutation-reverse sequence) all
directed_positive false sequence all = all

-- the items of numbers above 0
items_of_positive : (ns : List ℕ) → All IsPositive ns → All IsPositiveItem (items_of ns)
items_of_positive [] all = All-cons IsPositiveItem None [] tt (All-nil IsPositiveItem)
items_of_positive (n ∷ ns) all = All-map IsPositiveItem Some (n ∷ ns) all

-- the numbers of items above 0, with their positions
listed_positive : (position : Bool) (gaps : ℕ) (sequence : List (Option ℕ)) → All IsPositiveItem sequence → All IsPositive (listed position gaps sequence)
listed_positive position gaps [] all = All-nil IsPositive
listed_positive position gaps (None ∷ sequence) all = listed_positive position (suc gaps) sequence (All-others IsPositiveItem None sequence all)
listed_positive true gaps (Some n ∷ sequence) all =
    let later = listed_positive true 0 sequence (All-others IsPositiveItem (Some n) sequence all) in
    All-cons IsPositive (suc gaps) (n ∷ listed true 0 sequence) (omega arith) (All-cons IsPositive n (listed true 0 sequence) (All-first IsPositiveItem (Some n) sequence all) later)
listed_positive false gaps (Some n ∷ sequence) all =
    All-cons IsPositive n (listed false 0 sequence) (All-first IsPositiveItem (Some n) sequence all) (listed_positive false 0 sequence (All-others IsPositiveItem (Some n) sequence all))

module _ {P : Type 0} (f : ℕ → P → List ℕ) (positive : (level : ℕ) (element : P) → All IsPositive (f level element)) where
  items_positive : (level : ℕ) (elements : List P) → All IsPositiveItem (items (f level) elements)
  items_positive level [] = All-nil IsPositiveItem
  items_positive level (element ∷ elements) =
      All-append IsPositiveItem (items_of (f level element)) (items (f level) elements) (items_of_positive (f level element) (positive level element)) (items_positive level elements)

  -- the list of a level has no 0
  pub level_positive : (rule : Rule) (level : ℕ) (elements : List P) → All IsPositive (level_list rule (f level) elements)
  level_positive rule level elements =
      listed_positive rule.position 0 (directed rule.backward (items (f level) elements)) (directed_positive rule.backward (items (f level) elements) (items_positive level elements))

  -- the lists of levels, each ended by 0, have the order of the first that differ
  ended_lists_order : (rules : List Rule) (level : ℕ) (ps qs : List P) → list_order (flat_map ended (level_lists_from rules level f ps)) (flat_map ended (level_lists_from rules level f qs))
      ≡ first_difference (level_lists_from rules level f ps) (level_lists_from rules level f qs)
  ended_lists_order [] level ps qs = refl
  ended_lists_order (rule ∷ rules) level ps qs =
      let xs = level_list rule (f level) ps in
      let ys = level_list rule (f level) qs in
      let ks = flat_map ended (level_lists_from rules (suc level) f ps) in
      let ls = flat_map ended (level_lists_from rules (suc level) f qs) in
      ap (λ left. list_order left ((ys ++ 0 ∷ []) ++ ls)) (append_assoc xs (0 ∷ []) ks)
      ∙ ap (list_order (xs ++ 0 ∷ ks)) (append_assoc ys (0 ∷ []) ls)
      ∙ ended_order xs ys ks ls (level_positive rule level ps) (level_positive rule level qs)
      ∙ ap (ordering_then (list_order xs ys)) (ended_lists_order rules (suc level) ps qs)

-- Numbers of a table.

-- a place is above 0
place_positive : (entries : List Entry) (id : Id) → MatchOption (place_among entries id) (Unit {0}) IsPositive
place_positive [] id = tt
place_positive (entry ∷ entries) id =
    by_test (λ b. MatchOption (cond b (Some 1) (option_map (λ place. suc place) (place_among entries id))) (Unit {0}) IsPositive) (same_id id entry.id) (λ on. omega arith)
    (λ off. one_more (place_among entries id))
  where
    one_more : (place : Option ℕ) → MatchOption (option_map (λ n. suc n) place) (Unit {0}) IsPositive
    one_more None = tt
    one_more (Some n) = omega arith

-- what stands among entries has a place
place_there : (entries : List Entry) (id : Id) → is_some (place_among entries id) ≡ has_id (ids_of entries) id
place_there [] id = refl
place_there (entry ∷ entries) id =
    by_test (λ b. is_some (cond b (Some 1) (option_map (λ place. suc place) (place_among entries id))) ≡ (b || has_id (ids_of entries) id)) (same_id id entry.id) (λ on. refl)
    (λ off. one_more (place_among entries id) ∙ place_there entries id)
  where
    one_more : (place : Option ℕ) → is_some (option_map (λ n. suc n) place) ≡ is_some place
    one_more None = refl
    one_more (Some n) = refl

-- a rank, from the place
placed_rank : (place unplaced : Option ℕ) → MatchOption place (Unit {0}) IsPositive → is_some place ≡ true → 0 < unwrap_or (option_or place unplaced) 0
placed_rank None unplaced positive there = absurd cc
placed_rank (Some n) unplaced positive there = positive

undefined_rank : (place : Option ℕ) (entries : ℕ) → MatchOption place (Unit {0}) IsPositive → 0 < unwrap_or (option_or place (Some (suc entries))) 0
undefined_rank None entries positive = omega arith
undefined_rank (Some n) entries positive = positive

module _ (table : Collation) where
  -- the rank of what is placed is above 0, and so is that of UNDEFINED
  rank_positive : (id : Id) → is_placed table id ≡ true → 0 < known_rank table id
  rank_positive id placed = placed_rank (place_among (entries_of table) id) (rank_unplaced (length (entries_of table)) id) (place_positive (entries_of table) id)
      (place_there (entries_of table) id ∙ placed)

  undefined_positive : 0 < known_rank table Undefined
  undefined_positive = undefined_rank (place_among (entries_of table) Undefined) (length (entries_of table)) (place_positive (entries_of table) Undefined)

  own_positive : (id : Id) → 0 < own_number table id
  own_positive id =
      by_test (λ b. 0 < cond b (number_of (known_rank table id)) (number_of (known_rank table Undefined) + code_point id)) (is_placed table id)
      (λ on. omega (arith, rank_positive id on))
      (λ off. omega (arith, undefined_positive))

  -- an identifier is placed
  abbrev IsPlaced : Id → Type 0
  IsPlaced id = is_placed table id ≡ true

  names_positive : (ids : List Id) → All IsPlaced ids → All IsPositive (map (λ id. number_of (known_rank table id)) ids)
  names_positive [] placed = All-nil IsPositive
  names_positive (id ∷ ids) placed =
      All-cons IsPositive (number_of (known_rank table id)) (map (λ id. number_of (known_rank table id)) ids) (omega (arith, rank_positive id (All-first IsPlaced id ids placed)))
      (names_positive ids (All-others IsPlaced id ids placed))

  -- the numbers of a weight that names what is placed
  weight_positive : (id : Id) (weight : Weight) → All IsPlaced (weight_ids weight) → All IsPositive (weight_numbers table id weight)
  weight_positive id Ignore placed = All-nil IsPositive
  weight_positive id Own placed = All-cons IsPositive (own_number table id) [] (own_positive id) (All-nil IsPositive)
  weight_positive id (Names ids) placed = names_positive ids placed

  -- one of some weights
  one_placed : (weights : List Weight) (level : ℕ) → All IsPlaced (flat_map weight_ids weights) → All IsPlaced (weight_ids (get_or weights level Ignore))
  one_placed [] level placed = All-nil IsPlaced
  one_placed (weight ∷ weights) zero placed = All-prefix IsPlaced (weight_ids weight) (flat_map weight_ids weights) placed
  one_placed (weight ∷ weights) (suc level) placed = one_placed weights level (All-back IsPlaced (weight_ids weight) (flat_map weight_ids weights) placed)

  -- the weights of an entry, and others
  entry_placed : (entries : List Entry) → All (HasPlacedWeights table) entries → (id : Id) (others : List Weight) → All IsPlaced (flat_map weight_ids others)
      → All IsPlaced (flat_map weight_ids (weights_or (entry_at entries id) others))
  entry_placed [] all id others placed = placed
  entry_placed (entry ∷ entries) all id others placed =
      by_test (λ b. All IsPlaced (flat_map weight_ids (weights_or (cond b (Some entry) (entry_at entries id)) others))) (same_id id entry.id)
      (λ on. All-first (HasPlacedWeights table) entry entries all)
      (λ off. entry_placed entries (All-others (HasPlacedWeights table) entry entries all) id others placed)

  none_named : (n : ℕ) → All IsPlaced (flat_map weight_ids (replicate n Own))
  none_named zero = All-nil IsPlaced
  none_named (suc n) = none_named n

  -- no number of a well-formed table is 0
  pub numbers_positive : IsWellFormed table → (level : ℕ) (id : Id) → All IsPositive (numbers_at table level id)
  unfolding numbers_at
  numbers_positive well level id =
      let undefined = entry_placed (entries_of table) well.weights_placed Undefined (replicate (length table.rules) Own) (none_named (length table.rules)) in
      let weights = entry_placed (entries_of table) well.weights_placed id (undefined_weights table) undefined in
      weight_positive id (weight_at table level id) (one_placed (weights_of table id) level weights)

-- keys are ordered as their texts are
pub keys_in_order : KeysAreOrderedAsTexts
unfolding key_of order_of level_lists
keys_in_order table well text other = ended_lists_order (numbers_at table) (numbers_positive table well) table.rules 0 (elements_of table text) (elements_of table other)
