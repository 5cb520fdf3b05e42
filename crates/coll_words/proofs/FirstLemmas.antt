-- What words are sorted by first decides as the words, or leaves it to their whole keys.
use Rattle.std.proofs.Common.{◌≡◌, ℕ, suc, Bool, true, false, not, ◌||◌, if◌then◌else◌, List, [], ◌∷◌, ◌++◌, Option, Some, map, Ordering, Less, Equal, Greater}
use Rattle.std.proofs.Common.{refl, sym, ap, ◌∙◌, append_assoc}
use Rattle.std.proofs.lemmas.Grind.{flat_map-append}
use Rattle.std.specs.List.{flat_map}
use Rattle.std.specs.Ordering.{ordering_then}
use Rattle.coll_elements.proofs.Tests.{by_test}
use Rattle.coll_elements.specs.Elements.{elements_of}
use Rattle.coll_syntax.specs.declared.rules.Rule.{Rule}
use Rattle.coll_nodes.specs.Table.{Collation}
use Rattle.coll_nodes.specs.WellFormed.{IsWellFormed}
use Rattle.coll_ranks.specs.Ranks.{RanksValue, AreRanksOf, compiled_numbers, elements_by_ranks}
use Rattle.coll_ranks.specs.WeightNumbers.{numbers_at}
use Rattle.coll_key.specs.LevelList.{items_of, items, listed, directed, level_list, level_lists_from}
use Rattle.coll_key.specs.SortKey.{key_of}
use Rattle.coll_key.specs.TextOrder.{list_order, first_difference, level_lists, order_of}
use Rattle.coll_key.proofs.KeyOrder.{keys_in_order}
use Rattle.coll_key.proofs.LevelLemmas.{level_lists_by_elements}
use Rattle.coll_words.specs.FirstKeys.{begins_plainly, first_list, first_key, packed_first_key}
use Rattle.coll_word_lists.specs.PackedKeys.{packed_key, packed_number}
use Rattle.coll_word_lists.proofs.PackedOrder.{packed_in_order}

-- What is made.

-- without positions gaps tell nothing
numbers_listed : (ns : List ℕ) (gaps : ℕ) (later : List (Option ℕ)) (zs : List ℕ) → ((g : ℕ) → listed false g later ≡ zs) → listed false gaps (map Some ns ++ later) ≡ ns ++ zs
numbers_listed [] gaps later zs same = same gaps
numbers_listed (n ∷ ns) gaps later zs same = ap (λ (l : List ℕ). n ∷ l) (numbers_listed ns 0 later zs same)

element_listed : (ns : List ℕ) (gaps : ℕ) (later : List (Option ℕ)) (zs : List ℕ) → ((g : ℕ) → listed false g later ≡ zs) → listed false gaps (items_of ns ++ later) ≡ ns ++ zs
element_listed [] gaps later zs same = same (suc gaps)
element_listed (n ∷ ns) gaps later zs same = numbers_listed (n ∷ ns) gaps later zs same

-- so the list of a level is its numbers
plainly_listed : {P : Type 0} (f : P → List ℕ) (ps : List P) (gaps : ℕ) → listed false gaps (items f ps) ≡ flat_map f ps
plainly_listed f [] gaps = refl
plainly_listed f (p ∷ ps) gaps = element_listed (f p) gaps (items f ps) (flat_map f ps) (plainly_listed f ps)

-- at a rule that is neither backward nor has positions
first_of_rules : {P : Type 0} (rules : List Rule) (f : ℕ → P → List ℕ) (ps : List P) → begins_plainly rules ≡ true → first_list (level_lists_from rules 0 f ps) ≡ flat_map (f 0) ps
first_of_rules [] f ps plain = absurd cc
first_of_rules (rule ∷ rules) f ps plain = at rule.backward rule.position plain
  where
    at : (b p : Bool) → not (b || p) ≡ true → listed p 0 (directed b (items (f 0) ps)) ≡ flat_map (f 0) ps
    at true p none = absurd cc
    at false true none = absurd cc
    at false false none = plainly_listed (f 0) ps 0

module _ (ranks : RanksValue) (table : Collation) (are : AreRanksOf ranks table) (well : IsWellFormed table) (text : List ℕ) where
  -- the numbers of the first level are what the text is sorted by first
  pub first_is_plain : begins_plainly table.rules ≡ true → flat_map (compiled_numbers ranks.compiled 0) (elements_by_ranks ranks text) ≡ first_key table text
  first_is_plain plain =
      sym
      (ap (λ (b : Bool). if b then first_list (level_lists table text) else key_of table text) plain
      ∙ ap first_list (level_lists_by_elements ranks table are well text)
      ∙ first_of_rules table.rules (compiled_numbers ranks.compiled) (elements_by_ranks ranks text) plain)

-- so are those of its elements
pub first_of_elements : (table : Collation) (text : List ℕ) → begins_plainly table.rules ≡ true → flat_map (numbers_at table 0) (elements_of table text) ≡ first_key table text
unfolding level_lists
first_of_elements table text plain =
    sym
    (ap (λ (b : Bool). if b then first_list (level_lists table text) else key_of table text) plain ∙ first_of_rules table.rules (numbers_at table) (elements_of table text) plain)

-- else the whole key is
pub first_is_whole : (table : Collation) (text : List ℕ) → begins_plainly table.rules ≡ false → key_of table text ≡ first_key table text
first_is_whole table text other = sym (ap (λ (b : Bool). if b then first_list (level_lists table text) else key_of table text) other)

-- one element more is packed
pub element_packed : {P : Type 0} (f : P → List ℕ) (left later : List P) (element : P) (ns old now : List ℕ) → left ≡ element ∷ later → ns ≡ f element → now ≡ old ++ packed_key ns
    → old ++ packed_key (flat_map f left) ≡ now ++ packed_key (flat_map f later)
element_packed {P} f left later element ns old now begins numbers put =
    ap (λ (ps : List P). old ++ packed_key (flat_map f ps)) begins
    ∙ ap (λ (l : List ℕ). old ++ l) (flat_map-append packed_number (f element) (flat_map f later))
    ∙ sym (append_assoc old (packed_key (f element)) (packed_key (flat_map f later)))
    ∙ ap (λ (l : List ℕ). (old ++ packed_key l) ++ packed_key (flat_map f later)) (sym numbers)
    ∙ ap (λ (l : List ℕ). l ++ packed_key (flat_map f later)) (sym put)

-- What it decides.

-- what decides once decides twice
twice : (o r : Ordering) → ordering_then o (ordering_then o r) ≡ ordering_then o r
twice Less r = refl
twice Equal r = refl
twice Greater r = refl

once : (o : Ordering) → ordering_then o o ≡ o
once Less = refl
once Equal = refl
once Greater = refl

-- the first lists decide, or leave it to the later ones
first_lists_decide : {P : Type 0} (rules : List Rule) (f : ℕ → P → List ℕ) (ps qs : List P)
    → ordering_then (list_order (first_list (level_lists_from rules 0 f ps)) (first_list (level_lists_from rules 0 f qs))) (first_difference (level_lists_from rules 0 f ps) (level_lists_from rules 0 f qs))
    ≡ first_difference (level_lists_from rules 0 f ps) (level_lists_from rules 0 f qs)
first_lists_decide [] f ps qs = refl
first_lists_decide (rule ∷ rules) f ps qs =
    twice (list_order (level_list rule (f 0) ps) (level_list rule (f 0) qs)) (first_difference (level_lists_from rules 1 f ps) (level_lists_from rules 1 f qs))

module _ (table : Collation) (well : IsWellFormed table) (text other : List ℕ) where
  lists_decide : ordering_then (list_order (first_list (level_lists table text)) (first_list (level_lists table other))) (order_of table text other) ≡ order_of table text other
  unfolding order_of level_lists
  lists_decide = first_lists_decide table.rules (numbers_at table) (elements_of table text) (elements_of table other)

  -- what words are sorted by first decides, or leaves it to the words
  pub first_decides : ordering_then (list_order (packed_first_key table text) (packed_first_key table other)) (order_of table text other) ≡ order_of table text other
  first_decides =
      ap (λ (o : Ordering). ordering_then o (order_of table text other)) (packed_in_order (first_key table text) (first_key table other))
      ∙ by_test
      (λ b. ordering_then (list_order (if b then first_list (level_lists table text) else key_of table text) (if b then first_list (level_lists table other) else key_of table other)) (order_of table text other)
      ≡ order_of table text other) (begins_plainly table.rules) (λ on. lists_decide)
      (λ off. ap (λ (o : Ordering). ordering_then o (order_of table text other)) (keys_in_order table well text other) ∙ once (order_of table text other))
