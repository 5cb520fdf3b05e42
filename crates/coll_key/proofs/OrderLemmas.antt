-- The order of two texts, and the key of a text, by the levels that are done and those that are left.
use Rattle.std.proofs.Common.{◌≡◌, ℕ, suc, ◌+◌, ◌<◌, ◌≤◌, true, false, List, ◌++◌, length, get_or, drop, Ordering, Less}
use Rattle.std.proofs.Common.{Equal, Greater, refl, sym, ap, ◌∙◌, append-nil, append_assoc, arith, map, [], ◌∷◌}
use Rattle.std.specs.List.{flat_map}
use Rattle.std.specs.Ordering.{is_ne, ordering_then}
use Rattle.std.proofs.lemmas.List.{at_drop_more, at_drop_all}
use Rattle.coll_syntax.specs.declared.rules.Rule.{Rule}
use Rattle.coll_ranks.proofs.ElementNumbers.{numbers_are}
use Rattle.coll_elements.specs.Elements.{elements_of}
use Rattle.coll_ranks.specs.WeightNumbers.{numbers_at}
use Rattle.coll_nodes.specs.Table.{Collation}
use Rattle.coll_nodes.specs.WellFormed.{IsWellFormed}
use Rattle.coll_key.specs.LevelList.{level_list, level_lists_from}
use Rattle.coll_ranks.specs.RankLists.{WeightsValue}
use Rattle.coll_ranks.specs.Ranks.{RanksValue, AreRanksOf, elements_by_ranks, compiled_numbers}
use Rattle.coll_ranks.specs.declared.text_elements.TextElement.{TextElement}
use Rattle.coll_key.specs.SortKey.{ended, key_of}
use Rattle.coll_key.specs.TextOrder.{list_order, first_difference, order_of, level_lists}
use Rattle.coll_key.proofs.LevelLemmas.{level_lists_by_numbers, level_lists_by_elements}

-- an order that isn't `Equal` decides
ne_decides : (order later : Ordering) → true ≡ is_ne order → ordering_then order later ≡ order
ne_decides Less later ne = refl
ne_decides Equal later ne = absurd cc
ne_decides Greater later ne = refl

-- and `Equal` leaves it to what comes later
equal_passes : (order later : Ordering) → false ≡ is_ne order → ordering_then order later ≡ later
equal_passes Less later eq = absurd cc
equal_passes Equal later eq = refl
equal_passes Greater later eq = absurd cc

module _ {P : Type 0} (f : ℕ → P → List ℕ) (ps qs : List P) where
  -- the order by the levels of these rules, from a level on
  abbrev pub order_from : (level : ℕ) → List Rule → Ordering
  order_from level rules = first_difference (level_lists_from rules level f ps) (level_lists_from rules level f qs)

  -- the level at hand decides
  pub order_decided : (level : ℕ) (items rules : List Rule) (rule : Rule) (order : Ordering) → items ≡ rules → level < length items → true ≡ is_ne order
      → order ≡ list_order (level_list (get_or items level rule) (f level) ps) (level_list (get_or items level rule) (f level) qs) → order_from level (drop level rules) ≡ order
  order_decided level items rules rule order same within ne decides =
      ap (λ rs. order_from level (drop level rs)) (sym same)
      ∙ at_drop_more (order_from level) items level rule within
      ∙ ap (λ o. ordering_then o (order_from (suc level) (drop (level + 1) items))) (sym decides)
      ∙ ne_decides order (order_from (suc level) (drop (level + 1) items)) ne

  -- the level at hand leaves it to the next one
  pub order_goes_on : (level : ℕ) (items rules : List Rule) (rule : Rule) (order whole : Ordering) → items ≡ rules → level < length items → false ≡ is_ne order
      → order ≡ list_order (level_list (get_or items level rule) (f level) ps) (level_list (get_or items level rule) (f level) qs) → whole ≡ order_from level (drop level rules)
      → whole ≡ order_from (level + 1) (drop (level + 1) rules)
  order_goes_on level items rules rule order whole same within eq passes so_far =
      so_far
      ∙ ap (λ rs. order_from level (drop level rs)) (sym same)
      ∙ at_drop_more (order_from level) items level rule within
      ∙ ap (λ o. ordering_then o (order_from (suc level) (drop (level + 1) items))) (sym passes)
      ∙ equal_passes order (order_from (suc level) (drop (level + 1) items)) eq
      ∙ ap (λ rs. order_from (suc level) (drop (level + 1) rs)) same
      ∙ ap (λ n. order_from n (drop (level + 1) rules)) (let next : suc level ≡ level + 1 = omega arith in next)

  -- no level is left
  pub order_undecided : (level : ℕ) (items rules : List Rule) → items ≡ rules → length items ≤ level → order_from level (drop level rules) ≡ Equal
  order_undecided level items rules same past = ap (λ rs. order_from level (drop level rs)) (sym same) ∙ at_drop_all (order_from level) items level past

-- the order of two texts is that of their elements
pub order_by_elements : (ranks : RanksValue) (table : Collation) → AreRanksOf ranks table → IsWellFormed table → (text other : List ℕ)
    → order_of table text other ≡ order_from (compiled_numbers ranks.compiled) (elements_by_ranks ranks text) (elements_by_ranks ranks other) 0 table.rules
unfolding order_of
order_by_elements ranks table are well text other =
    ap (λ lists. first_difference lists (level_lists table other)) (level_lists_by_elements ranks table are well text)
    ∙ ap (first_difference (level_lists_from table.rules 0 (compiled_numbers ranks.compiled) (elements_by_ranks ranks text))) (level_lists_by_elements ranks table are well other)

-- the key of a text is that of elements with the numbers of its elements
pub key_by_numbers : {P : Type 0} (table : Collation) (text : List ℕ) (f : ℕ → P → List ℕ) (elements : List P)
    → ((level : ℕ) → level < length table.rules → map (f level) elements ≡ map (numbers_at table level) (elements_of table text))
    → key_of table text ≡ flat_map ended (level_lists_from table.rules 0 f elements)
unfolding key_of
key_by_numbers table text f elements numbers = ap (flat_map ended) (level_lists_by_numbers table text f elements numbers)

-- so it is that of its elements by the ranks of the table
pub key_by_elements : (ranks : RanksValue) (table : Collation) → AreRanksOf ranks table → IsWellFormed table → (text : List ℕ)
    → key_of table text ≡ flat_map ended (level_lists_from table.rules 0 (compiled_numbers ranks.compiled) (elements_by_ranks ranks text))
key_by_elements ranks table are well text =
    key_by_numbers table text (compiled_numbers ranks.compiled) (elements_by_ranks ranks text) (λ level within. numbers_are ranks table are well level within text)

-- a key goes on by the list of a level, and its end
pub key_goes_on : {P : Type 0} (f : ℕ → P → List ℕ) (level : ℕ) (rules : List Rule) (ps : List P) (rule : Rule) (old grown now whole : List ℕ) → level < length rules
    → grown ≡ old ++ level_list (get_or rules level rule) (f level) ps → now ≡ grown ++ 0 ∷ [] → whole ≡ old ++ flat_map ended (level_lists_from (drop level rules) level f ps)
    → whole ≡ now ++ flat_map ended (level_lists_from (drop (level + 1) rules) (level + 1) f ps)
key_goes_on f level rules ps rule old grown now whole within put closed so_far =
    so_far
    ∙ ap (λ lists. old ++ lists) (at_drop_more (λ rs. flat_map ended (level_lists_from rs level f ps)) rules level rule within)
    ∙ sym (append_assoc old (ended list) others)
    ∙ ap (λ prefix. prefix ++ others) (sym (append_assoc old list (0 ∷ [])) ∙ ap (λ xs. xs ++ 0 ∷ []) (sym put) ∙ sym closed)
    ∙ ap (λ n. now ++ flat_map ended (level_lists_from (drop (level + 1) rules) n f ps)) next
  where
    list : List ℕ
    list = level_list (get_or rules level rule) (f level) ps

    others : List ℕ
    others = flat_map ended (level_lists_from (drop (level + 1) rules) (suc level) f ps)

    next : suc level ≡ level + 1
    next = omega arith

-- a key is whole where no level is left
pub key_is_whole : {P : Type 0} (f : ℕ → P → List ℕ) (ps : List P) (level : ℕ) (rules : List Rule) (key whole : List ℕ) → length rules ≤ level
    → whole ≡ key ++ flat_map ended (level_lists_from (drop level rules) level f ps) → key ≡ whole
key_is_whole f ps level rules key whole past so_far =
    sym (so_far
    ∙ ap (λ lists. key ++ lists) (at_drop_all (λ rs. flat_map ended (level_lists_from rs level f ps)) rules level past)
    ∙ append-nil key)

-- the key of a text is that of its elements, by the weights and the rules of a table
pub key_is_made : (ranks : RanksValue) (table : Collation) → AreRanksOf ranks table → IsWellFormed table
    → (text : List ℕ) (weights : WeightsValue) (rules : List Rule) (elements : List TextElement) (key : List ℕ) → weights ≡ ranks.compiled → rules ≡ table.rules → elements ≡
    elements_by_ranks ranks text
    → key ≡ flat_map ended (level_lists_from rules 0 (compiled_numbers weights) elements) → key ≡ key_of table text
key_is_made ranks table are well text weights rules elements key by_weights by_rules by_elements made =
    made
    ∙ ap (λ ws. flat_map ended (level_lists_from rules 0 (compiled_numbers ws) elements)) by_weights
    ∙ ap (λ rs. flat_map ended (level_lists_from rs 0 (compiled_numbers ranks.compiled) elements)) by_rules
    ∙ ap (λ ps. flat_map ended (level_lists_from table.rules 0 (compiled_numbers ranks.compiled) ps)) by_elements
    ∙ sym (key_by_elements ranks table are well text)
