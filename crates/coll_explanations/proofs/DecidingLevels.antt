-- The level that decides the order of two texts.
use Rattle.std.proofs.Common.{◌≡◌, ◌≢◌, ℕ, suc, ◌-◌, ◌<◌, List, [], ◌∷◌, Option, Some, None, Ordering, Equal}
use Rattle.std.proofs.Common.{refl, sym, ap, ◌∙◌}
use Rattle.std.specs.Prelude.{slice_get}
use Rattle.std.specs.Ordering.{nat_cmp, ordering_then}
use Rattle.std.proofs.lemmas.Cmp.{by_ranked, ranked}
use Rattle.coll_ranks.specs.WeightNumbers.{numbers_at}
use Rattle.coll_key.specs.LevelList.{level_list}
use Rattle.coll_key.specs.TextOrder.{list_order, level_lists, order_of}
use Rattle.coll_explanations.specs.ExplanationLaws.{DecidedBy, OrdersAreOfLevels, TellsFirst, ToldLevelsDecide, order_from, order_there}
use Rattle.coll_explanations.specs.Explanations.{apart_at}
use Rattle.coll_explanations.specs.Sources.{sources_at}
use Rattle.coll_explanations.specs.ToldLists.{Apart, Told, told_list}
use Rattle.coll_key.proofs.ForwardLemmas.{first_same}
use Rattle.coll_explanations.proofs.ToldLemmas.{told_first}

-- a list is no other than itself
same_lists : (ns : List ℕ) → list_order ns ns ≡ Equal
same_lists [] = refl
same_lists (n ∷ ns) = first_same n n ns ns refl ∙ same_lists ns

-- numbers that differ decide, and so does a list that has ended
there_decides : (a b : Option ℕ) → a ≢ b → (later : Ordering) → ordering_then (order_there a b) later ≡ order_there a b
there_decides None None apart later = absurd (apart refl)
there_decides None (Some n) apart later = refl
there_decides (Some n) None apart later = refl
there_decides (Some n) (Some m) apart later =
    by_ranked (n < m) (n ≡ m) (m < n) (nat_cmp n m) (ranked n m (nat_cmp n m) refl)
    (λ is less. ap (λ o. ordering_then o later) is ∙ sym is)
    (λ is same. absurd (apart (ap Some same)))
    (λ is more. ap (λ o. ordering_then o later) is ∙ sym is)

-- what is told of a level says what decides
by_told : (numbers other_numbers : List ℕ) (list other : List Told) (later : Ordering) (r : Option Apart) → TellsFirst numbers other_numbers list other r
    → DecidedBy numbers other_numbers (ordering_then (list_order numbers other_numbers) later) later r
by_told numbers other_numbers list other later None same =
    ap (λ (ns : List ℕ). ordering_then (list_order ns other_numbers) later) same ∙ ap (λ o. ordering_then o later) (same_lists other_numbers)
by_told numbers other_numbers list other later (Some apart) told =
    ap (λ o. ordering_then o later) told.3
    ∙ there_decides (slice_get numbers (apart.place - 1)) (slice_get other_numbers (apart.place - 1)) told.0.apart later

pub levels_decide : ToldLevelsDecide
levels_decide table level rule rules elements others =
    by_told (level_list rule (numbers_at table level) elements) (level_list rule (numbers_at table level) others)
    (told_list rule (sources_at table level) elements) (told_list rule (sources_at table level) others)
    (order_from table (suc level) rules elements others) (apart_at table level rule elements others) (told_first table level rule elements others)

pub orders_of_levels : OrdersAreOfLevels
unfolding order_of level_lists
orders_of_levels table text other = refl
