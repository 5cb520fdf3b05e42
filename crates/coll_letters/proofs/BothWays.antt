-- A level without positions that doesn't tell two texts apart, looked at from the front, doesn't from the back.
use Rattle.std.proofs.Common.{◌≡◌, ℕ, suc, Bool, true, false, List, [], ◌∷◌, ◌++◌, Option, None, Some, reverse, refl, sym, ap, subst, ◌∙◌, append-nil}
use Rattle.std.specs.Cmp.{Equal-is}
use Rattle.std.specs.Ordering.{is_eq}
use Rattle.std.specs.declared.cmp.Ordering.TheVariants.{Equal}
use Rattle.std.proofs.lemmas.List.{reverse-append}
use Rattle.std.proofs.lemmas.Map.Text.{is_eq-slice_cmp}
use Rattle.std.proofs.lemmas.Slice.Eq.{bytes_eq-Decides}
use Rattle.coll_syntax.specs.declared.rules.Rule.{Rule}
use Rattle.coll_nodes.specs.Table.{Collation}
use Rattle.coll_elements.specs.Elements.{elements_of}
use Rattle.coll_ranks.specs.WeightNumbers.{numbers_at}
use Rattle.coll_key.specs.LevelList.{items, level_list, listed}
use Rattle.coll_key.specs.TextOrder.{list_order}
use Rattle.coll_letters.specs.LetterWeights.{IsLevelOrder, list_behind, order_behind}
use Rattle.coll_letters.proofs.LetterLemmas.{items_by_numbers, level_orders_at}

-- the numbers of a sequence, without its gaps
abbrev somes : List (Option ℕ) → List ℕ
somes [] = []
somes (None ∷ sequence) = somes sequence
somes (Some n ∷ sequence) = n ∷ somes sequence

-- they are what a level without positions lists
listed_somes : (gaps : ℕ) (sequence : List (Option ℕ)) → listed false gaps sequence ≡ somes sequence
listed_somes gaps [] = refl
listed_somes gaps (None ∷ sequence) = listed_somes (suc gaps) sequence
listed_somes gaps (Some n ∷ sequence) = ap (λ (ns : List ℕ). n ∷ ns) (listed_somes 0 sequence)

somes-append : (first second : List (Option ℕ)) → somes (first ++ second) ≡ somes first ++ somes second
somes-append [] second = refl
somes-append (None ∷ first) second = somes-append first second
somes-append (Some n ∷ first) second = ap (λ (ns : List ℕ). n ∷ ns) (somes-append first second)

-- and of the reversed sequence those, reversed
somes-reverse : (sequence : List (Option ℕ)) → somes (reverse sequence) ≡ reverse (somes sequence)
somes-reverse [] = refl
somes-reverse (None ∷ sequence) =
    ap somes (reverse-append (None ∷ []) sequence)
    ∙ somes-append (reverse sequence) (None ∷ [])
    ∙ append-nil (somes (reverse sequence))
    ∙ somes-reverse sequence
somes-reverse (Some n ∷ sequence) =
    ap somes (reverse-append (Some n ∷ []) sequence)
    ∙ somes-append (reverse sequence) (Some n ∷ [])
    ∙ ap (λ (ns : List ℕ). ns ++ n ∷ []) (somes-reverse sequence)
    ∙ sym (reverse-append (n ∷ []) (somes sequence))

-- the list of a level that is looked at from the back is that from the front, reversed
back_list : (table : Collation) (level : ℕ) (rule : Rule) → rule.backward ≡ true → rule.position ≡ false → (text : List ℕ)
    → level_list rule (numbers_at table level) (elements_of table text) ≡ reverse (list_behind table level false 0 text)
back_list table level rule back plain text =
    let sequence : List (Option ℕ) = items (numbers_at table level) (elements_of table text) in
    rw back (rw plain (
    listed_somes 0 (reverse sequence)
    ∙ somes-reverse sequence
    ∙ ap reverse (sym (listed_somes 0 sequence))
    ∙ ap (λ (xs : List (Option ℕ)). reverse (listed false 0 xs)) (items_by_numbers (numbers_at table level) (elements_of table text))))

-- lists that compare as the same are
same_lists : (list other : List ℕ) → Equal ≡ list_order list other → list ≡ other
same_lists list other same = (bytes_eq-Decides list other).0 (sym (is_eq-slice_cmp list other) ∙ ap is_eq (sym same))

-- and the other way round
like_itself : (list : List ℕ) → Equal ≡ list_order list list
like_itself list = sym ((Equal-is (list_order list list)).0 (is_eq-slice_cmp list list ∙ (bytes_eq-Decides list list).1 refl))

-- such a level doesn't tell two texts apart, whichever way it is looked at
pub both_ways : (table : Collation) (level : ℕ) (rule : Rule) (text other : List ℕ) → rule.position ≡ false → Equal ≡ order_behind table level false 0 text other
    → IsLevelOrder table level rule text other Equal
both_ways table level rule text other plain alike = by rule.backward refl
  where
    by : (b : Bool) → rule.backward ≡ b → IsLevelOrder table level rule text other Equal
    by false forward = level_orders_at table level rule text other Equal forward (subst (λ (p : Bool). Equal ≡ order_behind table level p 0 text other) (sym plain) alike)
    by true back =
        let same : list_behind table level false 0 text ≡ list_behind table level false 0 other = same_lists _ _ alike in
        like_itself (reverse (list_behind table level false 0 other))
        ∙ ap (λ (l : List ℕ). list_order (reverse l) (reverse (list_behind table level false 0 other))) (sym same)
        ∙ ap (λ (l : List ℕ). list_order l (reverse (list_behind table level false 0 other))) (sym (back_list table level rule back plain text))
        ∙ ap (list_order (level_list rule (numbers_at table level) (elements_of table text))) (sym (back_list table level rule back plain other))
