-- The key of a text has the form of a key: a list for each level, with pairs where `position` is on.
use Rattle.std.proofs.Common.{◌≡◌, ℕ, suc, ◌&&◌, ◌||◌, Bool, true, false, if◌then◌else◌, List, [], ◌∷◌, ◌++◌, Option, Some, None, All, refl, ap, ◌∙◌, append_assoc, arith, eqb}
use Rattle.std.specs.List.{flat_map}
use Rattle.std.proofs.lemmas.Bool.{ne_eqb}
use Rattle.coll_syntax.specs.declared.rules.Rule.{Rule}
use Rattle.coll_nodes.specs.Table.{Collation}
use Rattle.coll_nodes.specs.WellFormed.{IsWellFormed}
use Rattle.coll_elements.specs.Elements.{elements_of}
use Rattle.coll_key.specs.LevelList.{items, directed, listed, level_list, level_lists_from}
use Rattle.coll_ranks.specs.WeightNumbers.{numbers_at}
use Rattle.coll_key.specs.SortKey.{ended, key_of}
use Rattle.coll_key.specs.TextOrder.{level_lists}
use Rattle.coll_key.specs.WrittenKey.{first_level, later_levels, has_level, is_paired, has_key_form}
use Rattle.coll_key.proofs.KeyOrder.{IsPositive, All-first, All-others, level_positive, numbers_positive}

-- a level behind which a 0 stands is one
level_there : (xs ks : List ℕ) → has_level (xs ++ 0 ∷ ks) ≡ true
level_there [] ks = refl
level_there (x ∷ xs) ks = or_true (eqb x 0) (level_there xs ks)
  where
    or_true : (a : Bool) {b : Bool} → b ≡ true → (a || b) ≡ true
    or_true true e = refl
    or_true false e = e

-- it is the numbers before the 0, where none of them is 0
first_of_ended : (xs ks : List ℕ) → All IsPositive xs → first_level (xs ++ 0 ∷ ks) ≡ xs
first_of_ended [] ks positive = refl
first_of_ended (x ∷ xs) ks positive =
    let above = All-first IsPositive x xs positive in
    ap (λ b. if b then [] else x ∷ first_level (xs ++ 0 ∷ ks)) (ne_eqb x 0 (λ same. omega (arith, above, same)))
    ∙ ap (λ list. x ∷ list) (first_of_ended xs ks (All-others IsPositive x xs positive))

-- and the later ones stand behind the 0
later_of_ended : (xs ks : List ℕ) → All IsPositive xs → later_levels (xs ++ 0 ∷ ks) ≡ ks
later_of_ended [] ks positive = refl
later_of_ended (x ∷ xs) ks positive =
    let above = All-first IsPositive x xs positive in
    ap (λ b. if b then xs ++ 0 ∷ ks else later_levels (xs ++ 0 ∷ ks)) (ne_eqb x 0 (λ same. omega (arith, above, same)))
    ∙ later_of_ended xs ks (All-others IsPositive x xs positive)

-- each number stands behind its position
listed_paired : (position : Bool) (gaps : ℕ) (sequence : List (Option ℕ)) → is_paired position (listed position gaps sequence) ≡ true
listed_paired false gaps sequence = refl
listed_paired true gaps [] = refl
listed_paired true gaps (None ∷ sequence) = listed_paired true (suc gaps) sequence
listed_paired true gaps (Some n ∷ sequence) = listed_paired true 0 sequence

-- a level, ended, before the others
level_before : (rule : Rule) (rules : List Rule) (xs ks : List ℕ) → All IsPositive xs → is_paired rule.position xs ≡ true → has_key_form rules ks ≡ true → has_key_form (rule ∷ rules) (ended xs ++ ks)
    ≡ true
level_before rule rules xs ks positive paired others =
    ap (has_key_form (rule ∷ rules)) (append_assoc xs (0 ∷ []) ks)
    ∙ ap (λ b. b && (is_paired rule.position (first_level (xs ++ 0 ∷ ks)) && has_key_form rules (later_levels (xs ++ 0 ∷ ks)))) (level_there xs ks)
    ∙ ap (λ list. is_paired rule.position list && has_key_form rules (later_levels (xs ++ 0 ∷ ks))) (first_of_ended xs ks positive)
    ∙ ap (λ b. b && has_key_form rules (later_levels (xs ++ 0 ∷ ks))) paired
    ∙ ap (has_key_form rules) (later_of_ended xs ks positive)
    ∙ others

-- the lists of levels, each ended by 0
lists_form : {P : Type 0} (f : ℕ → P → List ℕ) (positive : (level : ℕ) (element : P) → All IsPositive (f level element)) (rules : List Rule) (level : ℕ) (elements : List P)
    → has_key_form rules (flat_map ended (level_lists_from rules level f elements)) ≡ true
lists_form f positive [] level elements = refl
lists_form f positive (rule ∷ rules) level elements =
    level_before rule rules (level_list rule (f level) elements) (flat_map ended (level_lists_from rules (suc level) f elements))
    (level_positive f positive rule level elements)
    (listed_paired rule.position 0 (directed rule.backward (items (f level) elements)))
    (lists_form f positive rules (suc level) elements)

-- a key has the form of one
pub key_form : (table : Collation) → IsWellFormed table → (text : List ℕ) → has_key_form table.rules (key_of table text) ≡ true
unfolding key_of level_lists
key_form table well text = lists_form (numbers_at table) (numbers_positive table well) table.rules 0 (elements_of table text)
