-- The lists of levels depend on the numbers of the elements alone, so those of a text are those of its elements.
use Rattle.std.proofs.Common.{◌≡◌, ℕ, suc, ◌+◌, ◌<◌, ◌≤◌, false, List, [], ◌∷◌, ◌++◌, length, map, nat_lt, refl, sym, ap, ◌∙◌, arith}
use Rattle.std.specs.List.{flat_map}
use Rattle.std.specs.Prelude.{chars, Bool, Result, Ok, Err, IfErr}
use Rattle.coll_key.specs.declared.key_faults.KeyFault.{KeyFault}
use Rattle.coll_key.specs.declared.key_faults.KeyFault.TheVariants.{OutOfMemory}
use denote.Shadow.{shadow}
use denote.Text.{Utf8}
use Rattle.std.proofs.lemmas.Bool.{ltb-false, le-ltb}
use Rattle.std.proofs.lemmas.Str.{length-le-encodes, encodes-chars}
use Rattle.coll_syntax.specs.declared.rules.Rule.{Rule}
use Rattle.coll_nodes.specs.Table.{Collation}
use Rattle.coll_nodes.specs.WellFormed.{IsWellFormed}
use Rattle.coll_elements.specs.Elements.{elements_of}
use Rattle.coll_key.specs.LevelList.{items_of, items, directed, listed, level_list, level_lists_from}
use Rattle.coll_ranks.specs.WeightNumbers.{numbers_at}
use Rattle.coll_elements.specs.RankedElements.{ranked_text}
use Rattle.coll_ranks.specs.Ranks.{RanksValue, AreRanksOf, elements_by_ranks, compiled_numbers, element_with}
use Rattle.coll_key.specs.TextOrder.{level_lists}
use Rattle.coll_elements.proofs.SplitTexts.{few_split}
use Rattle.coll_ranks.proofs.ElementNumbers.{numbers_are}

-- items are those of the numbers
items_by_map : {P : Type 0} (f : P → List ℕ) (ps : List P) → items f ps ≡ flat_map items_of (map f ps)
items_by_map f [] = refl
items_by_map f (p ∷ ps) = ap (λ xs. items_of (f p) ++ xs) (items_by_map f ps)

-- with the same numbers a level has the same list
pub level_list_same : {P Q : Type 0} (rule : Rule) (f : P → List ℕ) (g : Q → List ℕ) (ps : List P) (qs : List Q) → map f ps ≡ map g qs → level_list rule f ps ≡ level_list rule g qs
level_list_same rule f g ps qs same =
    ap (λ xs. listed rule.position 0 (directed rule.backward xs)) (items_by_map f ps ∙ ap (flat_map items_of) same ∙ sym (items_by_map g qs))

-- with the same numbers at each level all levels have the same lists
pub level_lists_same : {P Q : Type 0} (rules : List Rule) (from : ℕ) (f : ℕ → P → List ℕ) (g : ℕ → Q → List ℕ) (ps : List P) (qs : List Q)
    → ((level : ℕ) → from ≤ level → level < from + length rules → map (f level) ps ≡ map (g level) qs) → level_lists_from rules from f ps ≡ level_lists_from rules from g qs
level_lists_same [] from f g ps qs same = refl
level_lists_same (rule ∷ rules) from f g ps qs same =
    ap (λ xs. xs ∷ level_lists_from rules (suc from) f ps) (level_list_same rule (f from) (g from) ps qs (same from (omega arith) (omega arith)))
    ∙ ap (λ xs. level_list rule (g from) qs ∷ xs) (level_lists_same rules (suc from) f g ps qs (λ level low high. same level (omega arith) (omega arith)))

-- the lists of a text are those of elements with the numbers of its elements
pub level_lists_by_numbers : {P : Type 0} (table : Collation) (text : List ℕ) (f : ℕ → P → List ℕ) (elements : List P)
    → ((level : ℕ) → level < length table.rules → map (f level) elements ≡ map (numbers_at table level) (elements_of table text)) → level_lists table text ≡ level_lists_from table.rules 0 f elements
unfolding level_lists
level_lists_by_numbers table text f elements numbers =
    sym (level_lists_same table.rules 0 f (numbers_at table) elements (elements_of table text) (λ level low high. numbers level (omega arith)))

-- so they are those of its elements by the ranks of the table
pub level_lists_by_elements : (ranks : RanksValue) (table : Collation) → AreRanksOf ranks table → IsWellFormed table → (text : List ℕ)
    → level_lists table text ≡ level_lists_from table.rules 0 (compiled_numbers ranks.compiled) (elements_by_ranks ranks text)
level_lists_by_elements ranks table are well text =
    level_lists_by_numbers table text (compiled_numbers ranks.compiled) (elements_by_ranks ranks text) (λ level within. numbers_are ranks table are well level within text)

-- a text that isn't too long has few elements
pub few_by_ranks : (ranks : RanksValue) (text : List ℕ) → nat_lt 65_536 (length text) ≡ false → length (elements_by_ranks ranks text) ≤ 65_536
unfolding elements_by_ranks
few_by_ranks ranks text short = omega (arith, few_split ranked_text ranks.elements (element_with ranks.ids) 0 text, ltb-false 65_536 (length text) short)

-- a text of few bytes isn't too long
pub few_bytes : (bytes : List ℕ) → shadow (Utf8 bytes) → length bytes ≤ 16 → nat_lt 65_536 (length (chars bytes)) ≡ false
few_bytes bytes utf8 few = le-ltb 65_536 (length (chars bytes)) (omega (arith, few, length-le-encodes (chars bytes), ap length (encodes-chars bytes utf8)))

-- an answer of which a fact holds anyway
pub known_anyway : {T : Type 0} (r : Result T KeyFault) (b : Bool) → b ≡ false → IfErr r (λ fault. fault ≡ OutOfMemory → b ≡ false)
known_anyway (Ok x) b is = tt
known_anyway (Err fault) b is = λ lack. is
