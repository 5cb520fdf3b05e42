-- What the numbers of an element come from: they are its numbers, and no more than a weight may name.
use Rattle.std.proofs.Common.{◌≡◌, ℕ, zero, suc, ◌+◌, ◌<◌, ◌≤◌, Bool, true, false, cond, List, [], ◌∷◌, length, map, get_or, Option, Some, None, is_some, All, refl, sym}
use Rattle.std.proofs.Common.{ap, ap₂, subst, ◌∙◌, add-zero, arith}
use Rattle.std.specs.Prelude.{replicate, nat_lt, Result, Ok, Err, IfOk}
use Rattle.std.proofs.lemmas.Bool.{false≢true, ltb-false}
use Rattle.std.proofs.lemmas.List.Elements.{All-head, All-tail}
use Rattle.coll_syntax.specs.Identifier.{has_id}
use Rattle.coll_syntax.specs.Proper.{IsProperWeight}
use Rattle.coll_syntax.specs.declared.identifiers.Id.{Id}
use Rattle.coll_syntax.specs.declared.identifiers.Id.TheVariants.{Undefined}
use Rattle.coll_syntax.specs.declared.weights.Weight.{Weight}
use Rattle.coll_syntax.specs.declared.weights.Weight.TheVariants.{Ignore, Own, Names}
use Rattle.coll_nodes.specs.Placement.{entry_at}
use Rattle.coll_nodes.specs.Table.{Collation, entries_of, ids_of, is_placed, is_symbol}
use Rattle.coll_nodes.specs.WellFormed.{HasWeights, IsKeptWeight, IsWeighted, IsWellFormed}
use Rattle.coll_nodes.specs.declared.entries.Entry.{Entry}
use Rattle.coll_nodes.proofs.EntryLemmas.{entry_found, entry_there}
use Rattle.coll_elements.specs.ElementEntries.{AreElementsOf}
use Rattle.coll_elements.specs.Elements.{element_id, element_text, elements_of, elements_placed}
use Rattle.coll_elements.specs.Rank.{known_rank}
use Rattle.coll_elements.specs.declared.element_entries.ElementEntry.{ElementEntry}
use Rattle.coll_elements.specs.declared.element_entries.ElementEntry.TheVariants.{Absent, Placed}
use Rattle.coll_elements.proofs.SplitTexts.{few_split}
use Rattle.coll_elements.proofs.Tests.{by_test}
use Rattle.coll_ranks.specs.WeightNumbers.{code_point, number_of, numbers_at, own_number, undefined_weights, weight_at, weight_numbers, weights_or}
use Rattle.coll_explanations.specs.Sources.{Source, own_source, source, sources_at, weight_sources}
use Rattle.coll_explanations.specs.ToldSteps.{id_of}

-- the number that a source has
abbrev pub number_in : Source → ℕ
number_in s = s.number

-- The numbers.

-- an element's own number
own_is : (table : Collation) (element : Id) → number_in (own_source table element) ≡ own_number table element
own_is table element =
    by_test (λ b. number_in (cond b (source table 0 element element) (source table (code_point element) element Undefined))
    ≡ cond b (number_of (known_rank table element)) (number_of (known_rank table Undefined) + code_point element)) (is_placed table element)
    (λ on. add-zero (number_of (known_rank table element))) (λ off. refl)

-- those of named identifiers
named_are : (table : Collation) (element : Id) (ids : List Id) → map number_in (map (source table 0 element) ids) ≡ map (λ named. number_of (known_rank table named)) ids
named_are table element [] = refl
named_are table element (id ∷ ids) = ap₂ (λ (n : ℕ) (ns : List ℕ). n ∷ ns) (add-zero (number_of (known_rank table id))) (named_are table element ids)

-- those of a weight
weight_numbers_are : (table : Collation) (element : Id) (weight : Weight) → map number_in (weight_sources table element (own_source table element) weight) ≡ weight_numbers table element weight
weight_numbers_are table element Ignore = refl
weight_numbers_are table element Own = ap (λ (n : ℕ). n ∷ []) (own_is table element)
weight_numbers_are table element (Names ids) = named_are table element ids

-- those of an element at a level
pub numbers_are : (table : Collation) (level : ℕ) (element : Id) → map number_in (sources_at table level element) ≡ numbers_at table level element
unfolding sources_at numbers_at
numbers_are table level element = weight_numbers_are table element (weight_at table level element)

-- How many they are.

-- a weight that is kept is within the limits
kept_at : (id : Id) (weights : List Weight) (level : ℕ) → All (IsKeptWeight id) weights → IsProperWeight (get_or weights level Ignore)
kept_at id [] level all = tt
kept_at id (weight ∷ weights) zero all = (All-head (IsKeptWeight id) weight weights all).0
kept_at id (weight ∷ weights) (suc level) all = kept_at id weights level (All-tail (IsKeptWeight id) weight weights all)

weighted_at : (levels level : ℕ) (symbol : Bool) (entry : Entry) → HasWeights levels symbol entry → IsProperWeight (get_or entry.weights level Ignore)
weighted_at levels level true entry none = subst (λ (ws : List Weight). IsProperWeight (get_or ws level Ignore)) (sym none) tt
weighted_at levels level false entry have = kept_at entry.id entry.weights level have.1

-- UNDEFINED, where it isn't placed, stands for itself
own_at : (count level : ℕ) → IsProperWeight (get_or (replicate count Own) level Ignore)
own_at zero level = tt
own_at (suc count) zero = tt
own_at (suc count) (suc level) = own_at count level

pub own_within : (count level : ℕ) → level < count → get_or (replicate count Own) level Ignore ≡ Own
own_within zero level within = absurd (omega (arith, within))
own_within (suc count) zero within = refl
own_within (suc count) (suc level) within = own_within count level (omega (arith, within))

module _ (table : Collation) (well : IsWellFormed table) (level : ℕ) where
  -- the weight of an entry that is found, or else another
  proper_or : (id : Id) (others : List Weight) → IsProperWeight (get_or others level Ignore) → IsProperWeight (get_or (weights_or (entry_at (entries_of table) id) others) level Ignore)
  proper_or id others proper = by (entry_at (entries_of table) id) refl where
    by : (found : Option Entry) → entry_at (entries_of table) id ≡ found → IsProperWeight (get_or (weights_or found others) level Ignore)
    by None is = proper
    by (Some entry) is =
        let weighted = (entry_found (IsWeighted (length table.rules) table.declared) (entries_of table) id entry well.built.weighted is).0 in
        weighted_at (length table.rules) level (is_symbol table.declared entry.id) entry weighted

  proper_weight : (element : Id) → IsProperWeight (weight_at table level element)
  proper_weight element = proper_or element (undefined_weights table) (proper_or Undefined (replicate (length table.rules) Own) (own_at (length table.rules) level))

  -- a mapped list is as long
  mapped : (element : Id) (ids : List Id) → length (map (source table 0 element) ids) ≡ length ids
  mapped element [] = refl
  mapped element (id ∷ ids) = ap suc (mapped element ids)

  weight_few : (element : Id) (own : Source) (weight : Weight) → IsProperWeight weight → length (weight_sources table element own weight) ≤ 32
  weight_few element own Ignore proper = omega arith
  weight_few element own Own proper = omega arith
  weight_few element own (Names ids) proper = omega (arith, mapped element ids, proper.1)

  pub few_sources : (element : Id) → length (sources_at table level element) ≤ 32
  unfolding sources_at
  few_sources element = weight_few element (own_source table element) (weight_at table level element) (proper_weight element)

-- Where they are found.

-- what isn't placed has no entry
no_entry : (entries : List Entry) (id : Id) → has_id (ids_of entries) id ≡ false → entry_at entries id ≡ None
no_entry entries id absent = by (entry_at entries id) refl where
  by : (found : Option Entry) → entry_at entries id ≡ found → entry_at entries id ≡ None
  by None is = is
  by (Some entry) is = absurd (false≢true (sym absent ∙ (entry_there entries id ∙ ap is_some is)))

module _ (table : Collation) (level : ℕ) (element : Id) (weight : Weight) where
  -- an element with an entry
  pub placed_sources : (entry : Entry) → entry_at (entries_of table) element ≡ Some entry → weight ≡ get_or entry.weights level Ignore
      → weight_sources table element (source table 0 element element) weight ≡ sources_at table level element
  unfolding sources_at
  placed_sources entry is found =
      let there : is_placed table element ≡ true = entry_there (entries_of table) element ∙ ap is_some is in
      ap₂ (λ (own : Source) (w : Weight). weight_sources table element own w)
      (ap (λ b. cond b (source table 0 element element) (source table (code_point element) element Undefined)) (sym there))
      (found ∙ ap (λ (e : Option Entry). get_or (weights_or e (undefined_weights table)) level Ignore) (sym is))

  module _ (absent : is_placed table element ≡ false) where
    -- an element without one
    absent_sources : weight ≡ get_or (undefined_weights table) level Ignore
        → weight_sources table element (source table (code_point element) element Undefined) weight ≡ sources_at table level element
    unfolding sources_at
    absent_sources found =
        ap₂ (λ (own : Source) (w : Weight). weight_sources table element own w)
        (ap (λ b. cond b (source table 0 element element) (source table (code_point element) element Undefined)) (sym absent))
        (found ∙ ap (λ (e : Option Entry). get_or (weights_or e (undefined_weights table)) level Ignore) (sym (no_entry (entries_of table) element absent)))

    -- where UNDEFINED is placed
    pub undefined_sources : (entry : Entry) → entry_at (entries_of table) Undefined ≡ Some entry → weight ≡ get_or entry.weights level Ignore
        → weight_sources table element (source table (code_point element) element Undefined) weight ≡ sources_at table level element
    undefined_sources entry is found =
        absent_sources (found ∙ ap (λ (e : Option Entry). get_or (weights_or e (replicate (length table.rules) Own)) level Ignore) (sym is))

-- where it isn't, it stands for itself
pub unplaced_sources : (table : Collation) (level : ℕ) (element : Id) → is_placed table element ≡ false → entry_at (entries_of table) Undefined ≡ None → level < length table.rules
    → source table (code_point element) element Undefined ∷ [] ≡ sources_at table level element
unplaced_sources table level element absent is within =
    absent_sources table level element Own absent
    (sym (ap (λ (e : Option Entry). get_or (weights_or e (replicate (length table.rules) Own)) level Ignore) is ∙ own_within (length table.rules) level within))

-- The elements of a text.

-- the identifiers of elements
pub ids_are : (table : Collation) (ids : List Id) (elements : List ElementEntry) → AreElementsOf table ids elements → map id_of elements ≡ ids
ids_are table [] [] are = refl
ids_are table [] (element ∷ elements) are = absurd are
ids_are table (id ∷ ids) [] are = absurd are
ids_are table (id ∷ ids) (Placed entry ∷ elements) are =
    let same : entry.now.id ≡ id = (entry_found (λ e. Unit {0}) (entries_of table) id entry.now (λ i d within. tt) are.0).1 in
    ap₂ (λ (i : Id) (is : List Id). i ∷ is) same (ids_are table ids elements are.1)
ids_are table (id ∷ ids) (Absent c ∷ elements) are = ap₂ (λ (i : Id) (is : List Id). i ∷ is) (sym are.0.0) (ids_are table ids elements are.1)

-- a text that isn't too long has few elements
pub few_ids : (table : Collation) (text : List ℕ) → nat_lt 65_536 (length text) ≡ false → length (elements_of table text) ≤ 65_536
unfolding elements_of
few_ids table text short = omega (arith, few_split element_text (elements_placed table) element_id 0 text, ltb-false 65_536 (length text) short)

-- what holds of a result holds of what follows from it
pub if_ok_follows : {T E : Type 0} {P Q : T → Type 0} (r : Result T E) → ((x : T) → P x → Q x) → IfOk r P → IfOk r Q
if_ok_follows (Ok x) follows h = follows x h
if_ok_follows (Err e) follows h = tt
