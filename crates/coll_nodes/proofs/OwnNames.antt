-- What second names stand for: names that are declared once, and the symbols that they mean.
use Rattle.std.proofs.Common.{◌≡◌, ℕ, Bool, true, false, ◌||◌, cond, not, is_some, IsTrue, List, [], ◌∷◌, ◌++◌, Option, Some}
use Rattle.std.proofs.Common.{None, All, map, flat_map, sym, ap, subst, ◌∙◌, refl, arith, append_assoc, append-nil}
use Rattle.std.specs.List.{list_any}
use Rattle.std.specs.Option.{option_map}
use Rattle.std.specs.Prelude.{unwrap_or}
use Rattle.std.proofs.lemmas.Bool.{not-false}
use Rattle.std.proofs.lemmas.List.{length-map}
use Rattle.std.proofs.lemmas.List.Elements.{All-nil, All-cons, All-head, All-tail, All-map, All-weaker}
use Rattle.std.proofs.lemmas.List.Folds.{list_any-append}
use Rattle.coll_lex.specs.Names.{IsName}
use Rattle.coll_order.proofs.Sameness.{by_test, not_both}
use Rattle.coll_order.proofs.ListLemmas.{or_first, or_second}
use Rattle.coll_syntax.specs.Identifier.{same_name, same_id, has_name}
use Rattle.coll_syntax.specs.Proper.{IsId, IsWeightId, IsProperWeight}
use Rattle.coll_syntax.specs.declared.identifiers.Id.{Id}
use Rattle.coll_syntax.specs.declared.identifiers.Id.TheVariants.{Char, Named, Undefined}
use Rattle.coll_syntax.specs.declared.weights.Weight.{Weight}
use Rattle.coll_syntax.specs.declared.weights.Weight.TheVariants.{Ignore, Own, Names}
use Rattle.coll_nodes.specs.Entries.{names_only, weight_ids, ids_named}
use Rattle.coll_nodes.specs.OwnNames.{stands_for, declaration_of, own_name, named_own, own_id, own_weight, own_weights, own_entry, own_sections}
use Rattle.coll_nodes.specs.OwnNames.{declares_second, is_second, names_second, means_nothing, means_no_symbol, MeanSymbolsBehind, MeanSymbols}
use Rattle.coll_nodes.specs.Table.{Collation, Section, name_of, names_of, entries_of, ids_of, joined_entries, is_declared}
use Rattle.coll_nodes.specs.Table.{is_own_name, is_symbol_name, is_symbol, is_known, is_placed, declares_own, declares_symbol}
use Rattle.coll_nodes.specs.TableLayout.{if_any}
use Rattle.coll_nodes.specs.WellFormed.{AreDistinct, IsKnown, HasWeights, IsWeighted, IsKeptWeight, HasPlacedWeights, IsWellFormed}
use Rattle.coll_nodes.specs.declared.declarations.Declaration.{Declaration}
use Rattle.coll_nodes.specs.declared.declarations.Declaration.TheVariants.{Symbol, Element, Equivalence}
use Rattle.coll_nodes.specs.declared.entries.Entry.{Entry}
use Rattle.coll_lookups.proofs.Sameness.{same_name_decides, same_id_decides, neither, nor, found_holds}

-- a name that is declared has a declaration, and no other has one
pub declaration_is : (declared : List Declaration) (name : List ℕ) → is_some (declaration_of declared name) ≡ is_declared declared name
declaration_is [] name = refl
declaration_is (first ∷ later) name =
    by_test (λ b. is_some (cond b (Some first) (declaration_of later name)) ≡ (b || is_declared later name)) (same_name name (name_of first)) (λ on. refl) (λ off. declaration_is later name)

-- the declaration of a name declares it
pub declaration_named : (declared : List Declaration) (name : List ℕ) (found : Declaration) → declaration_of declared name ≡ Some found → same_name name (name_of found) ≡ true
declaration_named [] name found e = cc
declaration_named (first ∷ later) name found e =
    by_test (λ b. same_name name (name_of first) ≡ b → cond b (Some first) (declaration_of later name) ≡ Some found → same_name name (name_of found) ≡ true) (same_name name (name_of first))
    (λ on is e. let it : first ≡ found = cc in ap (λ d. same_name name (name_of d)) (sym it) ∙ is) (λ off is e. declaration_named later name found e) refl e

-- a name that isn't declared has no own name
pub no_own_of : (declared : List Declaration) (name : List ℕ) → is_declared declared name ≡ false → own_name declared name ≡ None
no_own_of [] name e = refl
no_own_of (first ∷ later) name e =
    by_test (λ b. (b || has_name (names_of later) name) ≡ false → option_map stands_for (cond b (Some first) (declaration_of later name)) ≡ None) (same_name name (name_of first))
    (λ on e. not_both refl e) (λ off e. no_own_of later name e) e

-- a name that isn't a second name is its own
pub not_second_own : (declared : List Declaration) (name : List ℕ) → list_any (declares_second name) declared ≡ false → named_own declared name ≡ name
not_second_own declared name absent = by_answer (own_name declared name) refl where
  first_own : (declared : List Declaration) (own : List ℕ) → list_any (declares_second name) declared ≡ false → own_name declared name ≡ Some own → own ≡ name
  first_own [] own absent e = cc
  first_own (first ∷ later) own absent e =
      by_test (λ b. same_name name (name_of first) ≡ b → option_map stands_for (cond b (Some first) (declaration_of later name)) ≡ Some own → own ≡ name) (same_name name (name_of first))
      (λ on is e. by_kind first (neither _ _ absent).0 is e) (λ off is e. first_own later own (neither _ _ absent).1 e) refl e where
        by_kind : (first : Declaration) → declares_second name first ≡ false → same_name name (name_of first) ≡ true → Some (stands_for first) ≡ Some own → own ≡ name
        by_kind (Symbol declared) apart is e = let it : name ≡ declared = (same_name_decides name declared).0 is in cc
        by_kind (Element declared text) apart is e = let it : name ≡ declared = (same_name_decides name declared).0 is in cc
        by_kind (Equivalence declared symbol) apart is e = not_both is apart

  by_answer : (answer : Option (List ℕ)) → own_name declared name ≡ answer → unwrap_or answer name ≡ name
  by_answer None e = refl
  by_answer (Some own) e = first_own declared own absent e

-- a name that is declared as an own name is declared
pub own_declared : (declared : List Declaration) (name : List ℕ) → is_own_name declared name ≡ true → is_declared declared name ≡ true
own_declared [] name e = e
own_declared (first ∷ later) name e = by_test (λ b. (b || is_own_name later name) ≡ true → (same_name name (name_of first) || is_declared later name) ≡ true) (declares_own name first)
    (λ on _. or_first _ _ (by_kind first on)) (λ off e. or_second _ _ (own_declared later name e)) e where
      by_kind : (first : Declaration) → declares_own name first ≡ true → same_name name (name_of first) ≡ true
      by_kind (Symbol declared) e = e
      by_kind (Element declared text) e = e
      by_kind (Equivalence declared symbol) e = not_both e refl

-- and so is one that is declared as a second name
pub second_declared : (declared : List Declaration) (name : List ℕ) → list_any (declares_second name) declared ≡ true → is_declared declared name ≡ true
second_declared [] name e = e
second_declared (first ∷ later) name e =
    by_test (λ b. (b || list_any (declares_second name) later) ≡ true → (same_name name (name_of first) || is_declared later name) ≡ true) (declares_second name first)
    (λ on _. or_first _ _ (by_kind first on)) (λ off e. or_second _ _ (second_declared later name e)) e where
      by_kind : (first : Declaration) → declares_second name first ≡ true → same_name name (name_of first) ≡ true
      by_kind (Symbol declared) e = not_both e refl
      by_kind (Element declared text) e = not_both e refl
      by_kind (Equivalence declared symbol) e = e

-- the name of a symbol is an own name
pub symbol_own : (declared : List Declaration) (name : List ℕ) → is_symbol_name declared name ≡ true → is_own_name declared name ≡ true
symbol_own [] name e = e
symbol_own (first ∷ later) name e = by_test (λ b. (b || is_symbol_name later name) ≡ true → (declares_own name first || is_own_name later name) ≡ true) (declares_symbol name first)
    (λ on _. or_first _ _ (by_kind first on)) (λ off e. or_second _ _ (symbol_own later name e)) e where
      by_kind : (first : Declaration) → declares_symbol name first ≡ true → declares_own name first ≡ true
      by_kind (Symbol declared) e = e
      by_kind (Element declared text) e = not_both e refl
      by_kind (Equivalence declared symbol) e = not_both e refl

-- a name that is declared is an own name or a second name
pub own_or_second : (declared : List Declaration) (name : List ℕ) → is_declared declared name ≡ true → list_any (declares_second name) declared ≡ false → is_own_name declared name ≡ true
own_or_second [] name e absent = e
own_or_second (first ∷ later) name e absent =
    by_test (λ b. same_name name (name_of first) ≡ b → (b || is_declared later name) ≡ true → (declares_own name first || is_own_name later name) ≡ true) (same_name name (name_of first))
    (λ on is _. or_first _ _ (by_kind first is (neither _ _ absent).0)) (λ off is e. or_second _ _ (own_or_second later name e (neither _ _ absent).1)) refl e where
      by_kind : (first : Declaration) → same_name name (name_of first) ≡ true → declares_second name first ≡ false → declares_own name first ≡ true
      by_kind (Symbol declared) e apart = e
      by_kind (Element declared text) e apart = e
      by_kind (Equivalence declared symbol) e apart = not_both e apart

-- what is the same as a name that isn't declared isn't declared either
other_name : (declared : List Declaration) (name other : List ℕ) → same_name name other ≡ true → is_declared declared other ≡ false → is_declared declared name ≡ false
other_name declared name other same absent = ap (is_declared declared) ((same_name_decides name other).0 same) ∙ absent

-- where no name is declared twice, an own name is no second name
pub own_not_second : (declared : List Declaration) (name : List ℕ) → AreDistinct same_name (names_of declared) → is_own_name declared name ≡ true → list_any (declares_second name) declared ≡ false
own_not_second [] name distinct own = refl
own_not_second (first ∷ later) name distinct own =
    by_test (λ b. same_name name (name_of first) ≡ b → (declares_second name first || list_any (declares_second name) later) ≡ false) (same_name name (name_of first))
    (λ on is. let apart = other_name later name (name_of first) is distinct.0 in
    nor _ _ (by_kind first (by_first (declares_own name first) _ own (no_own apart))) (no_second apart))
    (λ off is. nor _ _ (not_second first is) (own_not_second later name distinct.1 (by_later (declares_own name first) _ own (not_own first is)))) refl where
      no_own : is_declared later name ≡ false → is_own_name later name ≡ false
      no_own apart = by_test (λ b. is_own_name later name ≡ b → b ≡ false) (is_own_name later name) (λ on e. not_both (own_declared later name e) apart) (λ off e. refl) refl

      no_second : is_declared later name ≡ false → list_any (declares_second name) later ≡ false
      no_second apart = by_test (λ b. list_any (declares_second name) later ≡ b → b ≡ false) (list_any (declares_second name) later) (λ on e. not_both (second_declared later name e) apart)
          (λ off e. refl) refl

      by_first : (a b : Bool) → (a || b) ≡ true → b ≡ false → a ≡ true
      by_first true b e off = refl
      by_first false b e off = not_both e off

      by_later : (a b : Bool) → (a || b) ≡ true → a ≡ false → b ≡ true
      by_later true b e off = not_both refl off
      by_later false b e off = e

      by_kind : (first : Declaration) → declares_own name first ≡ true → declares_second name first ≡ false
      by_kind (Symbol declared) e = refl
      by_kind (Element declared text) e = refl
      by_kind (Equivalence declared symbol) e = not_both e refl

      not_second : (first : Declaration) → same_name name (name_of first) ≡ false → declares_second name first ≡ false
      not_second (Symbol declared) e = refl
      not_second (Element declared text) e = refl
      not_second (Equivalence declared symbol) e = e

      not_own : (first : Declaration) → same_name name (name_of first) ≡ false → declares_own name first ≡ false
      not_own (Symbol declared) e = e
      not_own (Element declared text) e = e
      not_own (Equivalence declared symbol) e = refl

-- where no name is declared twice, what a test of those that declare a name says of all declarations, it says of that of the name
test_told : (name : List ℕ) (test : Declaration → Bool) → ((first : Declaration) → test first ≡ true → same_name name (name_of first) ≡ true)
    → (declared : List Declaration) → AreDistinct same_name (names_of declared) → list_any test declared ≡ list_any test (if_any (declaration_of declared name))
test_told name test named [] distinct = refl
test_told name test named (first ∷ later) distinct =
    by_test (λ b. same_name name (name_of first) ≡ b → list_any test (first ∷ later) ≡ list_any test (if_any (cond b (Some first) (declaration_of later name)))) (same_name name (name_of first))
    (λ on is. ap (λ b. test first || b) (passes_none later (other_name later name (name_of first) is distinct.0)))
    (λ off is. ap (λ b. b || list_any test later) (by_test (λ b. test first ≡ b → b ≡ false) (test first) (λ _ e. not_both (named first e) is) (λ _ e. refl) refl)
    ∙ test_told name test named later distinct.1) refl where
      passes_none : (later : List Declaration) → is_declared later name ≡ false → list_any test later ≡ false
      passes_none [] apart = refl
      passes_none (first ∷ later) apart = let h = neither _ _ apart in
          nor _ _ (by_test (λ b. test first ≡ b → b ≡ false) (test first) (λ _ e. not_both (named first e) h.0) (λ _ e. refl) refl) (passes_none later h.1)

-- a declaration is of a collating symbol
abbrev pub is_a_symbol : Option Declaration → Bool
is_a_symbol None = false
is_a_symbol (Some (Symbol name)) = true
is_a_symbol (Some (Element name text)) = false
is_a_symbol (Some (Equivalence name symbol)) = false

-- a declaration is of an own name
abbrev pub is_an_own_name : Option Declaration → Bool
is_an_own_name None = false
is_an_own_name (Some (Symbol name)) = true
is_an_own_name (Some (Element name text)) = true
is_an_own_name (Some (Equivalence name symbol)) = false

-- a declaration is of a second name
abbrev pub is_a_second_name : Option Declaration → Bool
is_a_second_name None = false
is_a_second_name (Some (Symbol name)) = false
is_a_second_name (Some (Element name text)) = false
is_a_second_name (Some (Equivalence name symbol)) = true

module _ (declared : List Declaration) (name : List ℕ) (distinct : AreDistinct same_name (names_of declared)) where
  -- the declaration of a name tells whether the name is that of a collating symbol
  pub symbol_told : (found : Option Declaration) → declaration_of declared name ≡ found → is_symbol_name declared name ≡ is_a_symbol found
  symbol_told found is = test_told name (declares_symbol name) named declared distinct ∙ (ap (λ found. list_any (declares_symbol name) (if_any found)) is ∙ by_kind found is) where
    named : (first : Declaration) → declares_symbol name first ≡ true → same_name name (name_of first) ≡ true
    named (Symbol declared) e = e
    named (Element declared text) e = not_both e refl
    named (Equivalence declared symbol) e = not_both e refl

    by_kind : (found : Option Declaration) → declaration_of declared name ≡ found → list_any (declares_symbol name) (if_any found) ≡ is_a_symbol found
    by_kind None is = refl
    by_kind (Some (Symbol other)) is = or_first _ _ (declaration_named declared name (Symbol other) is)
    by_kind (Some (Element other text)) is = refl
    by_kind (Some (Equivalence other symbol)) is = refl

  -- whether it is an own name
  pub own_told : (found : Option Declaration) → declaration_of declared name ≡ found → is_own_name declared name ≡ is_an_own_name found
  own_told found is = test_told name (declares_own name) named declared distinct ∙ (ap (λ found. list_any (declares_own name) (if_any found)) is ∙ by_kind found is) where
    named : (first : Declaration) → declares_own name first ≡ true → same_name name (name_of first) ≡ true
    named (Symbol declared) e = e
    named (Element declared text) e = e
    named (Equivalence declared symbol) e = not_both e refl

    by_kind : (found : Option Declaration) → declaration_of declared name ≡ found → list_any (declares_own name) (if_any found) ≡ is_an_own_name found
    by_kind None is = refl
    by_kind (Some (Symbol other)) is = or_first _ _ (declaration_named declared name (Symbol other) is)
    by_kind (Some (Element other text)) is = or_first _ _ (declaration_named declared name (Element other text) is)
    by_kind (Some (Equivalence other symbol)) is = refl

  -- and whether it is a second name
  pub second_told : (found : Option Declaration) → declaration_of declared name ≡ found → list_any (declares_second name) declared ≡ is_a_second_name found
  second_told found is = test_told name (declares_second name) named declared distinct ∙ (ap (λ found. list_any (declares_second name) (if_any found)) is ∙ by_kind found is) where
    named : (first : Declaration) → declares_second name first ≡ true → same_name name (name_of first) ≡ true
    named (Symbol declared) e = not_both e refl
    named (Element declared text) e = not_both e refl
    named (Equivalence declared symbol) e = e

    by_kind : (found : Option Declaration) → declaration_of declared name ≡ found → list_any (declares_second name) (if_any found) ≡ is_a_second_name found
    by_kind None is = refl
    by_kind (Some (Symbol other)) is = refl
    by_kind (Some (Element other text)) is = refl
    by_kind (Some (Equivalence other symbol)) is = or_first _ _ (declaration_named declared name (Equivalence other symbol) is)

-- an own name is its own
pub named_own_same : (declared : List Declaration) (name : List ℕ) → AreDistinct same_name (names_of declared) → is_own_name declared name ≡ true → named_own declared name ≡ name
named_own_same declared name distinct own = not_second_own declared name (own_not_second declared name distinct own)

-- an identifier that may stand in a table is no second name
pub known_not_second : (declared : List Declaration) (id : Id) → AreDistinct same_name (names_of declared) → is_known declared id ≡ true → is_second declared id ≡ false
known_not_second declared (Char c) distinct known = refl
known_not_second declared (Named name) distinct known = own_not_second declared name distinct known
known_not_second declared Undefined distinct known = refl

-- an identifier that isn't a second name is its own
pub own_id_same : (declared : List Declaration) (id : Id) → is_second declared id ≡ false → own_id declared id ≡ id
own_id_same declared (Char c) absent = refl
own_id_same declared (Named name) absent = ap Named (not_second_own declared name absent)
own_id_same declared Undefined absent = refl

-- so is one that may stand in a table
pub own_id_known : (declared : List Declaration) (id : Id) → AreDistinct same_name (names_of declared) → is_known declared id ≡ true → own_id declared id ≡ id
own_id_known declared id distinct known = own_id_same declared id (known_not_second declared id distinct known)

-- identifiers none of which is a second name are their own
pub own_ids_same : (declared : List Declaration) (ids : List Id) → list_any (is_second declared) ids ≡ false → map (own_id declared) ids ≡ ids
own_ids_same declared [] absent = refl
own_ids_same declared (id ∷ ids) absent = let h = neither _ _ absent in λ i. own_id_same declared id h.0 i ∷ own_ids_same declared ids h.1 i

-- a weight that names nothing by a second name stays
pub own_weight_same : (declared : List Declaration) (weight : Weight) → names_second declared weight ≡ false → own_weight declared weight ≡ weight
own_weight_same declared Ignore absent = refl
own_weight_same declared Own absent = refl
own_weight_same declared (Names ids) absent = ap Names (own_ids_same declared ids absent)

-- and so do weights
pub own_weights_same : (declared : List Declaration) (weights : List Weight) → list_any (names_second declared) weights ≡ false → own_weights declared weights ≡ weights
own_weights_same declared [] absent = refl
own_weights_same declared (weight ∷ weights) absent = let h = neither _ _ absent in λ i. own_weight_same declared weight h.0 i ∷ own_weights_same declared weights h.1 i

-- identifiers that may stand in a table are no second names
known_ids : (declared : List Declaration) (ids : List Id) → AreDistinct same_name (names_of declared) → All (IsKnown declared) ids → list_any (is_second declared) ids ≡ false
known_ids declared [] distinct known = refl
known_ids declared (id ∷ ids) distinct known =
    nor _ _ (known_not_second declared id distinct (All-head (IsKnown declared) id ids known)) (known_ids declared ids distinct (All-tail (IsKnown declared) id ids known))

-- weights that name only what may stand in a table stay
pub own_weights_known : (declared : List Declaration) (weights : List Weight) → AreDistinct same_name (names_of declared) → All (IsKnown declared) (flat_map weight_ids weights)
    → own_weights declared weights ≡ weights
own_weights_known declared weights distinct known = own_weights_same declared weights (sym (any_flat weights) ∙ known_ids declared (flat_map weight_ids weights) distinct known) where
  any_flat : (weights : List Weight) → list_any (is_second declared) (flat_map weight_ids weights) ≡ list_any (names_second declared) weights
  any_flat [] = refl
  any_flat (weight ∷ weights) = list_any-append (is_second declared) (weight_ids weight) (flat_map weight_ids weights) ∙ ap (λ b. names_second declared weight || b) (any_flat weights)

-- an entry whose weights name only what may stand in a table is its own
pub own_entry_known : (declared : List Declaration) (entry : Entry) → AreDistinct same_name (names_of declared) → All (IsKnown declared) (ids_named entry) → own_entry declared entry ≡ entry
own_entry_known declared entry distinct known = ap (λ weights. record entry { weights = weights }) (own_weights_known declared entry.weights distinct known)

-- the weights of an entry name only what may stand in a table
abbrev pub NamesKnown : List Declaration → Entry → Type 0
NamesKnown declared entry = All (IsKnown declared) (ids_named entry)

-- what holds of each of a list holds of each of a prefix of it, and of what is behind that
all_prefix : {X : Type 0} (P : X → Type 0) (xs ys : List X) → All P (xs ++ ys) → All P xs
all_prefix P [] ys h = All-nil P
all_prefix P (x ∷ xs) ys h = All-cons P x xs (All-head P x (xs ++ ys) h) (all_prefix P xs ys (All-tail P x (xs ++ ys) h))

all_back : {X : Type 0} (P : X → Type 0) (xs ys : List X) → All P (xs ++ ys) → All P ys
all_back P [] ys h = h
all_back P (x ∷ xs) ys h = all_back P xs ys (All-tail P x (xs ++ ys) h)

-- entries whose weights name only what may stand in a table stay
own_entries_known : (declared : List Declaration) (entries : List Entry) → AreDistinct same_name (names_of declared) → All (NamesKnown declared) entries → map (own_entry declared) entries ≡ entries
own_entries_known declared [] distinct known = refl
own_entries_known declared (entry ∷ entries) distinct known =
    λ i. own_entry_known declared entry distinct (All-head (NamesKnown declared) entry entries known) i ∷ own_entries_known declared entries distinct
    (All-tail (NamesKnown declared) entry entries known) i

-- and so do sections of such entries
pub own_sections_known : (declared : List Declaration) (sections : List Section) → AreDistinct same_name (names_of declared) → All (NamesKnown declared) (joined_entries sections)
    → own_sections declared sections ≡ sections
own_sections_known declared [] distinct known = refl
own_sections_known declared (section ∷ sections) distinct known =
    λ i. record section { entries = own_entries_known declared section.entries distinct (all_prefix (NamesKnown declared) section.entries (joined_entries sections) known) i }
    ∷ own_sections_known declared sections distinct (all_back (NamesKnown declared) section.entries (joined_entries sections) known) i

-- a well-formed table speaks of own names alone
pub own_table : (table : Collation) → IsWellFormed table → own_sections table.declared table.sections ≡ table.sections
own_table table well = own_sections_known table.declared table.sections well.built.distinct_names
    (All-weaker (HasPlacedWeights table) (NamesKnown table.declared)
    (λ entry placed. All-weaker (λ id. IsTrue (is_placed table id)) (IsKnown table.declared)
    (λ id here. found_holds same_id same_id_decides (IsKnown table.declared) (ids_of (entries_of table)) id well.built.known here) (ids_named entry) placed)
    (entries_of table) well.weights_placed)

-- What second names mean.

-- behind one more declaration that means something, if it is a second name, each means a symbol that is declared before it
pub meant_all : (declared : List Declaration) (new : Declaration) → MeanSymbols declared → means_no_symbol declared new ≡ false → MeanSymbols (declared ++ new ∷ [])
meant_all declared new meant means = behind [] declared meant means where
  behind : (before later : List Declaration) → MeanSymbolsBehind before later → means_no_symbol (before ++ later) new ≡ false → MeanSymbolsBehind before (later ++ new ∷ [])
  behind before [] meant means = (ap (λ all. means_no_symbol all new) (sym (append-nil before)) ∙ means, tt)
  behind before (first ∷ later) meant means = (meant.0, behind (before ++ first ∷ []) later meant.1 (ap (λ all. means_no_symbol all new) (append_assoc before (first ∷ []) later) ∙ means))

-- each declaration means a symbol that is declared before it, if it is a second name
pub meant_before : (before : List Declaration) (new : Declaration) (later : List Declaration) → MeanSymbols (before ++ new ∷ later) → means_no_symbol before new ≡ false
meant_before before new later meant = behind [] before meant where
  behind : (prefix middle : List Declaration) → MeanSymbolsBehind prefix (middle ++ new ∷ later) → means_no_symbol (prefix ++ middle) new ≡ false
  behind prefix [] meant = ap (λ all. means_no_symbol all new) (append-nil prefix) ∙ meant.0
  behind prefix (first ∷ middle) meant = ap (λ all. means_no_symbol all new) (sym (append_assoc prefix (first ∷ []) middle)) ∙ behind (prefix ++ first ∷ []) middle meant.1

-- what means a symbol means something
pub means_something : (declared : List Declaration) (new : Declaration) → means_no_symbol declared new ≡ false → means_nothing declared new ≡ false
means_something declared (Symbol name) e = refl
means_something declared (Element name text) e = refl
means_something declared (Equivalence name symbol) e = ap not (symbol_own declared symbol (not-false _ e))

-- the symbol of a second name is declared as a collating symbol
pub second_is_symbol : (declared : List Declaration) (name : List ℕ) → MeanSymbols declared → AreDistinct same_name (names_of declared) → list_any (declares_second name) declared ≡ true
    → is_symbol_name declared (named_own declared name) ≡ true
second_is_symbol declared name meant distinct second = behind [] declared meant distinct second where
  by_kind : (before later : List Declaration) (first : Declaration) → means_no_symbol before first ≡ false → (declares_second name first || list_any (declares_second name) later) ≡ true
      → list_any (declares_second name) later ≡ false
      → is_symbol_name (before ++ first ∷ later) (stands_for first) ≡ true
  by_kind before later (Symbol declared) means second apart = not_both second apart
  by_kind before later (Element declared text) means second apart = not_both second apart
  by_kind before later (Equivalence declared symbol) means second apart = list_any-append (declares_symbol symbol) before (Equivalence declared symbol ∷ later) ∙ or_first _ _ (not-false _ means)

  not_second : (first : Declaration) → same_name name (name_of first) ≡ false → declares_second name first ≡ false
  not_second (Symbol declared) e = refl
  not_second (Element declared text) e = refl
  not_second (Equivalence declared symbol) e = e

  behind : (before later : List Declaration) → MeanSymbolsBehind before later → AreDistinct same_name (names_of later) → list_any (declares_second name) later ≡ true
      → is_symbol_name (before ++ later) (named_own later name) ≡ true
  behind before [] meant distinct second = not_both second refl
  behind before (first ∷ later) meant distinct second =
      by_test (λ b. same_name name (name_of first) ≡ b → is_symbol_name (before ++ first ∷ later) (unwrap_or (option_map stands_for (cond b (Some first) (declaration_of later name))) name) ≡ true)
      (same_name name (name_of first))
      (λ on is. by_kind before later first meant.0 second (by_test (λ b. list_any (declares_second name) later ≡ b → b ≡ false) (list_any (declares_second name) later)
      (λ _ e. not_both (second_declared later name e) (other_name later name (name_of first) is distinct.0)) (λ _ e. refl) refl))
      (λ off is. ap (λ all. is_symbol_name all (named_own later name)) (sym (append_assoc before (first ∷ []) later))
      ∙ behind (before ++ first ∷ []) later meant.1 distinct.1 (sym (ap (λ b. b || list_any (declares_second name) later) (not_second first is)) ∙ second)) refl

-- the own name of a declared name is declared as an own name
pub named_own_known : (declared : List Declaration) (name : List ℕ) → MeanSymbols declared → AreDistinct same_name (names_of declared) → is_declared declared name ≡ true
    → is_own_name declared (named_own declared name) ≡ true
named_own_known declared name meant distinct there =
    by_test (λ b. list_any (declares_second name) declared ≡ b → is_own_name declared (named_own declared name) ≡ true) (list_any (declares_second name) declared)
    (λ on second. symbol_own declared (named_own declared name) (second_is_symbol declared name meant distinct second))
    (λ off absent. ap (is_own_name declared) (not_second_own declared name absent) ∙ own_or_second declared name there absent) refl

-- own names are their own
pub named_own_twice : (declared : List Declaration) (name : List ℕ) → MeanSymbols declared → AreDistinct same_name (names_of declared) → named_own declared (named_own declared name)
    ≡ named_own declared name
named_own_twice declared name meant distinct = by_test (λ b. is_declared declared name ≡ b → named_own declared (named_own declared name) ≡ named_own declared name) (is_declared declared name)
    (λ on there. named_own_same declared (named_own declared name) distinct (named_own_known declared name meant distinct there))
    (λ off absent. ap (named_own declared) (ap (λ own. unwrap_or own name) (no_own_of declared name absent))) refl

pub own_id_twice : (declared : List Declaration) (id : Id) → MeanSymbols declared → AreDistinct same_name (names_of declared) → own_id declared (own_id declared id) ≡ own_id declared id
own_id_twice declared (Char c) meant distinct = refl
own_id_twice declared (Named name) meant distinct = ap Named (named_own_twice declared name meant distinct)
own_id_twice declared Undefined meant distinct = refl

-- the own name of an identifier that is a second name is that of a collating symbol
pub second_id_is_symbol : (declared : List Declaration) (id : Id) → MeanSymbols declared → AreDistinct same_name (names_of declared) → is_second declared id ≡ true
    → is_symbol declared (own_id declared id) ≡ true
second_id_is_symbol declared (Char c) meant distinct second = not_both second refl
second_id_is_symbol declared (Named name) meant distinct second = second_is_symbol declared name meant distinct second
second_id_is_symbol declared Undefined meant distinct second = not_both second refl

-- the own name of a declared name stays behind other declarations
pub own_name_stays : (declared later : List Declaration) (name : List ℕ) → is_declared declared name ≡ true → own_name (declared ++ later) name ≡ own_name declared name
own_name_stays [] later name there = not_both there refl
own_name_stays (first ∷ declared) later name there = by_test (λ b. (b || is_declared declared name) ≡ true → option_map stands_for (cond b (Some first) (declaration_of (declared ++ later) name))
    ≡ option_map stands_for (cond b (Some first) (declaration_of declared name))) (same_name name (name_of first))
    (λ on _. refl) (λ off there. own_name_stays declared later name there) there

pub named_own_stays : (declared later : List Declaration) (name : List ℕ) → is_declared declared name ≡ true → named_own (declared ++ later) name ≡ named_own declared name
named_own_stays declared later name there = ap (λ own. unwrap_or own name) (own_name_stays declared later name there)

-- What is proper stays so.

-- the own name of a name is a name, where names are declared
pub named_own_name : (declared : List Declaration) (name : List ℕ) → MeanSymbols declared → AreDistinct same_name (names_of declared) → All IsName (names_of declared) → IsName name
    → IsName (named_own declared name)
named_own_name declared name meant distinct names is = by_test (λ b. is_declared declared name ≡ b → IsName (named_own declared name)) (is_declared declared name)
    (λ on there. found_holds same_name same_name_decides IsName (names_of declared) (named_own declared name) names
    (own_declared declared (named_own declared name) (named_own_known declared name meant distinct there)))
    (λ off absent. subst IsName (sym (ap (λ own. unwrap_or own name) (no_own_of declared name absent))) is) refl

-- an identifier by its own name is one
pub own_id_proper : (declared : List Declaration) (id : Id) → MeanSymbols declared → AreDistinct same_name (names_of declared) → All IsName (names_of declared) → IsId id → IsId (own_id declared id)
own_id_proper declared (Char c) meant distinct names is = is
own_id_proper declared (Named name) meant distinct names is = named_own_name declared name meant distinct names is
own_id_proper declared Undefined meant distinct names is = is

-- and one of a weight is one of a weight
own_weight_id : (declared : List Declaration) (id : Id) → MeanSymbols declared → AreDistinct same_name (names_of declared) → All IsName (names_of declared) → IsWeightId id
    → IsWeightId (own_id declared id)
own_weight_id declared (Char c) meant distinct names is = is
own_weight_id declared (Named name) meant distinct names is = named_own_name declared name meant distinct names is
own_weight_id declared Undefined meant distinct names is = is

-- a weight by own names is proper
pub own_weight_proper : (declared : List Declaration) (weight : Weight) → MeanSymbols declared → AreDistinct same_name (names_of declared) → All IsName (names_of declared) → IsProperWeight weight
    → IsProperWeight (own_weight declared weight)
own_weight_proper declared Ignore meant distinct names is = is
own_weight_proper declared Own meant distinct names is = is
own_weight_proper declared (Names ids) meant distinct names is =
    let same = length-map ids (own_id declared) in (
      omega (arith, same, is.0),
      omega (arith, same, is.1),
      All-map IsWeightId (own_id declared) ids (All-weaker IsWeightId (λ id. IsWeightId (own_id declared id)) (λ id h. own_weight_id declared id meant distinct names h) ids is.2),
    )

-- a weight of what isn't a symbol that doesn't name it alone doesn't do so by own names
pub own_weight_kept : (declared : List Declaration) (id : Id) (weight : Weight) → MeanSymbols declared → AreDistinct same_name (names_of declared) → is_symbol declared id ≡ false
    → names_only id weight ≡ false → names_only id (own_weight declared weight) ≡ false
own_weight_kept declared id Ignore meant distinct plain kept = refl
own_weight_kept declared id Own meant distinct plain kept = refl
own_weight_kept declared id (Names []) meant distinct plain kept = refl
own_weight_kept declared id (Names (only ∷ [])) meant distinct plain kept = by_test (λ b. is_second declared only ≡ b → same_id id (own_id declared only) ≡ false) (is_second declared only)
    (λ on second. by_test (λ b. same_id id (own_id declared only) ≡ b → b ≡ false) (same_id id (own_id declared only))
    (λ _ same. not_both (ap (is_symbol declared) ((same_id_decides id (own_id declared only)).0 same) ∙ second_id_is_symbol declared only meant distinct second) plain) (λ _ e. refl) refl)
    (λ off absent. ap (same_id id) (own_id_same declared only absent) ∙ kept) refl
own_weight_kept declared id (Names (first ∷ second ∷ later)) meant distinct plain kept = refl

-- weights by own names that an entry has are those that it is to have
pub own_entry_weighted : (levels : ℕ) (declared : List Declaration) (entry : Entry) → MeanSymbols declared → AreDistinct same_name (names_of declared) → All IsName (names_of declared)
    → IsWeighted levels declared entry → IsWeighted levels declared (own_entry declared entry)
own_entry_weighted levels declared entry meant distinct names weighted = by_answer (is_symbol declared entry.id) refl weighted where
  by_answer : (symbol : Bool) → is_symbol declared entry.id ≡ symbol → HasWeights levels symbol entry → HasWeights levels symbol (own_entry declared entry)
  by_answer true is h = ap (own_weights declared) h
  by_answer false is h = (
    length-map entry.weights (own_weight declared) ∙ h.0,
    All-map (IsKeptWeight entry.id) (own_weight declared) entry.weights
        (All-weaker (IsKeptWeight entry.id) (λ weight. IsKeptWeight entry.id (own_weight declared weight))
        (λ weight kept. (own_weight_proper declared weight meant distinct names kept.0, own_weight_kept declared entry.id weight meant distinct is kept.1)) entry.weights h.1),
  )
