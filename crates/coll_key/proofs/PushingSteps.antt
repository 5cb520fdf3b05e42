-- What is put behind a key for an element, and for a level.
use Rattle.std.proofs.Common.{◌≡◌, ◌≤◌, ◌<◌, ◌+◌, ℕ, Bool, List, [], ◌∷◌, ◌++◌, length, map, Option, Some, true, false, refl, sym, ap, ◌∙◌, add-one, append-nil, append_assoc, arith}
use Rattle.coll_key.specs.LevelList.{items_of, items, directed, listed, level_list, position_of}
use Rattle.coll_key.proofs.ForwardLemmas.{none_left}
use Rattle.coll_key.proofs.DirectionLemmas.{directed_numbers, map-directed, length-directed, items-directed}

module _ (p b : Bool) (gaps : ℕ) (g : ℕ → ℕ) (ranks others old now : List ℕ) (first : ℕ) (begins : directed b ranks ≡ first ∷ directed b others) (pushed : (list : List ℕ)
    → old ++ position_of p gaps ++ g first ∷ list ≡ now ++ list) where
  -- the first number of an element is put behind a key
  pub element_begins : (later : List (Option ℕ)) → old ++ listed p gaps (items_of (directed b (map g ranks)) ++ later) ≡ now ++ listed p 0 (map Some (map g (directed b others)) ++ later)
  element_begins later =
      ap (λ ns. old ++ listed p gaps (items_of ns ++ later)) (sym (map-directed g b ranks) ∙ ap (map g) begins)
      ∙ sym (append_assoc old (position_of p gaps) (g first ∷ listed p 0 (map Some (map g (directed b others)) ++ later)))
      ∙ pushed (listed p 0 (map Some (map g (directed b others)) ++ later))

  -- and it is the only one
  pub element_ends : others ≡ [] → (later : List (Option ℕ)) → old ++ listed p gaps (items_of (directed b (map g ranks)) ++ later) ≡ now ++ listed p 0 later
  element_ends none later =
      element_begins later ∙ ap (λ rs. now ++ listed p 0 (map Some (map g rs) ++ later)) (ap (directed b) none ∙ nothing b)
    where
      nothing : (b : Bool) → directed {X = ℕ} b [] ≡ []
      nothing true = refl
      nothing false = refl

-- a list that has a first member has one more than behind it
pub one_fewer : {P : Type 0} (b : Bool) (left later : List P) (element : P) → directed b left ≡ element ∷ directed b later → length left ≡ length later + 1
one_fewer b left later element begins = omega (arith, ap length begins, length-directed b left, length-directed b later)

-- and where it has no more than one, none is behind it
pub none_behind : {P : Type 0} (b : Bool) (left later : List P) (element : P) → directed b left ≡ element ∷ directed b later → length left ≤ 1 → later ≡ []
none_behind b left later element begins short = none_left later (omega (arith, short, one_fewer b left later element begins))

-- with one element more behind a key fewer are left
pub shorter_left : {P : Type 0} (b : Bool) (left later : List P) (element : P) → directed b left ≡ element ∷ directed b later → length later < length left
shorter_left b left later element begins = omega (arith, ap length begins, length-directed b left, length-directed b later)

module _ {P : Type 0} (b : Bool) (left later : List P) (element : P) (begins : directed b left ≡ element ∷ directed b later) (gaps after : ℕ) where
  -- with one element more behind a key the gaps and the elements that are left are no more than before
  pub fewer_left : (most : ℕ) → after ≤ gaps + 1 → gaps + length left ≤ most → after + length later ≤ most
  fewer_left most few within = omega (arith, few, within, ap length begins, length-directed b left, length-directed b later)

  -- what is put behind a key for one element more, and what is left, is the whole
  pub level_goes_on : (p : Bool) (f : P → List ℕ) (ns whole old now : List ℕ) → ns ≡ f element
      → ((rest : List (Option ℕ)) → old ++ listed p gaps (items_of (directed b ns) ++ rest) ≡ now ++ listed p after rest)
      → whole ≡ old ++ listed p gaps (items (directed_numbers b f) (directed b left)) → whole ≡ now ++ listed p after (items (directed_numbers b f) (directed b later))
  level_goes_on p f ns whole old now numbers pushed so_far =
      so_far
      ∙ ap (λ ps. old ++ listed p gaps (items (directed_numbers b f) ps)) begins
      ∙ ap (λ ms. old ++ listed p gaps (items_of (directed b ms) ++ items (directed_numbers b f) (directed b later))) (sym numbers)
      ∙ pushed (items (directed_numbers b f) (directed b later))

-- all elements of a level are put behind a key
pub level_ends : {P : Type 0} (p b : Bool) (gaps : ℕ) (f : P → List ℕ) (elements left : List P) (old now : List ℕ) → old ++ listed p 0 (items (directed_numbers b f) (directed b elements))
    ≡ now ++ listed p gaps (items (directed_numbers b f) (directed b left)) → directed b left ≡ [] → now ≡ old ++ level_list (record { backward = b; position = p }) f elements
level_ends p b gaps f elements left old now same none =
    sym (append-nil now)
    ∙ sym (ap (λ ps. now ++ listed p gaps (items (directed_numbers b f) ps)) none)
    ∙ sym same
    ∙ ap (λ is. old ++ listed p 0 is) (sym (items-directed b f elements))

-- a list of one member begins with it
pub begins_alone : (b : Bool) (n : ℕ) → directed b (n ∷ []) ≡ n ∷ directed b []
begins_alone true n = refl
begins_alone false n = refl

-- an element without numbers is one gap more
pub gap_more : (p b : Bool) (gaps : ℕ) (old : List ℕ) (later : List (Option ℕ)) → old ++ listed p gaps (items_of (directed b []) ++ later) ≡ old ++ listed p (gaps + 1) later
gap_more p true gaps old later = ap (λ n. old ++ listed p n later) (sym (add-one gaps))
gap_more p false gaps old later = ap (λ n. old ++ listed p n later) (sym (add-one gaps))
