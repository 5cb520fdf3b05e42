-- What the look-ups find for a text is what the table says of its elements.
use Rattle.std.proofs.Common.{◌≡◌, ◌<◌, ℕ, zero, suc, ◌+◌, ◌*◌, Bool, true, false, cond, List, [], ◌∷◌, ◌++◌, length, map, get_or}
use Rattle.std.proofs.Common.{chars, Option, Some, None, is_some, sym, ap, ap₂, ◌∙◌, refl, arith, length-append}
use Rattle.std.specs.Prelude.{nat_lt}
use Rattle.std.specs.List.{flat_map}
use Rattle.std.specs.Option.{option_or, option_map, unwrap_or}
use Rattle.std.proofs.lemmas.List.{get_or-append-add}
use Rattle.std.proofs.lemmas.Str.{chars-nil}
use Rattle.coll_syntax.specs.Identifier.{same_id}
use Rattle.coll_syntax.specs.declared.identifiers.Id.{Id}
use Rattle.coll_syntax.specs.declared.identifiers.Id.TheVariants.{Char, Named, Undefined}
use Rattle.coll_syntax.specs.declared.weights.Weight.TheVariants.{Ignore}
use Rattle.coll_syntax.specs.Weights.{is_own}
use Rattle.coll_nodes.specs.Placement.{entry_at, place_among}
use Rattle.coll_nodes.specs.Table.{Collation, entries_of}
use Rattle.coll_nodes.specs.WellFormed.{IsWellFormed}
use Rattle.coll_nodes.specs.declared.entries.Entry.{Entry}
use Rattle.coll_nodes.proofs.EntryLemmas.{entry_there}
use Rattle.coll_elements.specs.Elements.{Element, beyond_first, longest, longer, split, elements_of, elements_placed, element_text, element_id, begins_with}
use Rattle.coll_elements.specs.NamedElements.{Finds}
use Rattle.coll_ranks.specs.WeightNumbers.{numbers_at, weight_at, undefined_weights}
use Rattle.coll_elements.specs.Rank.{known_rank}
use Rattle.coll_elements.specs.RankedElements.{RankedElement, ranked_text, ranked_in}
use Rattle.coll_ranks.specs.Ranks.{RanksValue, AreRanksOf, elements_by_ranks, elements_behind, element_with, compiled_numbers, character_element}
use Rattle.coll_ranks.specs.Ranks.{compiled_weight, compiled_by, compiled_entry, compiled_row_by, compiled_weights}
use Rattle.coll_ranks.specs.AlikePrefixes.{BeginAlike}
use Rattle.coll_ranks.specs.declared.text_elements.TextElement.{TextElement}
use Rattle.coll_ranks.specs.declared.text_elements.TextElement.TheVariants.{Placed}
use Rattle.coll_elements.specs.declared.named_elements.FoundElement.{FoundElement}
use Rattle.coll_elements.proofs.SplitTexts.{split_found}
use Rattle.coll_elements.proofs.TableElementLemmas.{has_place}
use Rattle.coll_ranks.proofs.RowNumbers.{BeginWithUndefined, filled_length, row_behind, entry_numbers, absent_numbers, character_absent}
use Rattle.coll_elements.proofs.Tests.{by_test}

-- The elements of a text, one after another.

-- a text that begins with a placed element, and what is behind it
pub first_is_placed : (ranks : RanksValue) (ranked : RankedElement) (text rest : List ℕ) → longest ranked_text ranks.elements text ≡ Some ranked → text ≡ ranked_text ranked ++ rest
    → 0 < length (ranked_text ranked) → elements_by_ranks ranks text ≡ element_with ranks.ids (Some ranked) 0 ∷ elements_by_ranks ranks rest
unfolding elements_by_ranks
first_is_placed ranks ranked text rest found goes_on some = split_found ranked_text ranks.elements (element_with ranks.ids) ranked (Placed ranked.rank) text rest found (λ c. refl) goes_on some

-- a text that begins with a character that stands alone, and what is behind it
pub first_is_character : (ranks : RanksValue) (c : ℕ) (rest : List ℕ) → longest ranked_text ranks.elements (c ∷ rest) ≡ None
    → elements_by_ranks ranks (c ∷ rest) ≡ element_with ranks.ids None c ∷ elements_by_ranks ranks rest
unfolding elements_by_ranks
first_is_character ranks c rest none = ap (λ l. element_with ranks.ids l c ∷ elements_behind ranks (beyond_first ranked_text l) rest) none

pub no_elements : (ranks : RanksValue) → elements_by_ranks ranks [] ≡ []
unfolding elements_by_ranks
no_elements ranks = refl

-- a text that begins with an element has it first
pub element_first : (ranks : RanksValue) (text : List ℕ) (found : FoundElement) → Finds (longest ranked_text ranks.elements text) text (Some found)
    → elements_by_ranks ranks text ≡ Placed found.rank ∷ elements_by_ranks ranks (chars found.rest.now)
element_first ranks text found h = by (longest ranked_text ranks.elements text) refl h where
  by : (l : Option RankedElement) → longest ranked_text ranks.elements text ≡ l → Finds l text (Some found) → elements_by_ranks ranks text ≡ Placed found.rank ∷ elements_by_ranks ranks
      (chars found.rest.now)
  by None e h = absurd (let no : Some found ≡ None = h in cc)
  by (Some ranked) e h = first_is_placed ranks ranked text (chars found.rest.now) e h.goes_on h.some ∙ ap (λ r. Placed r ∷ elements_by_ranks ranks (chars found.rest.now)) (sym h.rank)

-- and has its characters before those behind it
pub characters_behind : (longest : Option RankedElement) (text : List ℕ) (found : FoundElement) → Finds longest text (Some found) → length text ≡ found.length + length (chars found.rest.now)
characters_behind None text found h = absurd (let no : Some found ≡ None = h in cc)
characters_behind (Some ranked) text found h =
    ap length h.goes_on ∙ length-append (ranked_text ranked) (chars found.rest.now) ∙ ap (λ n. n + length (chars found.rest.now)) (sym h.length_is)

-- of which there are some
pub some_characters : (longest : Option RankedElement) (text : List ℕ) (found : FoundElement) → Finds longest text (Some found) → 0 < found.length
some_characters None text found h = absurd (let no : Some found ≡ None = h in cc)
some_characters (Some ranked) text found h = omega (arith, h.some, h.length_is)

-- a character that begins no element there stands alone
pub alone_first : (ranks : RanksValue) (text rest behind : List ℕ) (first : ℕ) (element : TextElement) → text ≡ first ∷ rest → longest ranked_text ranks.elements (first ∷ rest) ≡ None
    → element ≡ element_with ranks.ids None first → behind ≡ rest → elements_by_ranks ranks text ≡ element ∷ elements_by_ranks ranks behind
alone_first ranks text rest behind first element is none same left =
    ap (elements_by_ranks ranks) is ∙ (first_is_character ranks first rest none ∙ ap₂ (λ (p : TextElement) (later : List ℕ). p ∷ elements_by_ranks ranks later) (sym same) (sym left))

-- a text that begins with none has that of its first character first
pub character_first : (ranks : RanksValue) (text rest behind : List ℕ) (first : ℕ) (element : TextElement) → text ≡ first ∷ rest → Finds (longest ranked_text ranks.elements text) text None
    → element ≡ element_with ranks.ids None first → behind ≡ rest → elements_by_ranks ranks text ≡ element ∷ elements_by_ranks ranks behind
character_first ranks text rest behind first element is h same left = by (longest ranked_text ranks.elements text) refl h where
  by : (l : Option RankedElement) → longest ranked_text ranks.elements text ≡ l → Finds l text None → elements_by_ranks ranks text ≡ element ∷ elements_by_ranks ranks behind
  by None e h = alone_first ranks text rest behind first element is (ap (longest ranked_text ranks.elements) (sym is) ∙ e) same left
  by (Some ranked) e h = absurd h

-- texts begin alike with a character that begins no element
pub same_first : (ranks : RanksValue) (text other rest later : List ℕ) (first second : ℕ) → text ≡ first ∷ rest → other ≡ second ∷ later → second ≡ first
    → ((behind : List ℕ) → longest ranked_text ranks.elements (first ∷ behind) ≡ None) → BeginAlike (elements_by_ranks ranks text) (elements_by_ranks ranks other)
    (elements_by_ranks ranks rest) (elements_by_ranks ranks later)
same_first ranks text other rest later first second is also same none = (
  element_with ranks.ids None first ∷ [],
  ap (elements_by_ranks ranks) is ∙ first_is_character ranks first rest (none rest),
  ap (elements_by_ranks ranks) (also ∙ ap (λ c. c ∷ later) same) ∙ first_is_character ranks first later (none later),
)

-- Where the weights of an entry stand.

-- the compiled weight at a level of an entry that is found
abbrev found_weight : (Id → ℕ) → ℕ → Option Entry → List ℕ
found_weight rank level None = []
found_weight rank level (Some entry) = compiled_by rank entry.id (get_or entry.weights level Ignore)

-- an entry's row stands as many rows behind as its place says
row_of_place : (rank : Id → ℕ) (levels level : ℕ) (row : List (List ℕ)) (entries : List Entry) (id : Id) (place : ℕ) → length row ≡ levels → level < levels → place_among entries id ≡ Some place
    → get_or (row ++ flat_map (compiled_entry rank levels) entries) (place * levels + level) [] ≡ found_weight rank level (entry_at entries id)
row_of_place rank levels level row [] id place counted within is = absurd (cc)
row_of_place rank levels level row (entry ∷ entries) id place counted within is =
    by_test (λ b. cond b (Some 1) (option_map (λ place. suc place) (place_among entries id)) ≡ Some place → get_or (row ++ rows) (place * levels + level) []
    ≡ found_weight rank level (cond b (Some entry) (entry_at entries id))) (same_id id entry.id)
    (λ same first.
    let one : 1 ≡ place = (let h = first in cc) in
    row_behind rank levels level (place * levels + level) row (flat_map (compiled_entry rank levels) entries) entry.id entry.weights within (let at : place * levels + level ≡ length row + level =
    omega (arith, one, counted, ap (λ n. n * levels) one) in at))
    (λ other later. by (λ before e. row_of_place rank levels level (compiled_entry rank levels entry) entries id before (filled_length levels (map (compiled_by rank entry.id) entry.weights)) within e)
    (place_among entries id) refl later) is where
      rows : List (List ℕ)
      rows = compiled_entry rank levels entry ++ flat_map (compiled_entry rank levels) entries

      by : ((before : ℕ) → place_among entries id ≡ Some before → get_or (compiled_entry rank levels entry ++ flat_map (compiled_entry rank levels) entries) (before * levels + level) []
          ≡ found_weight rank level (entry_at entries id)) → (p : Option ℕ) → place_among entries id ≡ p → option_map (λ place. suc place) p ≡ Some place
          → get_or (row ++ rows) (place * levels + level) [] ≡ found_weight rank level (entry_at entries id)
      by behind None e none = absurd (cc)
      by behind (Some before) e next =
          let one : suc before ≡ place = (let h = next in cc) in
          ap (λ n. get_or (row ++ rows) n []) (let at : place * levels + level ≡ length row + (before * levels + level) = omega (arith, counted, ap (λ n. n * levels) one) in at)
          ∙ (get_or-append-add row rows (before * levels + level) []
          ∙ behind before e)

-- what has no place has no entry, and what has one has that of its identifier
entry_of_place : (entries : List Entry) (id : Id) → place_among entries id ≡ None → entry_at entries id ≡ None
entry_of_place entries id e = by (entry_at entries id) (sym (entry_there entries id) ∙ (has_place entries id ∙ ap is_some e)) where
  by : (found : Option Entry) → is_some found ≡ false → found ≡ None
  by None none = refl
  by (Some entry) none = absurd (cc)

record HasEntry (entries : List Entry) (id : Id) : Type 0 where
  entry : Entry
  found : entry_at entries id ≡ Some entry

has_entry : (entries : List Entry) (id : Id) (place : ℕ) → place_among entries id ≡ Some place → HasEntry entries id
has_entry entries id place e = by (entry_at entries id) refl (sym (entry_there entries id) ∙ (has_place entries id ∙ ap is_some e)) where
  by : (found : Option Entry) → entry_at entries id ≡ found → is_some found ≡ true → HasEntry entries id
  by None f there = absurd (cc)
  by (Some entry) f there = record { entry = entry; found = f }

module _ (ranks : RanksValue) (table : Collation) (are : AreRanksOf ranks table) (level : ℕ) (within : level < length table.rules) where
  -- what is compiled for a rank, by the rows of the table
  pub compiled_for : (rank : ℕ) → compiled_weight ranks.compiled rank level ≡ get_or (compiled_weights table) (rank * length table.rules + level) []
  compiled_for rank = ap₂ (λ (lists : List (List ℕ)) (levels : ℕ). get_or lists (rank * levels + level) []) are.weights are.levels

  begin : BeginWithUndefined ranks.compiled table (flat_map (compiled_entry (known_rank table) (length table.rules)) (entries_of table))
  begin = record { levels = are.levels; lists = are.weights; own = are.own }

  undefined_length : length (compiled_row_by (known_rank table) (length table.rules) Undefined (undefined_weights table)) ≡ length table.rules
  undefined_length = filled_length (length table.rules) (map (compiled_by (known_rank table) Undefined) (undefined_weights table))

  -- what has an entry
  placed_numbers : (id : Id) (place : ℕ) → place_among (entries_of table) id ≡ Some place → compiled_numbers ranks.compiled level (Placed place) ≡ numbers_at table level id
  placed_numbers id place is =
      let there : HasEntry (entries_of table) id = has_entry (entries_of table) id place is in
      entry_numbers ranks.compiled table (flat_map (compiled_entry (known_rank table) (length table.rules)) (entries_of table)) begin level within id there.entry place there.found
      (compiled_for place ∙ (row_of_place (known_rank table) (length table.rules) level (compiled_row_by (known_rank table) (length table.rules) Undefined (undefined_weights table)) (entries_of table)
      id place undefined_length within is
      ∙ ap (found_weight (known_rank table) level) there.found))

  -- a character
  character_numbers : (c : ℕ) → compiled_numbers ranks.compiled level (element_with ranks.ids None c) ≡ numbers_at table level (Char c)
  character_numbers c = ap (λ r. compiled_numbers ranks.compiled level (character_element r c)) (are.identifiers (Char c)) ∙ by (place_among (entries_of table) (Char c)) refl where
    by : (p : Option ℕ) → place_among (entries_of table) (Char c) ≡ p → compiled_numbers ranks.compiled level (character_element (option_or p None) c) ≡ numbers_at table level (Char c)
    by None e = character_absent ranks.compiled table (flat_map (compiled_entry (known_rank table) (length table.rules)) (entries_of table)) begin level within c
        (entry_of_place (entries_of table) (Char c) e)
    by (Some place) e = placed_numbers (Char c) place e

  -- an element
  element_numbers : (element : Element) → compiled_numbers ranks.compiled level (Placed (known_rank table (Named element.name))) ≡ numbers_at table level (Named element.name)
  element_numbers element = by (place_among (entries_of table) (Named element.name)) refl where
    by : (p : Option ℕ) → place_among (entries_of table) (Named element.name) ≡ p → compiled_numbers ranks.compiled level (Placed (known_rank table (Named element.name)))
        ≡ numbers_at table level (Named element.name)
    by None e =
        ap (λ p. compiled_numbers ranks.compiled level (Placed (unwrap_or (option_or p None) 0))) e
        ∙ absent_numbers ranks.compiled table (flat_map (compiled_entry (known_rank table) (length table.rules)) (entries_of table)) begin level within (Named element.name) 0
        (entry_of_place (entries_of table) (Named element.name) e) (nothing (is_own (weight_at table level (Named element.name)))) where
          nothing : (b : Bool) → ◌≡◌ {A = ℕ} 0 (cond b 0 0)
          nothing true = refl
          nothing false = refl
    by (Some place) e = ap (λ p. compiled_numbers ranks.compiled level (Placed (unwrap_or (option_or p None) 0))) e ∙ placed_numbers (Named element.name) place e

  -- an element
  numbers_of_element : (found : Option Element) (c : ℕ) → compiled_numbers ranks.compiled level (element_with ranks.ids (option_map (ranked_in table) found) c) ≡ numbers_at table level
      (element_id found c)
  numbers_of_element None c = character_numbers c
  numbers_of_element (Some element) c = element_numbers element

  -- the longest of ranked elements
  longest_ranked : (elements : List Element) (text : List ℕ) → longest ranked_text (map (ranked_in table) elements) text ≡ option_map (ranked_in table) (longest element_text elements text)
  longest_ranked [] text = refl
  longest_ranked (element ∷ elements) text =
      ap (λ l. cond (begins_with text element.text) (Some (longer ranked_text (ranked_in table element) l)) l) (longest_ranked elements text)
      ∙ by (begins_with text element.text) (longest element_text elements text) where
        one : (b : Bool) (other : Element) → cond b (ranked_in table element) (ranked_in table other) ≡ ranked_in table (cond b element other)
        one true other = refl
        one false other = refl

        by : (b : Bool) (l : Option Element) → cond b (Some (longer ranked_text (ranked_in table element) (option_map (ranked_in table) l))) (option_map (ranked_in table) l)
            ≡ option_map (ranked_in table) (cond b (Some (longer element_text element l)) l)
        by true None = refl
        by true (Some other) = ap Some (one (nat_lt (length other.text) (length element.text)) other)
        by false l = refl

  -- as many characters are skipped
  beyond_ranked : (found : Option Element) → beyond_first ranked_text (option_map (ranked_in table) found) ≡ beyond_first element_text found
  beyond_ranked None = refl
  beyond_ranked (Some element) = refl

  -- the numbers of all elements
  numbers_of_split : (skipped : ℕ) (text : List ℕ) → map (compiled_numbers ranks.compiled level)
      (split ranked_text (map (ranked_in table) (elements_placed table)) (element_with ranks.ids) skipped text)
      ≡ map (numbers_at table level) (split element_text (elements_placed table) element_id skipped text)
  numbers_of_split skipped [] = refl
  numbers_of_split (suc skipped) (c ∷ text) = numbers_of_split skipped text
  numbers_of_split zero (c ∷ text) =
      let found = longest element_text (elements_placed table) (c ∷ text) in
      ap (λ l. compiled_numbers ranks.compiled level (element_with ranks.ids l c) ∷ map (compiled_numbers ranks.compiled level)
      (split ranked_text (map (ranked_in table) (elements_placed table)) (element_with ranks.ids) (beyond_first ranked_text l) text)) (longest_ranked (elements_placed table) (c ∷ text))
      ∙ (ap (λ n. compiled_numbers ranks.compiled level (element_with ranks.ids (option_map (ranked_in table) found) c) ∷ map (compiled_numbers ranks.compiled level)
      (split ranked_text (map (ranked_in table) (elements_placed table)) (element_with ranks.ids) n text)) (beyond_ranked found)
      ∙ ap₂ (λ (n : List ℕ) (ns : List (List ℕ)). n ∷ ns) (numbers_of_element found c) (numbers_of_split (beyond_first element_text found) text))

-- the numbers of the elements of a text by ranks are those of its elements
pub numbers_are : (ranks : RanksValue) (table : Collation) → AreRanksOf ranks table → IsWellFormed table → (level : ℕ) → level < length table.rules → (text : List ℕ)
    → map (compiled_numbers ranks.compiled level) (elements_by_ranks ranks text) ≡ map (numbers_at table level) (elements_of table text)
unfolding elements_by_ranks elements_of
numbers_are ranks table are well level within text =
    ap (λ es. map (compiled_numbers ranks.compiled level) (split ranked_text es (element_with ranks.ids) 0 text)) are.elements
    ∙ numbers_of_split ranks table are level within 0 text

-- an empty text has no characters
pub no_characters : (text rest : List ℕ) → rest ≡ text → length rest ≡ 0 → chars text ≡ []
no_characters text [] e none = ap chars (sym e) ∙ chars-nil
no_characters text (b ∷ rest) e none = absurd (omega arith)
