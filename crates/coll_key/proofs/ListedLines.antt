-- The lines of entries, by what ranks say, are those of the table.
use Rattle.std.proofs.Common.{◌≡◌, ◌<◌, ◌≤◌, All, ℕ, zero, suc, ◌+◌, ◌*◌, Bool, true, false, cond, List, [], ◌∷◌, ◌++◌, length, map, get_or, take, codes}
use Rattle.std.proofs.Common.{replicate, Option, Some, None, is_some, Bor, sym, ap, ap₂, subst, ◌∙◌, refl, arith, append_assoc, append-nil, length-append}
use Rattle.std.specs.Prelude.{decimal, option_copied, ◌||◌}
use Rattle.std.specs.List.{flat_map, list_any}
use Rattle.std.specs.Option.{option_or, unwrap_or}
use Rattle.std.proofs.Math.ListN.{get_or-append}
use Rattle.std.proofs.lemmas.Bool.{false≢true}
use Rattle.std.proofs.lemmas.Grind.{flat_map-append}
use Rattle.std.proofs.lemmas.List.{get_or-append-add}
use Rattle.std.proofs.lemmas.List.Elements.{All-head, All-tail, All-nil, All-cons}
use Rattle.coll_devices.specs.PhysicalLines.{line_feed}
use Rattle.coll_syntax.specs.Identifier.{same_name, same_id, has_id}
use Rattle.coll_syntax.specs.declared.identifiers.Id.{Id}
use Rattle.coll_syntax.specs.declared.identifiers.Id.TheVariants.{Char, Named, Undefined}
use Rattle.coll_syntax.specs.declared.weights.Weight.{Weight}
use Rattle.coll_syntax.specs.declared.weights.Weight.TheVariants.{Ignore, Own, Names}
use Rattle.coll_texts.specs.Pieces.{words_line}
use Rattle.coll_texts.specs.PrintedParts.{char_bytes}
use Rattle.coll_nodes.specs.Placement.{entry_at}
use Rattle.coll_nodes.specs.Walks.{Visited, VisitedSection, VisitedEntry, visited, entry_visited, entries_visited}
use Rattle.coll_nodes.specs.Table.{Collation, entries_of, ids_of, is_placed, is_symbol, names_of}
use Rattle.coll_nodes.specs.WellFormed.{AreDistinct, HasWeights, IsWeighted, IsWellFormed}
use Rattle.coll_nodes.specs.declared.declarations.Declaration.{Declaration}
use Rattle.coll_nodes.specs.declared.declarations.Declaration.TheVariants as declaration
use Rattle.coll_nodes.specs.declared.entries.Entry.{Entry}
use Rattle.coll_nodes.proofs.EntryLemmas.{entry_there}
use Rattle.coll_texts.proofs.VisitedEntries.{visited_all}
use Rattle.coll_lookups.proofs.Sameness.{same_name_decides, same_id_decides}
use Rattle.coll_key.specs.CompiledListing.{string_named, listed_id, listed_level, listed_line, listed_entry, listed_entries, listed_undefined}
use Rattle.coll_elements.specs.Elements.{element_placed}
use Rattle.coll_elements.specs.Rank.{known_rank}
use Rattle.coll_elements.specs.RankedElements.{ranked_in, last_string}
use Rattle.coll_ranks.specs.Ranks.{RanksValue, AreRanksOf, compiled_by, compiled_entry, compiled_weight, compiled_row_by}
use Rattle.coll_ranks.specs.WeightNumbers.{undefined_weights, weights_or}
use Rattle.coll_key.specs.WrittenKey.{level_end}
use Rattle.coll_key.specs.ListingParts.{spaced, spaced_number, is_star, level_bytes, spelled_with, levels_bytes, ranked_line, line_if_weighted, visited_line, ranked_lines, HasFewWeights}
use Rattle.coll_ranks.proofs.ElementNumbers.{compiled_for}
use Rattle.coll_ranks.proofs.RowNumbers.{filled_length, row_at}
use Rattle.coll_elements.proofs.TableElementLemmas.{or_none}
use Rattle.coll_elements.proofs.Tests.{by_test}

-- Rows.

-- the row of an entry stands behind as many rows as entries stand before it, and one
row_of_entry : (rank : Id → ℕ) (levels level : ℕ) (row : List (List ℕ)) (before : List Entry) (entry : Entry) (later : List Entry) → length row ≡ levels → level < levels
    → get_or (row ++ flat_map (compiled_entry rank levels) (before ++ entry ∷ later)) (suc (length before) * levels + level) [] ≡ compiled_by rank entry.id (get_or entry.weights level Ignore)
row_of_entry rank levels level row [] entry later counted within =
    ap (λ n. get_or (row ++ (compiled_entry rank levels entry ++ flat_map (compiled_entry rank levels) later)) n []) (let at : 1 * levels + level ≡ length row + level = omega (arith, counted) in at)
    ∙ (get_or-append-add row (compiled_entry rank levels entry ++ flat_map (compiled_entry rank levels) later) level []
    ∙ (get_or-append (compiled_entry rank levels entry) (flat_map (compiled_entry rank levels) later) [] level (let fits : level < length (compiled_entry rank levels entry) =
    omega (arith, filled_length levels (map (compiled_by rank entry.id) entry.weights)) in fits)
    ∙ row_at rank levels level entry.id entry.weights within))
row_of_entry rank levels level row (first ∷ before) entry later counted within =
    ap (λ n. get_or (row ++ (compiled_entry rank levels first ++ flat_map (compiled_entry rank levels) (before ++ entry ∷ later))) n []) (let at : suc (suc (length before)) * levels + level
    ≡ length row + (suc (length before) * levels + level) = omega (arith, counted) in at)
    ∙ (get_or-append-add row (compiled_entry rank levels first ++ flat_map (compiled_entry rank levels) (before ++ entry ∷ later)) (suc (length before) * levels + level) []
    ∙ row_of_entry rank levels level (compiled_entry rank levels first) before entry later (filled_length levels (map (compiled_by rank first.id) first.weights)) within)

-- Levels.

-- ranks named, as words
words_named : (rank : Id → ℕ) (ids : List Id) → flat_map spaced_number (map rank ids) ++ spaced level_end ≡ flat_map spaced (map (λ id. decimal (rank id)) ids ++ level_end ∷ [])
words_named rank [] = sym (append-nil (spaced level_end))
words_named rank (id ∷ ids) = append_assoc (spaced_number (rank id)) (flat_map spaced_number (map rank ids)) (spaced level_end) ∙ ap (λ l. spaced_number (rank id) ++ l) (words_named rank ids)

-- a level
level_words : (table : Collation) (id : Id) (weight : Weight) → level_bytes (is_star id weight) (compiled_by (known_rank table) id weight) ≡ flat_map spaced (listed_level table id weight)
level_words table (Char c) Ignore = words_named (known_rank table) []
level_words table (Char c) Own = words_named (known_rank table) (Char c ∷ [])
level_words table (Char c) (Names ids) = words_named (known_rank table) ids
level_words table (Named name) Ignore = words_named (known_rank table) []
level_words table (Named name) Own = words_named (known_rank table) (Named name ∷ [])
level_words table (Named name) (Names ids) = words_named (known_rank table) ids
level_words table Undefined Ignore = words_named (known_rank table) []
level_words table Undefined Own = ap (λ l. spaced (codes "*") ++ l) (sym (append-nil (spaced level_end)))
level_words table Undefined (Names ids) = words_named (known_rank table) ids

-- all levels, where the compiled weights are those of the weights
levels_words : (ranks : RanksValue) (table : Collation) (rank : ℕ) (id : Id) (level : ℕ) (weights : List Weight)
    → ((further : ℕ) → further < length weights → compiled_weight ranks.compiled rank (level + further) ≡ compiled_by (known_rank table) id (get_or weights further Ignore))
    → levels_bytes ranks rank id level weights ≡ flat_map spaced (flat_map (listed_level table id) weights)
levels_words ranks table rank id level [] row = refl
levels_words ranks table rank id level (weight ∷ weights) row =
    ap₂ (λ (first later : List ℕ). first ++ later)
    (ap (level_bytes (is_star id weight)) (ap (compiled_weight ranks.compiled rank) (let here : level ≡ level + 0 = omega arith in here) ∙ row 0 (omega arith)) ∙ level_words table id weight)
    (levels_words ranks table rank id (suc level) weights (λ further within. ap (compiled_weight ranks.compiled rank) (let next : suc level + further ≡ level + suc further = omega arith in next)
    ∙ row (suc further) (omega arith)))
    ∙ sym (flat_map-append spaced (listed_level table id weight) (flat_map (listed_level table id) weights))

-- the levels of UNDEFINED where it stands for itself at each
own_words : (ranks : RanksValue) (table : Collation) (rank level count : ℕ) → levels_bytes ranks rank Undefined level (replicate count Own)
    ≡ flat_map spaced (flat_map (listed_level table Undefined) (replicate count Own))
own_words ranks table rank level zero = refl
own_words ranks table rank level (suc count) = ap (λ l. level_bytes true (compiled_weight ranks.compiled rank level) ++ l) (own_words ranks table rank (suc level) count)

-- Spellings.

-- a name that isn't declared has no string
no_string : (table : Collation) (declared : List Declaration) (name : List ℕ) → list_any (same_name name) (names_of declared) ≡ false
    → last_string (map (ranked_in table) (flat_map (element_placed table) declared)) name ≡ None
no_string table [] name h = refl
no_string table (declaration.Symbol other ∷ declared) name h =
    by_test (λ b. (b || list_any (same_name name) (names_of declared)) ≡ false → last_string (map (ranked_in table) (flat_map (element_placed table) declared)) name ≡ None) (same_name name other)
    (λ on e. absurd (false≢true (sym e)))
    (λ off e. no_string table declared name e) h
no_string table (declaration.Equivalence other symbol ∷ declared) name h =
    by_test (λ b. (b || list_any (same_name name) (names_of declared)) ≡ false → last_string (map (ranked_in table) (flat_map (element_placed table) declared)) name ≡ None) (same_name name other)
    (λ on e. absurd (false≢true (sym e)))
    (λ off e. no_string table declared name e) h
no_string table (declaration.Element other text ∷ declared) name h =
    by_test (λ b. same_name name other ≡ b → (b || list_any (same_name name) (names_of declared)) ≡ false
    → last_string (map (ranked_in table) (cond (is_placed table (Named other)) (record { name = other; text = text } ∷ []) [] ++ flat_map (element_placed table) declared)) name ≡ None)
    (same_name name other)
    (λ on is e. absurd (false≢true (sym e)))
    (λ off is e. by_test (λ p. last_string (map (ranked_in table) (cond p (record { name = other; text = text } ∷ []) [] ++ flat_map (element_placed table) declared)) name ≡ None)
    (is_placed table (Named other))
    (λ placed. ap₂ (λ (later : Option (List ℕ)) (b : Bool). option_or later (cond b (Some text) None)) (no_string table declared name e) is)
    (λ absent. no_string table declared name e)) refl h

-- the string of a placed name
string_of_placed : (table : Collation) (declared : List Declaration) (name : List ℕ) → AreDistinct same_name (names_of declared) → is_placed table (Named name) ≡ true
    → unwrap_or (last_string (map (ranked_in table) (flat_map (element_placed table) declared)) name) [] ≡ string_named declared name
string_of_placed table [] name distinct placed = refl
string_of_placed table (declaration.Symbol other ∷ declared) name distinct placed = string_of_placed table declared name distinct.1 placed
string_of_placed table (declaration.Equivalence other symbol ∷ declared) name distinct placed = string_of_placed table declared name distinct.1 placed
string_of_placed table (declaration.Element other text ∷ declared) name distinct placed =
    by_test (λ b. same_name name other ≡ b
    → unwrap_or (last_string (map (ranked_in table) (cond (is_placed table (Named other)) (record { name = other; text = text } ∷ []) [] ++ flat_map (element_placed table) declared)) name) []
    ≡ cond b text (string_named declared name)) (same_name name other)
    (λ on is.
    let same : name ≡ other = (same_name_decides name other).0 is in
    let there : is_placed table (Named other) ≡ true = ap (λ n. is_placed table (Named n)) (sym same) ∙ placed in
    let none = no_string table declared name (ap (λ n. list_any (same_name n) (names_of declared)) same ∙ distinct.0) in
    ap (λ p. unwrap_or (last_string (map (ranked_in table) (cond p (record { name = other; text = text } ∷ []) [] ++ flat_map (element_placed table) declared)) name) []) there
    ∙ ap₂ (λ (later : Option (List ℕ)) (b : Bool). unwrap_or (option_or later (cond b (Some text) None)) []) none is)
    (λ off is. by_test (λ p. unwrap_or (last_string (map (ranked_in table) (cond p (record { name = other; text = text } ∷ []) [] ++ flat_map (element_placed table) declared)) name) []
    ≡ string_named declared name) (is_placed table (Named other))
    (λ there.
    ap (λ b. unwrap_or (option_or (last_string (map (ranked_in table) (flat_map (element_placed table) declared)) name) (cond b (Some text) None)) []) is
    ∙ (ap (λ s. unwrap_or s []) (or_none (last_string (map (ranked_in table) (flat_map (element_placed table) declared)) name)) ∙ string_of_placed table declared name distinct.1 placed))
    (λ absent. string_of_placed table declared name distinct.1 placed)) refl

-- the spelling of a placed identifier
spelled_as_listed : (ranks : RanksValue) (table : Collation) (id : Id) → AreRanksOf ranks table → IsWellFormed table → is_placed table id ≡ true → spelled_with ranks id ≡ listed_id table.declared id
spelled_as_listed ranks table (Char c) are well placed = refl
spelled_as_listed ranks table (Named name) are well placed =
    ap (λ es. flat_map char_bytes (unwrap_or (last_string es name) [])) are.elements
    ∙ ap (flat_map char_bytes) (string_of_placed table table.declared name well.built.distinct_names placed)
spelled_as_listed ranks table Undefined are well placed = refl

-- Lines.

-- words with one space between them are a word, and words with a space before each
words_spaced : (word : List ℕ) (words : List (List ℕ)) → words_line (word ∷ words) ≡ word ++ (flat_map spaced words ++ line_feed ∷ [])
words_spaced word [] = refl
words_spaced word (next ∷ words) =
    ap (λ l. word ++ 32 ∷ l) (words_spaced next words)
    ∙ ap (λ l. word ++ 32 ∷ l) (sym (append_assoc next (flat_map spaced words) (line_feed ∷ [])))

-- the words of a line
line_words : (table : Collation) (ranks : RanksValue) (rank : ℕ) (id : Id) (weights : List Weight) → spelled_with ranks id ≡ listed_id table.declared id
    → levels_bytes ranks rank id 0 weights ≡ flat_map spaced (flat_map (listed_level table id) weights) → ranked_line ranks rank id weights ≡ listed_line table rank id weights
line_words table ranks rank id weights spelled levels =
    append_assoc (decimal rank) (32 ∷ spelled_with ranks id) (levels_bytes ranks rank id 0 weights ++ line_feed ∷ [])
    ∙ (ap₂ (λ (spelling words : List ℕ). decimal rank ++ (32 ∷ (spelling ++ (words ++ line_feed ∷ [])))) spelled levels
    ∙ ap (λ l. decimal rank ++ (32 ∷ l)) (sym (words_spaced (listed_id table.declared id) (flat_map (listed_level table id) weights))))

-- a placed identifier stands among the entries
placed_among : (before : List Entry) (entry : Entry) (later : List Entry) → has_id (ids_of (before ++ entry ∷ later)) entry.id ≡ true
placed_among [] entry later = ap (λ b. b || has_id (ids_of later) entry.id) ((same_id_decides entry.id entry.id).1 refl)
placed_among (first ∷ before) entry later = ap (λ b. same_id entry.id first.id || b) (placed_among before entry later) ∙ by (same_id entry.id first.id) where
  by : (b : Bool) → (b || true) ≡ true
  by true = refl
  by false = refl

-- a line where there are weights
line_some : (ranks : RanksValue) (rank : ℕ) (id : Id) (weights : List Weight) → 1 ≤ length weights → line_if_weighted ranks rank id weights ≡ ranked_line ranks rank id weights
line_some ranks rank id [] some = absurd (omega (arith, some))
line_some ranks rank id (weight ∷ weights) some = refl

-- an entry that is lent is placed
pub placed_if_lent : (table : Collation) (id : Id) (lent : Option (Bor Entry)) → option_copied lent ≡ entry_at (entries_of table) id → is_some lent ≡ is_placed table id
placed_if_lent table id lent found = by lent ∙ (ap is_some found ∙ sym (entry_there (entries_of table) id)) where
  by : (lent : Option (Bor Entry)) → is_some lent ≡ is_some (option_copied lent)
  by None = refl
  by (Some x) = refl

none_of : {X : Type 0} (found : Option X) → is_some found ≡ false → found ≡ None
none_of None absent = refl
none_of (Some x) absent = absurd (false≢true (sym absent))

module _ (ranks : RanksValue) (table : Collation) (are : AreRanksOf ranks table) (well : IsWellFormed table) where
  -- the compiled weights of an entry
  entry_row : (before : List Entry) (entry : Entry) (later : List Entry) → entries_of table ≡ before ++ entry ∷ later → (level : ℕ) → level < length table.rules
      → compiled_weight ranks.compiled (suc (length before)) level ≡ compiled_by (known_rank table) entry.id (get_or entry.weights level Ignore)
  entry_row before entry later all level within =
      compiled_for ranks table are level within (suc (length before))
      ∙ (ap (λ es. get_or (compiled_row_by (known_rank table) (length table.rules) Undefined (undefined_weights table) ++ flat_map (compiled_entry (known_rank table) (length table.rules)) es)
      (suc (length before) * length table.rules + level) []) all
      ∙ row_of_entry (known_rank table) (length table.rules) level (compiled_row_by (known_rank table) (length table.rules) Undefined (undefined_weights table)) before entry later
      (filled_length (length table.rules) (map (compiled_by (known_rank table) Undefined) (undefined_weights table))) within)

  -- the line of an entry
  entry_line : (before : List Entry) (entry : Entry) (later : List Entry) → entries_of table ≡ before ++ entry ∷ later → IsWeighted (length table.rules) table.declared entry
      → line_if_weighted ranks (suc (length before)) entry.id entry.weights ≡ listed_entry table (suc (length before)) entry
  entry_line before entry later all weighted = by (is_symbol table.declared entry.id) weighted where
    placed : is_placed table entry.id ≡ true
    placed = ap (λ es. has_id (ids_of es) entry.id) all ∙ placed_among before entry later

    by : (b : Bool) → HasWeights (length table.rules) b entry → line_if_weighted ranks (suc (length before)) entry.id entry.weights
        ≡ cond b [] (listed_line table (suc (length before)) entry.id entry.weights)
    by true none = ap (line_if_weighted ranks (suc (length before)) entry.id) none
    by false some =
        line_some ranks (suc (length before)) entry.id entry.weights (omega (arith, some.0, well.some_levels))
        ∙ line_words table ranks (suc (length before)) entry.id entry.weights
        (spelled_as_listed ranks table entry.id are well placed)
        (levels_words ranks table (suc (length before)) entry.id 0 entry.weights
        (λ level within. ap (compiled_weight ranks.compiled (suc (length before))) (let same : 0 + level ≡ level = omega arith in same)
        ∙ entry_row before entry later all level (let fits : level < length table.rules = omega (arith, within, some.0) in fits)))

  -- the lines of entries behind others
  lines_behind : (before rest : List Entry) → entries_of table ≡ before ++ rest → All (IsWeighted (length table.rules) table.declared) rest → ranked_lines ranks (suc (length before)) rest
      ≡ listed_entries table (suc (length before)) rest
  lines_behind before [] all weighted = refl
  lines_behind before (entry ∷ rest) all weighted =
      let one : length (before ++ entry ∷ []) ≡ suc (length before) = length-append before (entry ∷ []) ∙ (let more : length before + 1 ≡ suc (length before) = omega arith in more) in
      ap₂ (λ (first later : List ℕ). first ++ later)
      (entry_line before entry rest all (All-head (IsWeighted (length table.rules) table.declared) entry rest weighted))
      (ap (λ n. ranked_lines ranks (suc n) rest) (sym one)
      ∙ (lines_behind (before ++ entry ∷ []) rest (all ∙ sym (append_assoc before (entry ∷ []) rest)) (All-tail (IsWeighted (length table.rules) table.declared) entry rest weighted)
      ∙ ap (λ n. listed_entries table (suc n) rest) one))

  -- the lines of all entries
  pub lines_are_listed : (items : List Visited) → items ≡ visited table.sections → listed_entries table 1 (entries_of table) ≡ ranked_lines ranks 1 (entries_visited items)
  lines_are_listed items walked =
      sym (ap (λ es. ranked_lines ranks 1 es) (ap entries_visited walked ∙ visited_all table.sections)
      ∙ lines_behind [] (entries_of table) refl well.built.weighted)

  -- the line of UNDEFINED that isn't placed
  pub undefined_is_listed : (rank : ℕ) (weights : List Weight) → is_placed table Undefined ≡ false → rank ≡ known_rank table Undefined → weights ≡ replicate (length table.rules) Own
      → listed_undefined table ≡ ranked_line ranks rank Undefined weights
  undefined_is_listed rank weights absent ranked own =
      let none : entry_at (entries_of table) Undefined ≡ None = none_of (entry_at (entries_of table) Undefined) (sym (entry_there (entries_of table) Undefined) ∙ absent) in
      let stands : undefined_weights table ≡ weights = ap (λ e. weights_or e (replicate (length table.rules) Own)) none ∙ sym own in
      ap (λ b. cond b [] (listed_line table (known_rank table Undefined) Undefined (undefined_weights table))) absent
      ∙ (ap₂ (λ (n : ℕ) (ws : List Weight). listed_line table n Undefined ws) (sym ranked) stands
      ∙ sym (line_words table ranks rank Undefined weights refl (subst (λ (ws : List Weight). levels_bytes ranks rank Undefined 0 ws ≡ flat_map spaced (flat_map (listed_level table Undefined) ws))
      (sym own) (own_words ranks table rank 0 (length table.rules)))))

-- UNDEFINED that is placed has no line of its own
pub undefined_is_entry : (table : Collation) → is_placed table Undefined ≡ true → listed_undefined table ≡ []
undefined_is_entry table there = ap (λ b. cond b [] (listed_line table (known_rank table Undefined) Undefined (undefined_weights table))) there

-- four levels at most that are their entry's own
pub own_levels : (levels : ℕ) → levels ≤ 4 → take levels (Own ∷ Own ∷ Own ∷ Own ∷ []) ≡ replicate levels Own
own_levels zero few = refl
own_levels (suc zero) few = refl
own_levels (suc (suc zero)) few = refl
own_levels (suc (suc (suc zero))) few = refl
own_levels (suc (suc (suc (suc zero)))) few = refl
own_levels (suc (suc (suc (suc (suc levels))))) few = absurd (omega (arith, few))

-- What a walk visits.

-- an entry has few weights
has_few : (levels : ℕ) (declared : List Declaration) (entry : Entry) → IsWeighted levels declared entry → HasFewWeights levels entry
has_few levels declared entry weighted = by (is_symbol declared entry.id) weighted where
  by : (b : Bool) → HasWeights levels b entry → length entry.weights ≤ levels
  by true none = omega (arith, ap length none)
  by false some = omega (arith, some.0)

have_few : (levels : ℕ) (declared : List Declaration) (entries : List Entry) → All (IsWeighted levels declared) entries → All (HasFewWeights levels) entries
have_few levels declared [] weighted = All-nil (HasFewWeights levels)
have_few levels declared (entry ∷ entries) weighted =
    All-cons (HasFewWeights levels) entry entries (has_few levels declared entry (All-head (IsWeighted levels declared) entry entries weighted))
    (have_few levels declared entries (All-tail (IsWeighted levels declared) entry entries weighted))

-- and so has each that a walk visits
pub fit_visited : (table : Collation) (levels : ℕ) (items : List Visited) → IsWellFormed table → levels ≡ length table.rules → items ≡ visited table.sections
    → All (HasFewWeights levels) (entries_visited items)
fit_visited table levels items well counted walked =
    subst (All (HasFewWeights levels)) (sym (ap entries_visited walked ∙ visited_all table.sections))
    (subst (λ n. All (HasFewWeights n) (entries_of table)) (sym counted) (have_few (length table.rules) table.declared (entries_of table) well.built.weighted))

-- and so has each that is left
pub fits_later : (levels : ℕ) (left later : List Visited) (item : Visited) → left ≡ item ∷ later → All (HasFewWeights levels) (entries_visited left)
    → All (HasFewWeights levels) (entries_visited later)
fits_later levels left later item first fit = by item (subst (λ items. All (HasFewWeights levels) (entries_visited items)) first fit) where
  by : (item : Visited) → All (HasFewWeights levels) (entry_visited item ++ entries_visited later) → All (HasFewWeights levels) (entries_visited later)
  by (VisitedSection name) h = h
  by (VisitedEntry entry) h = All-tail (HasFewWeights levels) entry (entries_visited later) h

-- the lines of what a walk visits are the first one's, and those of what is left
pub lines_next : (ranks : RanksValue) (rank next : ℕ) (left later : List Visited) (item : Visited) → left ≡ item ∷ later → next ≡ rank + length (entry_visited item)
    → ranked_lines ranks rank (entries_visited left) ≡ visited_line ranks rank item ++ ranked_lines ranks next (entries_visited later)
lines_next ranks rank next left later item first count =
    ap (λ items. ranked_lines ranks rank (entries_visited items)) first ∙ (by item ∙ ap (λ n. visited_line ranks rank item ++ ranked_lines ranks n (entries_visited later)) (sym count)) where
      by : (item : Visited) → ranked_lines ranks rank (entry_visited item ++ entries_visited later)
          ≡ visited_line ranks rank item ++ ranked_lines ranks (rank + length (entry_visited item)) (entries_visited later)
      by (VisitedSection name) = ap (λ n. ranked_lines ranks n (entries_visited later)) (let same : rank ≡ rank + 0 = omega arith in same)
      by (VisitedEntry entry) = ap (λ n. line_if_weighted ranks rank entry.id entry.weights ++ ranked_lines ranks n (entries_visited later)) (let same : suc rank ≡ rank + 1 = omega arith in same)
