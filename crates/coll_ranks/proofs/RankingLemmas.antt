-- Walks that give ranks, and what they come to.
use Rattle.std.proofs.Common.{◌≡◌, ◌<◌, ℕ, suc, ◌+◌, false, cond, List, [], ◌∷◌, ◌++◌, length, Option, Some, None, sym, ap, ap₂, ◌∙◌, refl, arith, length-append}
use Rattle.std.specs.Prelude.{◌||◌}
use Rattle.std.specs.List.{flat_map, list_any}
use Rattle.std.specs.Option.{option_or, option_map, unwrap_or}
use Rattle.std.proofs.lemmas.Bool.{false≢true}
use Rattle.coll_syntax.specs.Identifier.{same_id}
use Rattle.coll_syntax.specs.declared.identifiers.Id.{Id}
use Rattle.coll_syntax.specs.declared.identifiers.Id.TheVariants.{Char, Named, Undefined}
use Rattle.coll_lookups.specs.NamePlaces.{place_named}
use Rattle.coll_nodes.specs.Placement.{place_among}
use Rattle.coll_nodes.specs.Table.{Collation, entries_of, ids_of}
use Rattle.coll_nodes.specs.Walks.{Visited, VisitedSection, VisitedEntry, visited, entry_visited, entries_visited}
use Rattle.coll_nodes.specs.WellFormed.{AreDistinct, IsWellFormed}
use Rattle.coll_nodes.specs.declared.entries.Entry.{Entry}
use Rattle.coll_texts.proofs.VisitedEntries.{visited_all}
use Rattle.coll_lookups.proofs.Sameness.{same_id_decides}
use Rattle.coll_ranks.specs.WeightNumbers.{undefined_weights}
use Rattle.coll_elements.specs.Rank.{known_rank}
use Rattle.coll_ranks.specs.Ranking.{last_place, AreCharRanksOf, AreIdRanksOf}
use Rattle.coll_ranks.specs.Ranks.{RanksById, rank_of_char, compiled_row_by, compiled_entry, compiled_weights}
use Rattle.coll_elements.proofs.Tests.{by_test}
use Rattle.coll_elements.proofs.TableElementLemmas.{or_none}

-- What a walk visits.

or_all : {X : Type 0} (a b c : Option X) → option_or (option_or a b) c ≡ option_or a (option_or b c)
or_all None b c = refl
or_all (Some x) b c = refl

-- what is counted, and what is left
pub counted_visited : (left later : List Visited) (item : Visited) (rank next total : ℕ) → left ≡ item ∷ later → next ≡ rank + length (entry_visited item)
    → rank + length (entries_visited left) ≡ total → next + length (entries_visited later) ≡ total
counted_visited left later item rank next total first count all =
    let whole : length (entries_visited left) ≡ length (entry_visited item) + length (entries_visited later) =
    ap (λ items. length (entries_visited items)) first ∙ length-append (entry_visited item) (entries_visited later) in
    omega arith

-- the last place of an identifier is the same, whether what is visited first has been ranked or not
last_of_visited : (item : Visited) (rank : ℕ) (entries : List Entry) (id : Id) → last_place rank (entry_visited item ++ entries) id
    ≡ option_or (last_place (rank + length (entry_visited item)) entries id) (last_place rank (entry_visited item) id)
last_of_visited (VisitedSection name) rank entries id = ap (λ n. last_place n entries id) (let same : rank ≡ rank + 0 = omega arith in same) ∙ sym (or_none (last_place (rank + 0) entries id))
last_of_visited (VisitedEntry entry) rank entries id =
    ap (λ n. option_or (last_place n entries id) (cond (same_id id entry.id) (Some (suc rank)) None)) (let same : suc rank ≡ rank + 1 = omega arith in same)

-- the last place of what has a rank, or else the one it had
pub ranked_visited : (left later : List Visited) (item : Visited) (rank next : ℕ) (id : Id) (old new : Option ℕ) → left ≡ item ∷ later → next ≡ rank + length (entry_visited item)
    → new ≡ option_or (last_place rank (entry_visited item) id) old → option_or (last_place next (entries_visited later) id) new ≡ option_or (last_place rank (entries_visited left) id) old
ranked_visited left later item rank next id old new first count ranks =
    ap₂ (λ (n : ℕ) (r : Option ℕ). option_or (last_place n (entries_visited later) id) r) count ranks
    ∙ (sym (or_all (last_place (rank + length (entry_visited item)) (entries_visited later) id) (last_place rank (entry_visited item) id) old)
    ∙ ap (λ p. option_or p old) (sym (ap (λ items. last_place rank (entries_visited items) id) first ∙ last_of_visited item rank (entries_visited later) id)))

-- Places.

-- a place behind so many others
abbrev behind : ℕ → Option ℕ → Option ℕ
behind before None = None
behind before (Some place) = Some (before + place)

-- an identifier that isn't there has no place
pub no_place : (entries : List Entry) (id : Id) → list_any (same_id id) (ids_of entries) ≡ false → place_among entries id ≡ None
no_place [] id h = refl
no_place (entry ∷ entries) id h =
    by_test (λ b. (b || list_any (same_id id) (ids_of entries)) ≡ false → cond b (Some 1) (option_map (λ place. suc place) (place_among entries id)) ≡ None) (same_id id entry.id)
    (λ on e. absurd (false≢true (sym e)))
    (λ off e. ap (option_map (λ place. suc place)) (no_place entries id e)) h

-- where none stands twice, the last place is the only one
only_place : (before : ℕ) (entries : List Entry) (id : Id) → AreDistinct same_id (ids_of entries) → last_place before entries id ≡ behind before (place_among entries id)
only_place before [] id h = refl
only_place before (entry ∷ entries) id h =
    ap (λ p. option_or p (cond (same_id id entry.id) (Some (suc before)) None)) (only_place (suc before) entries id h.1)
    ∙ by_test (λ b. option_or (behind (suc before) (place_among entries id)) (cond b (Some (suc before)) None)
    ≡ behind before (cond b (Some 1) (option_map (λ place. suc place) (place_among entries id)))) (same_id id entry.id)
    (λ on.
    let same : id ≡ entry.id = (same_id_decides id entry.id).0 on in
    let none : place_among entries id ≡ None = no_place entries id (ap (λ i. list_any (same_id i) (ids_of entries)) same ∙ h.0) in
    ap (λ p. option_or (behind (suc before) p) (Some (suc before))) none ∙ ap Some (let one : suc before ≡ before + 1 = omega arith in one))
    (λ off. or_none (behind (suc before) (place_among entries id)) ∙ moved (place_among entries id)) where
      moved : (p : Option ℕ) → behind (suc before) p ≡ behind before (option_map (λ place. suc place) p)
      moved None = refl
      moved (Some place) = ap Some (let one : suc before + place ≡ before + suc place = omega arith in one)

-- what the walk gives the characters are their ranks in the table
pub characters_of_table : (table : Collation) (characters : List ℕ) (items : List Visited) → IsWellFormed table → items ≡ visited table.sections
    → ((c : ℕ) → rank_of_char characters c ≡ last_place 0 (entries_visited items) (Char c)) → AreCharRanksOf characters table
characters_of_table table characters items well all ranks c =
    ranks c
    ∙ (ap (λ es. last_place 0 es (Char c)) (ap entries_visited all ∙ visited_all table.sections)
    ∙ (only_place 0 (entries_of table) (Char c) well.built.distinct_entries
    ∙ (at_first (place_among (entries_of table) (Char c)) ∙ sym (or_none (place_among (entries_of table) (Char c)))))) where
      at_first : (p : Option ℕ) → behind 0 p ≡ p
      at_first None = refl
      at_first (Some n) = ap Some (let same : 0 + n ≡ n = omega arith in same)

-- the places of names, the ranks of characters and that of UNDEFINED are the ranks of the table
pub ranks_of_table : (table : Collation) (ids : RanksById) → ((name : List ℕ) → place_named ids.names name ≡ place_among (entries_of table) (Named name)) → AreCharRanksOf ids.characters table
    → ids.undefined ≡ known_rank table Undefined → AreIdRanksOf ids table
ranks_of_table table ids names characters undefined (Char c) = characters c
ranks_of_table table ids names characters undefined (Named name) = names name ∙ sym (or_none (place_among (entries_of table) (Named name)))
ranks_of_table table ids names characters undefined Undefined = ap Some undefined ∙ known (place_among (entries_of table) Undefined) (suc (length (entries_of table))) where
  known : (place : Option ℕ) (last : ℕ) → Some (unwrap_or (option_or place (Some last)) 0) ≡ option_or place (Some last)
  known None last = refl
  known (Some n) last = refl

-- a table has few entries
pub few_visited : (table : Collation) (items : List Visited) → IsWellFormed table → items ≡ visited table.sections → length (entries_visited items) < 1_000_000
few_visited table items well all =
    let same : length (entries_visited items) ≡ length (entries_of table) = ap length (ap entries_visited all ∙ visited_all table.sections) in
    omega (arith, same, well.built.few_entries)

-- Weights.

-- the compiled weights of UNDEFINED and of all entries are those of the table
pub weights_of_table : (table ranked : Collation) (items : List Visited) (first all : List (List ℕ)) (levels : ℕ) → ranked ≡ table → items ≡ visited table.sections → levels ≡ length table.rules
    → first ≡ compiled_row_by (known_rank ranked) (length table.rules) Undefined (undefined_weights table) → all ≡ first ++ flat_map (compiled_entry (known_rank ranked) levels) (entries_visited items)
    → all ≡ compiled_weights table
weights_of_table table ranked items first all levels same visited_items counted begun whole =
    whole
    ∙ (ap₂ (λ (row : List (List ℕ)) (es : List Entry). row ++ flat_map (compiled_entry (known_rank ranked) levels) es) begun (ap entries_visited visited_items ∙ visited_all table.sections)
    ∙ ap₂ (λ (t : Collation) (n : ℕ). compiled_row_by (known_rank t) (length table.rules) Undefined (undefined_weights table) ++ flat_map (compiled_entry (known_rank t) n) (entries_of table)) same
    counted)
