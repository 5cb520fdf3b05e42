-- Ranks of the entries of a table, found and used on one walk.
use Rattle.std.proofs.Common.{◌≡◌, ℕ, zero, suc, ◌+◌, cond, List, [], ◌∷◌, ◌++◌, length, drop, Some, None, sym, ap, ap₂, ◌∙◌, arith, append_assoc}
use Rattle.std.specs.List.{flat_map}
use Rattle.std.specs.Option.{option_or, option_map, unwrap_or}
use Rattle.std.proofs.lemmas.Grind.{flat_map-append}
use Rattle.coll_syntax.specs.Identifier.{same_id}
use Rattle.coll_syntax.specs.declared.identifiers.Id.{Id}
use Rattle.coll_syntax.specs.declared.weights.Weight.{Weight}
use Rattle.coll_nodes.specs.Placement.{place_among}
use Rattle.coll_nodes.specs.Table.{Collation, entries_of, ids_of}
use Rattle.coll_nodes.specs.Walks.{Visited, VisitedSection, VisitedEntry, entry_visited, entries_visited}
use Rattle.coll_nodes.specs.WellFormed.{AreDistinct}
use Rattle.coll_nodes.specs.declared.entries.Entry.{Entry}
use Rattle.coll_lookups.proofs.Sameness.{same_id_decides, same_id_itself}
use Rattle.coll_elements.specs.Rank.{rank_unplaced, known_rank}
use Rattle.coll_ranks.specs.RankLists.{WeightsValue, AddsRow}
use Rattle.coll_ranks.specs.Ranking.{HasNextRank}
use Rattle.coll_ranks.specs.Ranks.{compiled_row_by, compiled_entry}
use Rattle.coll_ranks.proofs.RankingLemmas.{no_place}
use Rattle.coll_elements.proofs.Tests.{by_test}

-- Places.

-- what is left behind the first that is left
left_later : (entries later : List Entry) (rank : ℕ) (entry : Entry) → entry ∷ later ≡ drop rank entries → later ≡ drop (suc rank) entries
left_later [] later zero entry e = absurd (cc)
left_later [] later (suc rank) entry e = absurd (cc)
left_later (first ∷ entries) later zero entry e = let h = e in cc
left_later (first ∷ entries) later (suc rank) entry e = left_later entries later rank entry e

-- the first that is left has its place behind the others, where none stands twice
place_of_first : (entries later : List Entry) (rank : ℕ) (entry : Entry) → AreDistinct same_id (ids_of entries) → entry ∷ later ≡ drop rank entries → place_among entries entry.id ≡ Some (suc rank)
place_of_first [] later zero entry h e = absurd (cc)
place_of_first [] later (suc rank) entry h e = absurd (cc)
place_of_first (first ∷ entries) later zero entry h e =
    let is : entry ≡ first = (let f = e in cc) in
    ap (λ b. cond b (Some 1) (option_map (λ place. suc place) (place_among entries entry.id))) (ap (λ (x : Entry). same_id entry.id x.id) (sym is) ∙ same_id_itself entry.id)
place_of_first (first ∷ entries) later (suc rank) entry h e =
    let there : place_among entries entry.id ≡ Some (suc rank) = place_of_first entries later rank entry h.1 e in
    by_test (λ b. cond b (Some 1) (option_map (λ place. suc place) (place_among entries entry.id)) ≡ Some (suc (suc rank))) (same_id entry.id first.id)
    (λ on.
    let same : entry.id ≡ first.id = (same_id_decides entry.id first.id).0 on in
    let none : place_among entries entry.id ≡ None = ap (place_among entries) same ∙ no_place entries first.id h.0 in
    absurd (let f = sym there ∙ none in cc))
    (λ off. ap (option_map (λ place. suc place)) there)

-- what a walk visits next has the next rank
pub next_ranked : (table : Collation) (rank : ℕ) (left later : List Visited) (item : Visited) → AreDistinct same_id (ids_of (entries_of table)) → left ≡ item ∷ later
    → entries_visited left ≡ drop rank (entries_of table) → HasNextRank table rank item
next_ranked table rank left later (VisitedSection name) distinct first place = tt
next_ranked table rank left later (VisitedEntry entry) distinct first place =
    let next : entry ∷ entries_visited later ≡ drop rank (entries_of table) = sym (ap entries_visited first) ∙ place in
    ap (λ p. unwrap_or (option_or p (rank_unplaced (length (entries_of table)) entry.id)) 0) (place_of_first (entries_of table) (entries_visited later) rank entry distinct next)
    ∙ (let one : suc rank ≡ rank + 1 = omega arith in one)

-- and behind it what is left has its places
pub left_behind : (table : Collation) (rank next : ℕ) (left later : List Visited) (item : Visited) → left ≡ item ∷ later → next ≡ rank + length (entry_visited item)
    → entries_visited left ≡ drop rank (entries_of table) → entries_visited later ≡ drop next (entries_of table)
left_behind table rank next left later (VisitedSection name) first count place =
    let same : rank ≡ next = omega (arith, count) in
    sym (ap entries_visited first) ∙ (place ∙ ap (λ n. drop n (entries_of table)) same)
left_behind table rank next left later (VisitedEntry entry) first count place =
    let more : suc rank ≡ next = omega (arith, count) in
    left_later (entries_of table) (entries_visited later) rank entry (sym (ap entries_visited first) ∙ place) ∙ ap (λ n. drop n (entries_of table)) more

-- Rows.

-- what is put in, and what is left of a row
pub row_more : (ranks now : Collation) (levels fewer : ℕ) (owner : Id) (weights later : List Weight) (old new whole : List (List ℕ)) → now ≡ ranks → levels ≡ suc fewer
    → new ++ compiled_row_by (known_rank now) fewer owner later ≡ old ++ compiled_row_by (known_rank now) (suc fewer) owner weights → old ++ compiled_row_by (known_rank ranks) levels owner weights
    ≡ whole → new ++ compiled_row_by (known_rank ranks) fewer owner later ≡ whole
row_more ranks now levels fewer owner weights later old new whole same one put is =
    ap (λ (t : Collation). new ++ compiled_row_by (known_rank t) fewer owner later) (sym same)
    ∙ (put
    ∙ (ap₂ (λ (t : Collation) (n : ℕ). old ++ compiled_row_by (known_rank t) n owner weights) same (sym one) ∙ is))

-- what is put in, and what is left of all rows
pub rows_more : (ranks now : Collation) (levels : ℕ) (left later : List Visited) (item : Visited) (old new : WeightsValue) (whole : List (List ℕ)) → now ≡ ranks → old.levels ≡ levels
    → left ≡ item ∷ later → AddsRow old new (flat_map (compiled_entry (known_rank now) old.levels) (entry_visited item)) → old.lists ++ flat_map (compiled_entry (known_rank ranks) levels)
    (entries_visited left) ≡ whole → new.lists ++ flat_map (compiled_entry (known_rank ranks) levels) (entries_visited later) ≡ whole
rows_more ranks now levels left later item old new whole same counted first put is =
    ap (λ ls. ls ++ flat_map (compiled_entry (known_rank ranks) levels) (entries_visited later)) put.lists_are
    ∙ (ap₂ (λ (t : Collation) (n : ℕ). (old.lists ++ flat_map (compiled_entry (known_rank t) n) (entry_visited item)) ++ flat_map (compiled_entry (known_rank ranks) levels) (entries_visited later))
    same counted
    ∙ (append_assoc old.lists (flat_map (compiled_entry (known_rank ranks) levels) (entry_visited item)) (flat_map (compiled_entry (known_rank ranks) levels) (entries_visited later))
    ∙ (ap (λ ls. old.lists ++ ls) (sym (flat_map-append (compiled_entry (known_rank ranks) levels) (entry_visited item) (entries_visited later)))
    ∙ (ap (λ items. old.lists ++ flat_map (compiled_entry (known_rank ranks) levels) (entries_visited items)) (sym first) ∙ is))))
