-- A table that a statement results in is well formed.
use Rattle.std.proofs.Common.{◌≡◌, ◌≤◌, ℕ, true, false, ◌&&◌, ◌||◌, not, cond, if◌then◌else◌, IsTrue, List, [], ◌∷◌, ◌++◌, None, Ok, Err, length, map, All, sym, ap, ap₂, subst, ◌∙◌, refl, arith}
use Rattle.std.specs.Prelude.{is_none, nat_le}
use Rattle.std.specs.List.{flat_map}
use Rattle.std.proofs.lemmas.Bool.{leb-false, leb-true, or_right}
use Rattle.std.proofs.lemmas.List.{map-append, length-map}
use Rattle.std.proofs.lemmas.List.Elements.{All-nil, All-cons, All-head, All-tail, All-weaker}
use Rattle.coll_order.proofs.Sameness.{by_test}
use Rattle.coll_syntax.specs.Identifier.{same_id, same_name, has_id, has_name}
use Rattle.coll_syntax.specs.Proper.{IsId, IsProper, IsProperLine}
use Rattle.coll_syntax.specs.declared.identifiers.Id.{Id}
use Rattle.coll_syntax.specs.declared.rules.Rule.{Rule}
use Rattle.coll_syntax.specs.declared.statements.OrderLine.{OrderLine}
use Rattle.coll_syntax.specs.declared.statements.Statement.{Statement}
use Rattle.coll_syntax.specs.declared.statements.Statement.TheVariants as statement
use Rattle.coll_texts.proofs.BuiltTables.{built_declared, built_with}
use Rattle.coll_table.proofs.DeltaPlacing.{MayFollow, has_all_moved, all_moved_rules, all_moved_built, all_named, all_prefix, entry_names}
use Rattle.coll_table.proofs.DeltaRefusals.{unrefused, or_unrefused, weights_pass, placed_ids}
use Rattle.coll_table.proofs.DeltaSections.{section_moved_number, section_moved_entries, section_moved_names, section_moved_ids, section_moved_has, all_entries_moved, first_unmoved}
use Rattle.coll_nodes.proofs.EntryLemmas.{by_ids, to_ids}
use Rattle.coll_nodes.proofs.LayoutReads.{both_true}
use Rattle.coll_lookups.proofs.Sameness.{same_id_decides, same_id_itself}
use Rattle.coll_nodes.proofs.SectionLemmas.{names_stay, as_many, first_stays}
use Rattle.coll_texts.proofs.SoundLines.{passed, not_false, weights_are}
use Rattle.coll_table.specs.Delta.{own_delta, or_refused, declaration_delta, declaration_refusal, section_delta, section_refusal, block_delta, block_result, looked_up}
use Rattle.coll_table.specs.Delta.{all_moved, lines_refusal, ids_given, weight_ids_refusal, reweight_delta, reweight_refusal, reweighted, weights_refusal}
use Rattle.coll_nodes.specs.Table.{has_text}
use Rattle.coll_nodes.specs.Causes.{refused_if}
use Rattle.coll_nodes.specs.Entries.{ids_named, weight_ids, given_weights, entry_of}
use Rattle.coll_table.specs.Judging.{line_ids}
use Rattle.coll_nodes.specs.Limits.{most_entries, most_declarations, most_sections}
use Rattle.coll_nodes.specs.OwnNames.{means_nothing, means_no_symbol}
use Rattle.coll_nodes.specs.Placement.{with_entry, section_moved}
use Rattle.coll_texts.specs.SoundStates.{IsProperDeclaration}
use Rattle.coll_nodes.specs.Table.{Collation, Section, name_of, text_of, entries_of, ids_of, joined_entries, section_names, is_declared, is_known, is_placed, is_symbol}
use Rattle.coll_nodes.specs.WellFormed.{AreDistinct, IsKnown, IsWeighted, HasPlacedWeights, IsBuilt, IsWellFormed}
use Rattle.coll_nodes.specs.declared.declarations.Declaration.{Declaration}
use Rattle.coll_nodes.specs.declared.declarations.Declaration.TheVariants as declaration
use Rattle.coll_nodes.specs.declared.entries.Entry.{Entry}
use Rattle.coll_table.specs.declared.refusals.Refusal.TheVariants.{DeclaredTwice, NotDeclared, StringTwice, Full, TargetNotPlaced, NoSuchSection, SectionAfterItself, NotPlaced, NoWeights, NotASymbol}

-- Declarations.

-- a declaration that isn't refused leaves the table well formed
declared_well_formed : (table after : Collation) (new : Declaration) → IsWellFormed table → IsProperDeclaration new → declaration_delta table new ≡ Ok after → IsWellFormed after
declared_well_formed table after new well proper e =
    let with_new : Collation = record table { declared = table.declared ++ new ∷ [] } in
    let h = unrefused (declaration_refusal table new) with_new after e in
    let full = refused_if (nat_le most_declarations (length table.declared)) Full None in
    let texts = refused_if (has_text table.declared (text_of new)) StringTwice full in
    let symbols = refused_if (means_no_symbol table.declared new) NotASymbol texts in
    let absent = passed (is_declared table.declared (name_of new)) DeclaredTwice (refused_if (means_nothing table.declared new) NotDeclared symbols) h.0 in
    let some = passed (means_nothing table.declared new) NotDeclared symbols absent.1 in
    let means = passed (means_no_symbol table.declared new) NotASymbol texts some.1 in
    let no_text = passed (has_text table.declared (text_of new)) StringTwice full means.1 in
    let room = passed (nat_le most_declarations (length table.declared)) Full None no_text.1 in
    subst IsWellFormed h.1 (record {
      built = built_declared table new well.built proper absent.0 means.0 no_text.0 (leb-false most_declarations (length table.declared) room.0);
      some_levels = well.some_levels;
      weights_placed = well.weights_placed;
    })

-- Sections.

-- a section that is moved leaves the table well formed
section_well_formed : (table after : Collation) (name behind : List ℕ) → IsWellFormed table → section_delta table name behind ≡ Ok after → IsWellFormed after
section_well_formed table after name behind well e =
    let sections = section_moved table.sections name behind in
    let turned : Collation = record table { sections = sections } in
    let h = unrefused (section_refusal table name behind) turned after e in
    let itself = refused_if (same_name name behind) SectionAfterItself None in
    let known = passed (not (has_name (section_names table.sections) name && has_name (section_names table.sections) behind)) NoSuchSection itself h.0 in
    let there = (both_true (has_name (section_names table.sections) name) (has_name (section_names table.sections) behind) (not_false _ known.0)).1 in
    let apart = (passed (same_name name behind) SectionAfterItself None known.1).0 in
    let built = well.built in
    let once = built.distinct_sections in
    let ids : (P : Id → Type 0) → All P (ids_of (entries_of table)) → All P (ids_of (joined_entries sections)) =
    λ P all. to_ids P (joined_entries sections) (all_entries_moved (λ (entry : Entry). P entry.id) table.sections name behind (by_ids P (entries_of table) all)) in
    subst IsWellFormed h.1 (record {
      built = built_with table sections built (record {
        first_unnamed = first_unmoved table.sections name behind built.first_unnamed;
        ids = ids IsId built.ids;
        distinct_sections = section_moved_names table.sections name behind once there apart;
        distinct_entries = section_moved_ids table.sections name behind once there apart built.distinct_entries;
        known = ids (IsKnown table.declared) built.known;
        weighted = all_entries_moved (IsWeighted (length table.rules) table.declared) table.sections name behind built.weighted;
        few_entries = subst (λ n. n ≤ most_entries) (sym (section_moved_entries table.sections name behind once there apart)) built.few_entries;
        few_sections = subst (λ n. n ≤ most_sections) (sym (section_moved_number table.sections name behind once there apart)) built.few_sections;
      });
      some_levels = well.some_levels;
      weights_placed = all_entries_moved (HasPlacedWeights turned) table.sections name behind
          (All-weaker (HasPlacedWeights table) (HasPlacedWeights turned) (λ entry all. All-weaker (λ id. IsTrue (is_placed table id)) (λ id. IsTrue (is_placed turned id))
          (λ id here. section_moved_has table.sections name behind once there apart id here) (ids_named entry) all) (entries_of table) well.weights_placed);
    })

-- Blocks.

-- a table in which weights are looked up is the one that results
looked_up_is : (table after : Collation) (lines : List OrderLine) → looked_up table lines ≡ Ok after → (All (λ id. IsTrue (is_placed table id)) (ids_given lines)) × (table ≡ after)
looked_up_is table after lines e =
    let h = unrefused (weight_ids_refusal table (ids_given lines)) table after e in
    (placed_ids table (ids_given lines) h.0, h.1)

-- a table that a block results in has room for its entries
room_is : (table after : Collation) (lines : List OrderLine) → block_result table lines ≡ Ok after → (length (entries_of table) ≤ most_entries) × (looked_up table lines ≡ Ok after)
room_is table after lines e =
    by_test (λ b. nat_le (length (entries_of table)) most_entries ≡ b → cond b (looked_up table lines) (Err Full) ≡ Ok after → (length (entries_of table) ≤ most_entries)
    × (looked_up table lines ≡ Ok after)) (nat_le (length (entries_of table)) most_entries)
    (λ _ on is. (leb-true (length (entries_of table)) most_entries on, is))
    (λ _ _ is. cc) refl e

-- a block that isn't refused places its lines after a target that is placed
record BlockPasses (table : Collation) (target : Id) (lines : List OrderLine) (after : Collation) : Type 0 where
  there : is_placed table target ≡ true
  judged : lines_refusal table (target ∷ []) lines ≡ None
  result : block_result (all_moved table target lines) lines ≡ Ok after

block_passes : (table after : Collation) (target : Id) (lines : List OrderLine) → block_delta table target lines ≡ Ok after → BlockPasses table target lines after
block_passes table after target lines e =
    by_test (λ b. is_placed table target ≡ b → cond (not b) (Err TargetNotPlaced) (or_refused (lines_refusal table (target ∷ []) lines) (block_result (all_moved table target lines) lines)) ≡ Ok after
    → BlockPasses table target lines after) (is_placed table target)
    (λ _ there is. let h = or_unrefused (lines_refusal table (target ∷ []) lines) (block_result (all_moved table target lines) lines) after is in record { there = there; judged = h.0; result = h.1 })
    (λ _ _ is. cc) refl e

-- where the lines of a block may be placed
pub may_follow : (table : Collation) (target : Id) (lines : List OrderLine) → IsBuilt table → is_placed table target ≡ true → lines_refusal table (target ∷ []) lines ≡ None
    → MayFollow table target (target ∷ []) lines
may_follow table target lines built there judged = record {
  distinct = built.distinct_entries;
  there = there;
  last = ap (λ b. b || false) (same_id_itself target);
  judged = judged;
}

-- a block leaves the table well formed
block_well_formed : (table after : Collation) (target : Id) (lines : List OrderLine) → IsWellFormed table → All IsProperLine lines → block_delta table target lines ≡ Ok after → IsWellFormed after
block_well_formed table after target lines well proper e =
    let h = block_passes table after target lines e in
    let result = all_moved table target lines in
    let room = room_is result after lines h.result in
    let looked = looked_up_is result after lines room.1 in
    let follow = may_follow table target lines well.built h.there h.judged in
    let P : Id → Type 0 = λ id. IsTrue (is_placed result id) in
    let stays : (id : Id) → IsTrue (is_placed table id) → P id =
    λ id here. has_all_moved table target (target ∷ []) lines follow id ∙ or_right (has_id (line_ids lines) id) (is_placed table id) here in
    subst IsWellFormed looked.1 (record {
      built = all_moved_built table target (target ∷ []) lines follow well.built proper room.0;
      some_levels = subst (λ (rules : List Rule). 1 ≤ length rules) (sym (all_moved_rules table target lines)) well.some_levels;
      weights_placed = all_named P table target (target ∷ []) lines follow
          (All-weaker (HasPlacedWeights table) (λ (entry : Entry). All P (ids_named entry)) (λ entry all. All-weaker (λ id. IsTrue (is_placed table id)) P stays (ids_named entry) all)
          (entries_of table) well.weights_placed)
          looked.0;
    })

-- Order lines outside a block.

-- an entry, or the one in its place
abbrev in_place : Entry → Entry → Entry
in_place entry old = if same_id entry.id old.id then entry else old

-- the entries with one replaced, section by section, or all joined
replaced_entries : (sections : List Section) (entry : Entry) → joined_entries (with_entry sections entry) ≡ map (in_place entry) (joined_entries sections)
replaced_entries [] entry = refl
replaced_entries (section ∷ sections) entry =
    ap (λ es. map (in_place entry) section.entries ++ es) (replaced_entries sections entry) ∙ sym (map-append (in_place entry) section.entries (joined_entries sections))

-- the identifiers stay
replaced_ids : (entries : List Entry) (entry : Entry) → ids_of (map (in_place entry) entries) ≡ ids_of entries
replaced_ids [] entry = refl
replaced_ids (old ∷ entries) entry = ap₂ (λ (id : Id) ids. id ∷ ids) (same old) (replaced_ids entries entry) where
  same : (old : Entry) → (in_place entry old).id ≡ old.id
  same old = by_test (λ b. same_id entry.id old.id ≡ b → (cond b entry old).id ≡ old.id) (same_id entry.id old.id) (λ _ on. (same_id_decides entry.id old.id).0 on) (λ _ _. refl) refl

-- what holds of each entry, and of the one that replaces, holds of each
replaced_all : (P : Entry → Type 0) (entries : List Entry) (entry : Entry) → All P entries → P entry → All P (map (in_place entry) entries)
replaced_all P [] entry h p = All-nil P
replaced_all P (old ∷ entries) entry h p = All-cons P (in_place entry old) (map (in_place entry) entries)
    (by_test (λ b. P (cond b entry old)) (same_id entry.id old.id) (λ _. p) (λ _. All-head P old entries h)) (replaced_all P entries entry (All-tail P old entries h) p)

-- so what is placed stays
pub reweighted_ids : (table : Collation) (line : OrderLine) → ids_of (entries_of (reweighted table line)) ≡ ids_of (entries_of table)
reweighted_ids table line =
    let entry = entry_of (length table.rules) table.declared line in
    ap ids_of (replaced_entries table.sections entry) ∙ replaced_ids (entries_of table) entry

-- other weights leave the table well formed
reweight_well_formed : (table after : Collation) (line : OrderLine) → IsWellFormed table → IsProperLine line → reweight_delta table line ≡ Ok after → IsWellFormed after
reweight_well_formed table after line well proper e =
    let new = reweighted table line in
    let h = or_unrefused (reweight_refusal table line) (looked_up new (line ∷ [])) after e in
    let looked = looked_up_is new after (line ∷ []) h.1 in
    let weights = weights_refusal table line None in
    let given = refused_if (is_none line.weights) NoWeights weights in
    let placed = refused_if (not (is_placed table line.id)) NotPlaced given in
    let known = passed (not (is_known table.declared line.id)) NotDeclared placed h.0 in
    let there = passed (not (is_placed table line.id)) NotPlaced given known.1 in
    let some = passed (is_none line.weights) NoWeights weights there.1 in
    let few = weights_pass table line some.1 in
    let entry = entry_of (length table.rules) table.declared line in
    let built = well.built in
    let joined = replaced_entries table.sections entry in
    let same = reweighted_ids table line in
    let change = map (in_place entry) in
    let weighs : IsWeighted (length table.rules) table.declared entry = weights_are (length table.rules) (is_symbol table.declared line.id) line proper few in
    let P : Id → Type 0 = λ id. IsTrue (is_placed new id) in
    let stays : (id : Id) → IsTrue (is_placed table id) → P id = λ id here. ap (λ ids. has_id ids id) same ∙ here in
    let Q : Entry → Type 0 = λ (old : Entry). All P (ids_named old) in
    subst IsWellFormed looked.1 (record {
      built = built_with table new.sections built (record {
        first_unnamed = first_stays change table.sections built.first_unnamed;
        ids = subst (All IsId) (sym same) built.ids;
        distinct_sections = subst (AreDistinct same_name) (sym (names_stay change table.sections)) built.distinct_sections;
        distinct_entries = subst (AreDistinct same_id) (sym same) built.distinct_entries;
        known = subst (All (IsKnown table.declared)) (sym same) built.known;
        weighted = subst (All (IsWeighted (length table.rules) table.declared)) (sym joined)
            (replaced_all (IsWeighted (length table.rules) table.declared) (entries_of table) entry built.weighted weighs);
        few_entries = let n = ap (λ (es : List Entry). length es) joined in let m = length-map (entries_of table) (in_place entry) in let f = built.few_entries in omega arith;
        few_sections = let n = as_many change table.sections in let f = built.few_sections in omega arith;
      });
      some_levels = well.some_levels;
      weights_placed = subst (All Q) (sym joined) (replaced_all Q (entries_of table) entry
          (All-weaker (HasPlacedWeights table) Q (λ old all. All-weaker (λ id. IsTrue (is_placed table id)) P stays (ids_named old) all) (entries_of table) well.weights_placed)
          (entry_names P (length table.rules) (is_symbol table.declared line.id) line (all_prefix P (flat_map weight_ids (given_weights line.weights)) [] looked.0)));
    })

-- a table that a proper statement results in is well formed
pub own_delta_well_formed : (table after : Collation) (s : Statement) → IsWellFormed table → IsProper s → own_delta table s ≡ Ok after → IsWellFormed after
unfolding own_delta
own_delta_well_formed table after (statement.Symbol name) well proper e = declared_well_formed table after (declaration.Symbol name) well proper e
own_delta_well_formed table after (statement.Element name text) well proper e = declared_well_formed table after (declaration.Element name text) well proper e
own_delta_well_formed table after (statement.Equivalence name symbol) well proper e = declared_well_formed table after (declaration.Equivalence name symbol) well proper.0 e
own_delta_well_formed table after (statement.Block target lines) well proper e = block_well_formed table after target lines well proper.2 e
own_delta_well_formed table after (statement.SectionAfter name behind) well proper e = section_well_formed table after name behind well e
own_delta_well_formed table after (statement.Reweight line) well proper e = reweight_well_formed table after line well proper e
