-- The lines of a table, accepted one after another, say the table.
use Rattle.std.proofs.Common.{◌≡◌, ℕ, suc, ◌+◌, ◌-◌, ◌≤◌, Bool, true, false, not, if◌then◌else◌, IsTrue, List, [], ◌∷◌, ◌++◌, length, map}
use Rattle.std.proofs.Common.{replicate, Option, Some, None, sym, ap, subst, ◌∙◌, refl, arith, length-append, append_assoc, append-nil}
use Rattle.std.specs.Prelude.{◌&&◌, All, nat_le, nat_lt, is_some}
use Rattle.std.specs.List.{flat_map, list_any, list_all}
use Rattle.std.specs.Option.{option_or}
use Rattle.std.proofs.lemmas.Bool.{not-false, lt-leb, le-ltb}
use Rattle.std.proofs.lemmas.List.{map-append, length-map}
use Rattle.std.proofs.lemmas.Grind.{flat_map-append}
use Rattle.std.proofs.lemmas.List.Folds.{list_any-append}
use Rattle.std.proofs.lemmas.List.Elements.{All-nil, All-cons, All-head, All-tail}
use Rattle.coll_lex.specs.Names.{IsName}
use Rattle.coll_syntax.specs.Identifier.{same_name, same_id, has_name}
use Rattle.coll_syntax.specs.declared.identifiers.Id.{Id}
use Rattle.coll_syntax.specs.declared.identifiers.Id.TheVariants.{Char, Named, Undefined}
use Rattle.coll_syntax.specs.declared.rules.Rule.{Rule}
use Rattle.coll_syntax.specs.declared.weights.Weight.{Weight}
use Rattle.coll_syntax.specs.declared.weights.Weight.TheVariants.{Ignore, Own, Names}
use Rattle.coll_syntax.specs.declared.lines.TableLine.{TableLine}
use Rattle.coll_syntax.specs.declared.lines.TableLine.TheVariants as line
use Rattle.coll_nodes.specs.declared.declarations.Declaration.{Declaration}
use Rattle.coll_nodes.specs.declared.declarations.Declaration.TheVariants as declaration
use Rattle.coll_nodes.specs.declared.entries.Entry.{Entry}
use Rattle.coll_nodes.specs.Table.{Collation, Section, name_of, text_of, names_of, texts_of, joined_entries, ids_of, named}
use Rattle.coll_nodes.specs.Table.{section_names, is_placed_in, is_placed, is_declared, is_known, is_symbol, is_symbol_name}
use Rattle.coll_nodes.specs.OwnNames.{named_own, means_no_symbol, MeanSymbols}
use Rattle.coll_nodes.specs.Entries.{names_only, kept_weight, kept_weights, given_weights, weights_of, entry_of, ids_named}
use Rattle.coll_nodes.specs.WellFormed.{AreDistinct, IsNamed, FirstIsUnnamed, IsKeptWeight, HasWeights, IsWeighted, IsKnown, HasPlacedWeights, IsWellFormed}
use Rattle.coll_nodes.specs.Limits.{most_entries, most_declarations, most_sections}
use Rattle.coll_nodes.specs.Table.{has_text}
use Rattle.coll_nodes.specs.Causes.{refused_if}
use Rattle.coll_texts.specs.BuilderStates.{BuilderState, state_of, table_of, own_order, with_own_weights, meaning_cause, declaration_cause, rules_differ}
use Rattle.coll_texts.specs.BuilderStates.{section_cause, order_cause, cause_after, weight_cause, ids_cause, entries_fault, weights_fault, line_fault, is_end}
use Rattle.coll_texts.specs.declared.load_faults.LoadCause.{LoadCause}
use Rattle.coll_texts.specs.Loading.{with_last, with_section, state_with}
use Rattle.coll_nodes.specs.Walks.{Visited, VisitedSection, VisitedEntry, visited_name, visited_in, visited, entry_visited}
use Rattle.coll_syntax.specs.Weights.{is_own}
use Rattle.coll_lookups.proofs.Sameness.{neither, same_id_decides, same_name_symmetric, same_id_symmetric, same_id_itself, found_holds}
use Rattle.coll_nodes.proofs.DistinctLists.{distinct_before}
use Rattle.coll_nodes.proofs.OwnNames.{symbol_own, named_own_same, own_id_known, own_table, meant_before, means_something}
use Rattle.coll_texts.proofs.BuiltTables.{entries_with_section, names_with_section, unnamed_with_section, entries_with_last, names_with_last, length_with_last, unnamed_with_last}
use Rattle.coll_texts.proofs.RuleLists.{differ_unless_same}
use Rattle.coll_texts.proofs.VisitedEntries.{visited_all}
use Rattle.coll_texts.proofs.PrintedTokens.{own_read, weight_read, order_read, declaration_read}

-- Lines that are accepted.

-- these lines are accepted one after another, numbered from here on, and what is said then is so
unfoldable pub Leads : BuilderState → ℕ → List TableLine → (BuilderState → Type 0) → Type 0
Leads d number [] Last = Last d
Leads d number (l ∷ ls) Last = (line_fault d (record { number = number; line = l }) ≡ None) × (is_end l ≡ false) × Leads (state_with d number l) (suc number) ls Last

-- a line without a cause, that doesn't end the category, has no fault
faultless : (d : BuilderState) (number : ℕ) (l : TableLine) → is_end l ≡ false → cause_after d l ≡ None → line_fault d (record { number = number; line = l }) ≡ None
unfolding line_fault
faultless d number (line.Symbol name) e h = rw h refl
faultless d number (line.Element name text) e h = rw h refl
faultless d number (line.Equivalence name symbol) e h = rw h refl
faultless d number (line.OrderStart section rules) e h = rw h refl
faultless d number line.OrderEnd e h = rw h refl
faultless d number (line.Section name) e h = rw h refl
faultless d number line.Script e h = refl
faultless d number line.EndCategory e h = cc
faultless d number (line.Order order) e h = rw h refl

-- a test that fails refuses nothing
passes : (test : Bool) (cause : LoadCause) (later : Option LoadCause) → test ≡ false → later ≡ None → refused_if test cause later ≡ None
passes true cause later t h = cc
passes false cause later t h = h

-- and where nothing is refused first, what follows decides
goes_by : (first later : Option LoadCause) → first ≡ None → later ≡ None → option_or first later ≡ None
goes_by None later f h = h
goes_by (Some cause) later f h = cc

-- The declarations.

-- what is said where only this is declared
pub declared_state : List Declaration → BuilderState
declared_state done = record { order_open = false; rules = None; declared = done; sections = record { name = None; entries = [] } ∷ []; numbers = [] }

-- no string of a declaration stands before it
apart_texts : (texts later : List (List ℕ)) (new : Declaration) → AreDistinct same_name (texts ++ (text_of new ++ later)) → list_any (has_name texts) (text_of new) ≡ false
apart_texts texts later (declaration.Symbol name) d = refl
apart_texts texts later (declaration.Equivalence name symbol) d = refl
apart_texts texts later (declaration.Element name text) d = rw (distinct_before same_name same_name_symmetric texts text later d) refl

-- a declaration is accepted where those before it and it are apart, and it means a symbol, if it is a second name
declaration_passes : (declared : List Declaration) (new : Declaration) (later : List Declaration) → AreDistinct same_name (names_of (declared ++ new ∷ later))
    → AreDistinct same_name (texts_of (declared ++ new ∷ later)) → means_no_symbol declared new ≡ false → length (declared ++ new ∷ later) ≤ most_declarations → declaration_cause declared new ≡ None
declaration_passes declared new later names texts means few =
    let own : is_declared declared (name_of new) ≡ false =
    distinct_before same_name same_name_symmetric (names_of declared) (name_of new) (names_of later) (subst (AreDistinct same_name) (map-append name_of declared (new ∷ later)) names) in
    let text : has_text declared (text_of new) ≡ false = apart_texts (texts_of declared) (texts_of later) new (subst (AreDistinct same_name) (flat_map-append text_of declared (new ∷ later)) texts) in
    let room : nat_le most_declarations (length declared) ≡ false = lt-leb most_declarations (length declared) (omega (arith, length-append declared (new ∷ later))) in
    let meaning : meaning_cause declared new ≡ None = passes _ _ _ (means_something declared new means) (passes _ _ _ means refl) in
    passes _ _ _ own (goes_by _ _ meaning (passes _ _ _ text (passes _ _ _ room refl)))

-- what stands apart stands apart at its front
distinct_prefix : {X : Type 0} (same : X → X → Bool) (xs ys : List X) → AreDistinct same (xs ++ ys) → AreDistinct same xs
distinct_prefix same [] ys h = tt
distinct_prefix same (x ∷ xs) ys h = ((neither _ _ (sym (list_any-append (same x) xs ys) ∙ h.0)).0, distinct_prefix same xs ys h.1)

-- the symbol of a second name that means one stands for itself
symbol_stays : (done : List Declaration) (name symbol : List ℕ) (later : List Declaration) → AreDistinct same_name (names_of (done ++ declaration.Equivalence name symbol ∷ later))
    → means_no_symbol done (declaration.Equivalence name symbol) ≡ false → named_own done symbol ≡ symbol
symbol_stays done name symbol later names means =
    let apart = distinct_prefix same_name (names_of done) (name ∷ names_of later) (subst (AreDistinct same_name) (map-append name_of done (declaration.Equivalence name symbol ∷ later)) names) in
    named_own_same done symbol apart (symbol_own done symbol (not-false (is_symbol_name done symbol) means))

-- a declaration, accepted behind others
declaration_leads : (done : List Declaration) (new : Declaration) (later : List Declaration) (number : ℕ) (ls : List TableLine) (Last : BuilderState → Type 0)
    → AreDistinct same_name (names_of (done ++ new ∷ later)) → means_no_symbol done new ≡ false → declaration_cause done new ≡ None
    → Leads (declared_state (done ++ new ∷ [])) (suc number) ls Last → Leads (declared_state done) number (declaration_read new ∷ ls) Last
unfolding Leads declared_state declaration_read state_with
declaration_leads done (declaration.Symbol name) later number ls Last names means e more = (faultless (declared_state done) number (line.Symbol name) refl e, refl, more)
declaration_leads done (declaration.Element name text) later number ls Last names means e more = (faultless (declared_state done) number (line.Element name text) refl e, refl, more)
declaration_leads done (declaration.Equivalence name symbol) later number ls Last names means e more =
    let same : symbol ≡ named_own done symbol = sym (symbol_stays done name symbol later names means) in (
      faultless (declared_state done) number (line.Equivalence name symbol) refl (subst (λ own. declaration_cause done (declaration.Equivalence name own) ≡ None) same e),
      refl,
      subst (λ own. Leads (declared_state (done ++ declaration.Equivalence name own ∷ [])) (suc number) ls Last) same more,
    )

-- all declarations, accepted one after another
declarations_lead : (done later : List Declaration) (number : ℕ) (rest : List TableLine) (Last : BuilderState → Type 0)
    → AreDistinct same_name (names_of (done ++ later)) → AreDistinct same_name (texts_of (done ++ later)) → MeanSymbols (done ++ later) → length (done ++ later) ≤ most_declarations
    → ((number : ℕ) → Leads (declared_state (done ++ later)) number rest Last)
    → Leads (declared_state done) number (map declaration_read later ++ rest) Last
declarations_lead done [] number rest Last names texts meant few goes_on = subst (λ ds. Leads (declared_state ds) number rest Last) (append-nil done) (goes_on number)
declarations_lead done (new ∷ later) number rest Last names texts meant few goes_on =
    let all : (done ++ new ∷ []) ++ later ≡ done ++ new ∷ later = append_assoc done (new ∷ []) later in
    let means : means_no_symbol done new ≡ false = meant_before done new later meant in
    let more = declarations_lead (done ++ new ∷ []) later (suc number) rest Last
    (subst (λ ds. AreDistinct same_name (names_of ds)) (sym all) names) (subst (λ ds. AreDistinct same_name (texts_of ds)) (sym all) texts) (subst MeanSymbols (sym all) meant)
    (subst (λ (ds : List Declaration). length ds ≤ most_declarations) (sym all) few) (subst (λ ds. (number : ℕ) → Leads (declared_state ds) number rest Last) (sym all) goes_on) in
    declaration_leads done new later number (map declaration_read later ++ rest) Last names means (declaration_passes done new later names texts means few) more

-- The order lines.

-- weights that are all an entry's own
all_own : (ws : List Weight) → list_all is_own ws ≡ true → ws ≡ replicate (length ws) Own
all_own [] h = refl
all_own (Ignore ∷ ws) h = cc
all_own (Own ∷ ws) h = ap (λ l. Own ∷ l) (all_own ws h)
all_own (Names ids ∷ ws) h = cc

-- a weight that is read is kept as it was
kept_as_it_was : (id : Id) (w : Weight) → names_only id w ≡ false → kept_weight id (weight_read id w) ≡ w
unfolding weight_read own_read
kept_as_it_was id Ignore h = refl
kept_as_it_was (Char c) Own h = rw (same_id_itself (Char c)) refl
kept_as_it_was (Named name) Own h = rw (same_id_itself (Named name)) refl
kept_as_it_was Undefined Own h = refl
kept_as_it_was id (Names ids) h = rw h refl

all_as_they_were : (id : Id) (ws : List Weight) → All (IsKeptWeight id) ws → map (kept_weight id) (map (weight_read id) ws) ≡ ws
all_as_they_were id [] h = refl
all_as_they_were id (w ∷ ws) h = rw (kept_as_it_was id w (All-head (IsKeptWeight id) w ws h).1, all_as_they_were id ws (All-tail (IsKeptWeight id) w ws h)) refl

-- the weights of a line that is read are those of the entry
weights_as_they_were : (levels : ℕ) (id : Id) (ws : List Weight) (own : Bool) → list_all is_own ws ≡ own → length ws ≡ levels → All (IsKeptWeight id) ws
    → kept_weights levels id (given_weights (if own then None else Some (map (weight_read id) ws))) ≡ ws
weights_as_they_were levels id ws true e count h =
    let none : levels - 0 ≡ length ws = omega (arith, count) in
    ap (λ n. replicate n Own) none ∙ sym (all_own ws e)
weights_as_they_were levels id ws false e count h =
    let none : levels - length (map (weight_read id) ws) ≡ 0 = omega (arith, count, length-map ws (weight_read id)) in
    ap (λ n. map (kept_weight id) (map (weight_read id) ws) ++ replicate n Own) none ∙ append-nil (map (kept_weight id) (map (weight_read id) ws)) ∙ all_as_they_were id ws h

-- the entry of a line that is read is the entry
entry_as_it_was : (levels : ℕ) (declared : List Declaration) (e : Entry) → IsWeighted levels declared e → entry_of levels declared (order_read e.id e.weights) ≡ e
unfolding order_read
entry_as_it_was levels declared e h = by_kind (is_symbol declared e.id) h where
  by_kind : (symbol : Bool) → HasWeights levels symbol e → record { id = e.id; weights = weights_of levels symbol (order_read e.id e.weights) } ≡ e
  by_kind true h = ap (λ (ws : List Weight). record { id = e.id; weights = ws }) (sym h)
  by_kind false h = ap (λ (ws : List Weight). record { id = e.id; weights = ws }) (weights_as_they_were levels e.id e.weights (list_all is_own e.weights) refl h.0 h.1)

-- an entry's line has weights only where the entry isn't a collating symbol, and at most one for each level
weights_of_symbol : (id : Id) (ws : List Weight) → ws ≡ [] → is_some (order_read id ws).weights ≡ false
unfolding order_read
weights_of_symbol id ws e = rw e refl

symbol_passes : (levels : ℕ) (symbol : Bool) (e : Entry) → HasWeights levels symbol e → (symbol && is_some (order_read e.id e.weights).weights) ≡ false
symbol_passes levels true e h = weights_of_symbol e.id e.weights h
symbol_passes levels false e h = refl

count_given : (id : Id) (ws : List Weight) (own : Bool) → length (given_weights (if own then None else Some (map (weight_read id) ws))) ≤ length ws
count_given id ws true = omega arith
count_given id ws false = omega (arith, length-map ws (weight_read id))

count_passes : (levels : ℕ) (symbol : Bool) (e : Entry) → HasWeights levels symbol e → nat_lt levels (length (given_weights (order_read e.id e.weights).weights)) ≡ false
unfolding order_read
count_passes levels symbol e h =
    let few = count_given e.id e.weights (list_all is_own e.weights) in
    let most : length e.weights ≤ levels = by_kind symbol h in
    le-ltb levels (length (given_weights (order_read e.id e.weights).weights)) (omega arith) where
      by_kind : (symbol : Bool) → HasWeights levels symbol e → length e.weights ≤ levels
      by_kind true h = omega (arith, ap length h)
      by_kind false h = omega (arith, h.0)

-- The sections.

-- the name of a section that is met
unfoldable pub name_visited : Visited → List (List ℕ)
name_visited (VisitedSection name) = name ∷ []
name_visited (VisitedEntry entry) = []

-- what is met, as lines of a table, by those that begin a section
unfoldable pub visited_read : (begun : List ℕ → List TableLine) → Visited → List TableLine
visited_read begun (VisitedSection name) = begun name
visited_read begun (VisitedEntry entry) = line.Order (order_read entry.id entry.weights) ∷ []

-- the sections with what is met behind them
sections_past : List Section → List Visited → List Section
sections_past sections [] = sections
sections_past sections (VisitedSection name ∷ ms) = sections_past (with_section sections name) ms
sections_past sections (VisitedEntry entry ∷ ms) = sections_past (with_last sections entry) ms

-- what is met may stand behind these sections
record CanFollow (levels : ℕ) (declared : List Declaration) (sections : List Section) (ms : List Visited) : Type 0 where
  pub first_unnamed : FirstIsUnnamed sections
  pub are_names : All IsName (flat_map name_visited ms)
  pub distinct_names : AreDistinct same_name (section_names sections ++ flat_map name_visited ms)
  pub distinct_ids : AreDistinct same_id (ids_of (joined_entries sections ++ flat_map entry_visited ms))
  pub declared_once : AreDistinct same_name (names_of declared)
  pub known : All (IsKnown declared) (ids_of (flat_map entry_visited ms))
  pub weighted : All (IsWeighted levels declared) (flat_map entry_visited ms)
  pub few_entries : length (joined_entries sections ++ flat_map entry_visited ms) ≤ most_entries
  pub few_sections : length sections + length (flat_map name_visited ms) ≤ most_sections

module _ (levels : ℕ) (declared : List Declaration) where
  -- one section on
  section_on : (sections : List Section) (name : List ℕ) (ms : List Visited) → CanFollow levels declared sections (VisitedSection name ∷ ms) → CanFollow levels declared (with_section sections name) ms
  unfolding name_visited
  section_on sections name ms can =
      let same = sym (entries_with_section sections name) in
      let names : section_names (with_section sections name) ++ flat_map name_visited ms ≡ section_names sections ++ name ∷ flat_map name_visited ms =
      ap (λ ns. ns ++ flat_map name_visited ms) (names_with_section sections name) ∙ append_assoc (section_names sections) (name ∷ []) (flat_map name_visited ms) in
      let last : Section = record { name = Some name; entries = [] } in
      record {
        first_unnamed = unnamed_with_section sections name (All-head IsName name (flat_map name_visited ms) can.are_names) can.first_unnamed;
        are_names = All-tail IsName name (flat_map name_visited ms) can.are_names;
        distinct_names = subst (AreDistinct same_name) (sym names) can.distinct_names;
        distinct_ids = subst (λ es. AreDistinct same_id (ids_of (es ++ flat_map entry_visited ms))) same can.distinct_ids;
        declared_once = can.declared_once;
        known = can.known;
        weighted = can.weighted;
        few_entries = subst (λ (es : List Entry). length (es ++ flat_map entry_visited ms) ≤ most_entries) same can.few_entries;
        few_sections = let few = can.few_sections in omega (arith, length-append sections (last ∷ []));
      }

  -- one entry on
  entry_on : (sections : List Section) (e : Entry) (ms : List Visited) → CanFollow levels declared sections (VisitedEntry e ∷ ms) → CanFollow levels declared (with_last sections e) ms
  unfolding name_visited
  entry_on sections e ms can =
      let more : joined_entries (with_last sections e) ++ flat_map entry_visited ms ≡ joined_entries sections ++ e ∷ flat_map entry_visited ms =
      ap (λ es. es ++ flat_map entry_visited ms) (entries_with_last sections e can.first_unnamed) ∙ append_assoc (joined_entries sections) (e ∷ []) (flat_map entry_visited ms) in
      record {
        first_unnamed = unnamed_with_last sections e can.first_unnamed;
        are_names = can.are_names;
        distinct_names = subst (λ ns. AreDistinct same_name (ns ++ flat_map name_visited ms)) (sym (names_with_last sections e)) can.distinct_names;
        distinct_ids = subst (λ es. AreDistinct same_id (ids_of es)) (sym more) can.distinct_ids;
        declared_once = can.declared_once;
        known = All-tail (IsKnown declared) e.id (ids_of (flat_map entry_visited ms)) can.known;
        weighted = All-tail (IsWeighted levels declared) e (flat_map entry_visited ms) can.weighted;
        few_entries = subst (λ (es : List Entry). length es ≤ most_entries) (sym more) can.few_entries;
        few_sections = subst (λ n. n + length (flat_map name_visited ms) ≤ most_sections) (sym (length_with_last sections e)) can.few_sections;
      }

-- what is said where an order is open, with these sections and numbers
open_state : List Rule → List Declaration → List Section → List ℕ → BuilderState
open_state rules declared sections numbers = record { order_open = true; rules = Some rules; declared = declared; sections = sections; numbers = numbers }

-- the identifier of an entry that may stand here stands for itself
own_as_read : (levels : ℕ) (declared : List Declaration) (sections : List Section) (e : Entry) (ms : List Visited) → CanFollow levels declared sections (VisitedEntry e ∷ ms)
    → own_order declared (order_read e.id e.weights) ≡ order_read e.id e.weights
unfolding order_read
own_as_read levels declared sections e ms can =
    ap (λ id. record (order_read e.id e.weights) { id = id }) (own_id_known declared e.id can.declared_once (All-head (IsKnown declared) e.id (ids_of (flat_map entry_visited ms)) can.known))

-- lines that begin a section behind these sections, where nothing is against its name
pub BeginSections : List Rule → (begun : List ℕ → List TableLine) → Type 1
BeginSections rules begun =
    (declared : List Declaration) (sections : List Section) (numbers : List ℕ) (name : List ℕ) (number : ℕ) (rest : List TableLine) (Last : BuilderState → Type 0)
    → section_cause (open_state rules declared sections numbers) name ≡ None
    → ((number : ℕ) → Leads (open_state rules declared (with_section sections name) numbers) number rest Last)
    → Leads (open_state rules declared sections numbers) number (begun name ++ rest) Last

-- a line of its own begins one
pub section_begins : (rules : List Rule) → BeginSections rules (λ name. line.Section name ∷ [])
unfolding Leads open_state state_with BeginSections
section_begins rules declared sections numbers name number rest Last new goes_on =
    (faultless (open_state rules declared sections numbers) number (line.Section name) refl new, refl, goes_on (suc number))

-- and so does an `order_start` with its name and the same rules, once the order before it is closed
pub start_begins : (rules : List Rule) → BeginSections rules (λ name. line.OrderEnd ∷ line.OrderStart (Some name) (Some rules) ∷ [])
unfolding Leads open_state state_with BeginSections
start_begins rules declared sections numbers name number rest Last new goes_on =
    let closed = record (open_state rules declared sections numbers) { order_open = false } in
    let same : rules_differ (Some rules) (Some rules) ≡ false = sym (differ_unless_same true rules rules (λ _. refl, λ _. refl)) in (
      faultless (open_state rules declared sections numbers) number line.OrderEnd refl refl,
      refl,
      (faultless closed (suc number) (line.OrderStart (Some name) (Some rules)) refl (passes _ _ _ same new), refl, goes_on (suc (suc number))),
    )

module _ (rules : List Rule) (declared : List Declaration) (sections : List Section) (numbers : List ℕ) where
  -- nothing is against a section
  section_passes : (name : List ℕ) (ms : List Visited) → CanFollow (length rules) declared sections (VisitedSection name ∷ ms)
      → section_cause (open_state rules declared sections numbers) name ≡ None
  unfolding open_state name_visited
  section_passes name ms can =
      let new : has_name (section_names sections) name ≡ false = distinct_before same_name same_name_symmetric (section_names sections) name (flat_map name_visited ms) can.distinct_names in
      let room : nat_le most_sections (length sections) ≡ false = let few = can.few_sections in lt-leb most_sections (length sections) (omega arith) in
      passes _ _ _ new (passes _ _ _ room refl)

  -- an entry is accepted
  entry_passes : (e : Entry) (ms : List Visited) → CanFollow (length rules) declared sections (VisitedEntry e ∷ ms)
      → cause_after (open_state rules declared sections numbers) (line.Order (order_read e.id e.weights)) ≡ None
  unfolding open_state order_read
  entry_passes e ms can =
      let weighted = All-head (IsWeighted (length rules) declared) e (flat_map entry_visited ms) can.weighted in
      let ids : AreDistinct same_id (ids_of (joined_entries sections) ++ e.id ∷ ids_of (flat_map entry_visited ms)) =
      subst (AreDistinct same_id) (map-append (λ (e : Entry). e.id) (joined_entries sections) (e ∷ flat_map entry_visited ms)) can.distinct_ids in
      let known : not (is_known declared e.id) ≡ false = ap not (All-head (IsKnown declared) e.id (ids_of (flat_map entry_visited ms)) can.known) in
      let new : is_placed_in sections e.id ≡ false = distinct_before same_id same_id_symmetric (ids_of (joined_entries sections)) e.id (ids_of (flat_map entry_visited ms)) ids in
      let room : nat_le most_entries (length (joined_entries sections)) ≡ false =
      let few = can.few_entries in lt-leb most_entries (length (joined_entries sections)) (omega (arith, length-append (joined_entries sections) (e ∷ flat_map entry_visited ms))) in
      subst (λ order. order_cause (open_state rules declared sections numbers) order ≡ None) (sym (own_as_read (length rules) declared sections e ms can))
      (passes _ _ _ known (passes _ _ _ new (passes _ _ _ (symbol_passes (length rules) (is_symbol declared e.id) e weighted)
      (passes _ _ _ (count_passes (length rules) (is_symbol declared e.id) e weighted) (passes _ _ _ room refl)))))

-- all that is met, accepted one after another
meets_lead : (rules : List Rule) (begun : List ℕ → List TableLine) (declared : List Declaration) (sections : List Section) (numbers : List ℕ) (ms : List Visited) (number : ℕ) (rest : List TableLine)
    (Last : BuilderState → Type 0) → BeginSections rules begun → CanFollow (length rules) declared sections ms
    → ((numbers : List ℕ) (number : ℕ) → Leads (open_state rules declared (sections_past sections ms) numbers) number rest Last)
    → Leads (open_state rules declared sections numbers) number (flat_map (visited_read begun) ms ++ rest) Last
unfolding Leads open_state state_with sections_past visited_read BeginSections
meets_lead rules begun declared sections numbers [] number rest Last begins can goes_on = goes_on numbers number
meets_lead rules begun declared sections numbers (VisitedSection name ∷ ms) number rest Last begins can goes_on =
    let later = flat_map (visited_read begun) ms in
    subst (λ ls. Leads (open_state rules declared sections numbers) number ls Last) (sym (append_assoc (begun name) later rest))
    (begins declared sections numbers name number (later ++ rest) Last (section_passes rules declared sections numbers name ms can)
    (λ number. meets_lead rules begun declared (with_section sections name) numbers ms number rest Last begins (section_on (length rules) declared sections name ms can) goes_on))
meets_lead rules begun declared sections numbers (VisitedEntry e ∷ ms) number rest Last begins can goes_on =
    let order = order_read e.id e.weights in
    let same : e ≡ entry_of (length rules) declared (own_order declared order) =
    sym (entry_as_it_was (length rules) declared e (weighted_first can)) ∙ ap (entry_of (length rules) declared) (sym (own_as_read (length rules) declared sections e ms can)) in (
      faultless (open_state rules declared sections numbers) number (line.Order order) refl (entry_passes rules declared sections numbers e ms can),
      refl,
      subst (λ (entry : Entry). Leads (open_state rules declared (with_last sections entry) (numbers ++ number ∷ [])) (suc number) (flat_map (visited_read begun) ms ++ rest) Last) same
          (meets_lead rules begun declared (with_last sections e) (numbers ++ number ∷ []) ms (suc number) rest Last begins (entry_on (length rules) declared sections e ms can) goes_on),
    ) where
      weighted_first : CanFollow (length rules) declared sections (VisitedEntry e ∷ ms) → IsWeighted (length rules) declared e
      weighted_first can = All-head (IsWeighted (length rules) declared) e (flat_map entry_visited ms) can.weighted

-- What is met on a walk makes the sections.

-- the last section with all its entries
past_entries : (prefix : List Section) (name : Option (List ℕ)) (done later : List Entry) (ms : List Visited)
    → sections_past (prefix ++ record { name = name; entries = done } ∷ []) (map VisitedEntry later ++ ms) ≡ sections_past (prefix ++ record { name = name; entries = done ++ later } ∷ []) ms
unfolding sections_past
past_entries prefix name done [] ms = ap (λ es. sections_past (prefix ++ record { name = name; entries = es } ∷ []) ms) (sym (append-nil done))
past_entries prefix name done (e ∷ later) ms =
    ap (λ ss. sections_past ss (map VisitedEntry later ++ ms)) (last_longer prefix)
    ∙ past_entries prefix name (done ++ e ∷ []) later ms
    ∙ ap (λ es. sections_past (prefix ++ record { name = name; entries = es } ∷ []) ms) (append_assoc done (e ∷ []) later) where
      last_longer : (prefix : List Section) → with_last (prefix ++ record { name = name; entries = done } ∷ []) e ≡ prefix ++ record { name = name; entries = done ++ e ∷ [] } ∷ []
      last_longer [] = refl
      last_longer (first ∷ []) = refl
      last_longer (first ∷ second ∷ later) = ap (λ ss. first ∷ ss) (last_longer (second ∷ later))

-- sections with names, behind others
past_sections : (prefix : List Section) (name : Option (List ℕ)) (done : List Entry) (others : List Section) → All IsNamed others
    → sections_past (prefix ++ record { name = name; entries = done } ∷ []) (visited others) ≡ prefix ++ record { name = name; entries = done } ∷ others
unfolding sections_past
past_sections prefix name done [] h = refl
past_sections prefix name done (next ∷ others) h =
    by_name next.name next.entries (All-head IsNamed next others h)
    (λ begun entries. past_sections (prefix ++ record { name = name; entries = done } ∷ []) begun entries others (All-tail IsNamed next others h)) where
      by_name : (begun : Option (List ℕ)) (entries : List Entry) → IsNamed (record { name = begun; entries = entries })
          → ((begun : Option (List ℕ)) (entries : List Entry) → sections_past ((prefix ++ record { name = name; entries = done } ∷ []) ++ record { name = begun; entries = entries } ∷ [])
          (visited others) ≡ (prefix ++ record { name = name; entries = done } ∷ []) ++ record { name = begun; entries = entries } ∷ others)
          → sections_past (prefix ++ record { name = name; entries = done } ∷ []) ((visited_name begun ++ map VisitedEntry entries) ++ visited others)
          ≡ prefix ++ record { name = name; entries = done } ∷ record { name = begun; entries = entries } ∷ others
      by_name None entries is more = let e = is.1 in cc
      by_name (Some begun) entries is more =
          past_entries (prefix ++ record { name = name; entries = done } ∷ []) (Some begun) [] entries (visited others)
          ∙ more (Some begun) entries
          ∙ append_assoc prefix (record { name = name; entries = done } ∷ []) (record { name = Some begun; entries = entries } ∷ others)

-- the sections of a table
past_all : (sections : List Section) → FirstIsUnnamed sections → sections_past (record { name = None; entries = [] } ∷ []) (visited sections) ≡ sections
unfolding sections_past
past_all [] h = absurd h
past_all (first ∷ others) h = by_name first.name first.entries h.0 where
  by_name : (name : Option (List ℕ)) (entries : List Entry) → name ≡ None
      → sections_past (record { name = None; entries = [] } ∷ []) ((visited_name name ++ map VisitedEntry entries) ++ visited others) ≡ record { name = name; entries = entries } ∷ others
  by_name None entries e = past_entries [] None [] entries (visited others) ∙ past_sections [] None entries others h.1
  by_name (Some name) entries e = cc

-- the names that are met
pub names_visited : (sections : List Section) → flat_map name_visited (visited sections) ≡ section_names sections
unfolding name_visited
names_visited [] = refl
names_visited (first ∷ others) =
    flat_map-append name_visited (visited_in first) (visited others) ∙ ap (λ ns. ns ++ flat_map name_visited (visited others)) (in_section first.name first.entries)
    ∙ ap (λ ns. named first.name ++ ns) (names_visited others) where
      only_entries : (entries : List Entry) → flat_map name_visited (map VisitedEntry entries) ≡ []
      only_entries [] = refl
      only_entries (e ∷ es) = only_entries es

      in_section : (name : Option (List ℕ)) (entries : List Entry) → flat_map name_visited (visited_name name ++ map VisitedEntry entries) ≡ named name
      in_section None entries = only_entries entries
      in_section (Some name) entries = ap (λ l. name ∷ l) (only_entries entries)

-- the names of the sections are names, one fewer than the sections
names_of_named : (others : List Section) → All IsNamed others → All IsName (section_names others) × (length (section_names others) ≡ length others)
names_of_named [] h = (All-nil IsName, refl)
names_of_named (next ∷ others) h = by_name next.name (All-head IsNamed next others h) (names_of_named others (All-tail IsNamed next others h)) where
  by_name : (begun : Option (List ℕ)) → (name : List ℕ) × (begun ≡ Some name) × IsName name → All IsName (section_names others) × (length (section_names others) ≡ length others)
      → All IsName (named begun ++ section_names others) × (length (named begun ++ section_names others) ≡ length (next ∷ others))
  by_name None is more = let e = is.1 in cc
  by_name (Some begun) is more =
      let same : is.0 ≡ begun = let e = is.1 in cc in
      (All-cons IsName begun (section_names others) (subst IsName same is.2) more.0, ap suc more.1)

pub names_of_first : (sections : List Section) → FirstIsUnnamed sections → All IsName (section_names sections) × (suc (length (section_names sections)) ≡ length sections)
names_of_first [] h = absurd h
names_of_first (first ∷ others) h =
    let more = names_of_named others h.1 in
    subst (λ n. All IsName (named n ++ section_names others) × (suc (length (named n ++ section_names others)) ≡ length (first ∷ others))) (sym h.0) (more.0, ap suc more.1)

-- The end of the category.

-- what is said at the end: no weight is refused, the order is closed, and the table, with its weights by own names, is this one
pub record EndsAs (table : Collation) (d : BuilderState) : Type 0 where
  pub passes : (number : ℕ) → line_fault d (record { number = number; line = line.EndCategory }) ≡ None
  pub says : table_of (with_own_weights d) ≡ table

-- what is said behind the last line of the order
closed_state : Collation → List ℕ → BuilderState
closed_state table numbers = record { order_open = false; rules = Some table.rules; declared = table.declared; sections = table.sections; numbers = numbers }

module _ (table : Collation) (w : IsWellFormed table) (numbers : List ℕ) where
  -- an identifier that is placed may stand in a weight
  placed_passes : (id : Id) → is_placed table id ≡ true → weight_cause table.declared table.sections id ≡ None
  placed_passes id placed =
      let known : IsKnown table.declared id = found_holds same_id same_id_decides (IsKnown table.declared) (ids_of (joined_entries table.sections)) id w.built.known placed in
      passes _ _ _ (ap not known) (passes _ _ _ (ap not placed) refl)

  ids_pass : (ids : List Id) → All (λ id. IsTrue (is_placed table id)) ids → ids_cause table.declared table.sections ids ≡ None
  ids_pass [] h = refl
  ids_pass (id ∷ ids) h =
      rw (placed_passes id (All-head (λ id. IsTrue (is_placed table id)) id ids h)) (ids_pass ids (All-tail (λ id. IsTrue (is_placed table id)) id ids h))

  entries_pass : (places : List ℕ) (entries : List Entry) → All (HasPlacedWeights table) entries → entries_fault (closed_state table numbers) places entries ≡ None
  unfolding closed_state
  entries_pass [] entries h = refl
  entries_pass (place ∷ places) [] h = refl
  entries_pass (place ∷ places) (e ∷ entries) h =
      rw (ids_pass (ids_named e) (All-head (HasPlacedWeights table) e entries h)) (entries_pass places entries (All-tail (HasPlacedWeights table) e entries h))

  -- its weights stand by own names already
  own_as_closed : with_own_weights (closed_state table numbers) ≡ closed_state table numbers
  unfolding closed_state
  own_as_closed = ap (λ sections. record (closed_state table numbers) { sections = sections }) (own_table table w)

  ends_as : EndsAs table (closed_state table numbers)
  unfolding line_fault closed_state
  ends_as = record {
    passes = λ number. ap weights_fault own_as_closed ∙ entries_pass numbers (joined_entries table.sections) w.weights_placed;
    says = ap table_of own_as_closed;
  }

-- The whole table.

-- a line without effect
abbrev pub script_read : List ℕ → TableLine
script_read note = line.Script

-- the lines of a table but for the last, as they are read, with lines without effect before the order, and by those that begin a
-- section
unfoldable pub said : (notes : List (List ℕ)) → (begun : List ℕ → List TableLine) → Collation → List TableLine
said notes begun table =
    map declaration_read table.declared
    ++ (map script_read notes ++ (line.OrderStart None (Some table.rules) ∷ (flat_map (visited_read begun) (visited table.sections) ++ line.OrderEnd ∷ [])))

-- lines without effect lead on
scripts_lead : (d : BuilderState) (notes : List (List ℕ)) (number : ℕ) (rest : List TableLine) (Last : BuilderState → Type 0) → ((number : ℕ) → Leads d number rest Last)
    → Leads d number (map script_read notes ++ rest) Last
unfolding Leads state_with
scripts_lead d [] number rest Last goes_on = goes_on number
scripts_lead d (note ∷ notes) number rest Last goes_on = (faultless d number line.Script refl refl, refl, scripts_lead d notes (suc number) rest Last goes_on)

module _ (table : Collation) (w : IsWellFormed table) (notes : List (List ℕ)) (begun : List ℕ → List TableLine) (begins : BeginSections table.rules begun) where
  -- what is met may stand behind a first section that is empty
  can_follow : CanFollow (length table.rules) table.declared (record { name = None; entries = [] } ∷ []) (visited table.sections)
  can_follow =
      let entries = sym (visited_all table.sections) in
      let names = sym (names_visited table.sections) in
      let named = names_of_first table.sections w.built.first_unnamed in
      record {
        first_unnamed = (refl, All-nil IsNamed);
        are_names = subst (All IsName) names named.0;
        distinct_names = subst (AreDistinct same_name) names w.built.distinct_sections;
        distinct_ids = subst (λ es. AreDistinct same_id (ids_of es)) entries w.built.distinct_entries;
        declared_once = w.built.distinct_names;
        known = subst (λ es. All (IsKnown table.declared) (ids_of es)) entries w.built.known;
        weighted = subst (All (IsWeighted (length table.rules) table.declared)) entries w.built.weighted;
        few_entries = subst (λ (es : List Entry). length es ≤ most_entries) entries w.built.few_entries;
        few_sections = subst (λ (ns : List (List ℕ)). 1 + length ns ≤ most_sections) names (let few = w.built.few_sections in let count = named.1 in omega arith);
      }

  -- behind all that is met the order is closed
  order_leads : (numbers : List ℕ) (number : ℕ)
      → Leads (open_state table.rules table.declared (sections_past (record { name = None; entries = [] } ∷ []) (visited table.sections)) numbers) number (line.OrderEnd ∷ []) (EndsAs table)
  unfolding Leads open_state state_with closed_state
  order_leads numbers number =
      subst (λ sections. Leads (open_state table.rules table.declared sections numbers) number (line.OrderEnd ∷ []) (EndsAs table)) (sym (past_all table.sections w.built.first_unnamed))
      (faultless (open_state table.rules table.declared table.sections numbers) number line.OrderEnd refl refl, refl, ends_as table w numbers)

  -- behind the declarations and the lines without effect the order begins
  rules_lead : (number : ℕ)
      → Leads (declared_state table.declared) number (line.OrderStart None (Some table.rules) ∷ (flat_map (visited_read begun) (visited table.sections) ++ line.OrderEnd ∷ [])) (EndsAs table)
  unfolding Leads declared_state state_with open_state
  rules_lead number = (
    faultless (declared_state table.declared) number (line.OrderStart None (Some table.rules)) refl refl,
    refl,
    meets_lead table.rules begun table.declared (record { name = None; entries = [] } ∷ []) [] (visited table.sections) (suc number) (line.OrderEnd ∷ []) (EndsAs table) begins can_follow order_leads,
  )

  -- the lines of a table, accepted one after another, say it
  pub said_leads : (number : ℕ) → Leads (state_of []) number (said notes begun table) (EndsAs table)
  unfolding said declared_state state_of
  said_leads number =
      let order = line.OrderStart None (Some table.rules) ∷ (flat_map (visited_read begun) (visited table.sections) ++ line.OrderEnd ∷ []) in
      declarations_lead [] table.declared number (map script_read notes ++ order) (EndsAs table) w.built.distinct_names w.built.distinct_texts w.built.meant w.built.few_declarations
      (λ number. scripts_lead (declared_state table.declared) notes number order (EndsAs table) rules_lead)
