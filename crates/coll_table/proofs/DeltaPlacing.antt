-- A table with the entries of a block's lines moved, or newly placed: what stands there, and that it holds together.
use Rattle.std.proofs.Common.{◌≡◌, ◌≤◌, ℕ, ◌+◌, suc, zero, Bool, true, false, ◌||◌, ◌-◌, not, cond, if◌then◌else◌, List, [], ◌∷◌, ◌++◌, Option}
use Rattle.std.proofs.Common.{Some, None, IsTrue, length, map, filter, replicate, All, sym, ap, ap₂, subst, ◌∙◌, refl, arith}
use Rattle.std.specs.Prelude.{is_none}
use Rattle.std.specs.List.{flat_map}
use Rattle.std.specs.Option.{option_or}
use Rattle.std.proofs.lemmas.Bool.{false≢true}
use Rattle.std.proofs.lemmas.List.Elements.{All-nil, All-cons, All-head, All-tail, All-append}
use Rattle.coll_order.proofs.Sameness.{by_test}
use Rattle.coll_syntax.specs.Identifier.{same_id, same_name, has_id}
use Rattle.coll_syntax.specs.Proper.{IsId, IsProperLine}
use Rattle.coll_syntax.specs.declared.identifiers.Id.{Id}
use Rattle.coll_syntax.specs.declared.statements.OrderLine.{OrderLine}
use Rattle.coll_syntax.specs.declared.weights.Weight.{Weight}
use Rattle.coll_syntax.specs.declared.weights.Weight.TheVariants.{Own}
use Rattle.coll_texts.proofs.BuiltTables.{built_with}
use Rattle.coll_table.proofs.DeltaRefusals.{Passes, passes, has_last, has_still}
use Rattle.coll_nodes.proofs.EntryLemmas.{taken_out, others_without, distinct_without, all_without, none_without, length_without}
use Rattle.coll_nodes.proofs.EntryLemmas.{distinct_after, all_after, length_after, has_after, entry_found, found_id, by_ids, to_ids}
use Rattle.coll_lookups.proofs.Sameness.{same_id_decides, same_id_symmetric, same_id_itself}
use Rattle.coll_nodes.proofs.SectionLemmas.{joined_moved, names_stay, as_many, first_stays}
use Rattle.coll_texts.proofs.SoundLines.{weights_are}
use Rattle.coll_table.specs.Delta.{standing, block_entry, moved, all_moved, lines_refusal, line_refusal, ids_given}
use Rattle.coll_nodes.specs.Entries.{ids_named, weight_ids, weights_of, kept_weight, given_weights, names_only, entry_of}
use Rattle.coll_table.specs.Judging.{entries_added, line_ids}
use Rattle.coll_nodes.specs.Limits.{most_entries}
use Rattle.coll_nodes.specs.Placement.{entry_at, entries_after, entries_without, without}
use Rattle.coll_nodes.specs.Table.{Collation, Section, entries_of, ids_of, section_names, is_known, is_symbol, is_placed}
use Rattle.coll_nodes.specs.WellFormed.{AreDistinct, IsKnown, IsWeighted, IsBuilt}
use Rattle.coll_nodes.specs.declared.entries.Entry.{Entry}

-- what isn't there is apart from what is
pub apart_when_new : (ids : List Id) (target id : Id) → has_id ids target ≡ true → has_id ids id ≡ false → same_id id target ≡ false
apart_when_new ids target id p q =
    by_test (λ b. same_id id target ≡ b → b ≡ false) (same_id id target)
    (λ _. λ e. absurd (false≢true (sym q ∙ (ap (has_id ids) ((same_id_decides id target).0 e) ∙ p))))
    (λ _. λ _. refl) refl

-- What the entry of a line names in its weights.

-- what holds of each of two lists holds of the first
pub all_prefix : {X : Type 0} (P : X → Type 0) (xs ys : List X) → All P (xs ++ ys) → All P xs
all_prefix P [] ys h = All-nil P
all_prefix P (x ∷ xs) ys h = All-cons P x xs (All-head P x (xs ++ ys) h) (all_prefix P xs ys (All-tail P x (xs ++ ys) h))

-- and of the second
pub all_back : {X : Type 0} (P : X → Type 0) (xs ys : List X) → All P (xs ++ ys) → All P ys
all_back P [] ys h = h
all_back P (x ∷ xs) ys h = all_back P xs ys (All-tail P x (xs ++ ys) h)

module _ (P : Id → Type 0) where
  -- a weight that is kept names what the one given does, or nothing
  kept_names : (id : Id) (weight : Weight) → All P (weight_ids weight) → All P (weight_ids (kept_weight id weight))
  kept_names id weight h = by_test (λ b. All P (weight_ids (if b then Own else weight))) (names_only id weight) (λ _. All-nil P) (λ _. h)

  -- its own weight at each level names nothing
  own_names : (levels : ℕ) → All P (flat_map weight_ids (replicate levels Own))
  own_names zero = All-nil P
  own_names (suc levels) = own_names levels

  -- the weights that are kept name what those given do
  all_kept_names : (levels : ℕ) (id : Id) (given : List Weight) → All P (flat_map weight_ids given) → All P (flat_map weight_ids (map (kept_weight id) given ++ replicate levels Own))
  all_kept_names levels id [] h = own_names levels
  all_kept_names levels id (weight ∷ given) h =
      All-append P (weight_ids (kept_weight id weight)) (flat_map weight_ids (map (kept_weight id) given ++ replicate levels Own))
      (kept_names id weight (all_prefix P (weight_ids weight) (flat_map weight_ids given) h))
      (all_kept_names levels id given (all_back P (weight_ids weight) (flat_map weight_ids given) h))

  -- the entry of a line names what the line gives
  pub entry_names : (levels : ℕ) (symbol : Bool) (line : OrderLine) → All P (flat_map weight_ids (given_weights line.weights)) → All P (flat_map weight_ids (weights_of levels symbol line))
  entry_names levels true line h = All-nil P
  entry_names levels false line h = all_kept_names (levels - length (given_weights line.weights)) line.id (given_weights line.weights) h

-- One line.

module _ (table : Collation) (line : OrderLine) where
  -- the entry that a line places: the one that stands, or the one that it makes
  pub entry_by : (P : Entry → Type 0) → ((found : Entry) → entry_at (entries_of table) line.id ≡ Some found → P found) → P (entry_of (length table.rules) table.declared line)
      → P (block_entry table line)
  entry_by P found new = by (is_none line.weights) (entry_at (entries_of table) line.id) refl where
    by : (none : Bool) (entry : Option Entry) → entry_at (entries_of table) line.id ≡ entry → P (standing none entry (entry_of (length table.rules) table.declared line))
    by true None e = new
    by true (Some entry) e = found entry e
    by false entry e = new

  -- it has the identifier
  pub block_entry_id : (block_entry table line).id ≡ line.id
  block_entry_id = entry_by (λ entry. entry.id ≡ line.id) (λ found e. found_id (entries_of table) line.id found e) refl

  module _ (target : Id) (d : AreDistinct same_id (ids_of (entries_of table))) where
    -- the entries, with it moved
    pub moved_entries : entries_of (moved table target line) ≡ entries_after (entries_without (entries_of table) line.id) target (block_entry table line)
    moved_entries = joined_moved table.sections line.id target (block_entry table line) d

    -- each stands once
    pub distinct_moved : AreDistinct same_id (ids_of (entries_of (moved table target line)))
    distinct_moved = subst (λ es. AreDistinct same_id (ids_of es)) (sym moved_entries)
        (distinct_after (entries_without (entries_of table) line.id) target (block_entry table line) (distinct_without (entries_of table) line.id d)
        (ap (has_id (ids_of (entries_without (entries_of table) line.id))) block_entry_id ∙ taken_out (entries_of table) line.id))

    -- what holds of each entry, and of this one, holds of each entry
    pub all_moved_entries : (P : Entry → Type 0) → All P (entries_of table) → P (block_entry table line) → All P (entries_of (moved table target line))
    all_moved_entries P h p = subst (All P) (sym moved_entries)
        (all_after P (entries_without (entries_of table) line.id) target (block_entry table line) (all_without P (entries_of table) line.id h) p)

    -- so of identifiers
    moved_ids : (P : Id → Type 0) → All P (ids_of (entries_of table)) → P line.id → All P (ids_of (entries_of (moved table target line)))
    moved_ids P h p = to_ids P (entries_of (moved table target line)) (all_moved_entries (λ (entry : Entry). P entry.id) (by_ids P (entries_of table) h) (subst P (sym block_entry_id) p))

    module _ (apart : same_id line.id target ≡ false) (there : is_placed table target ≡ true) where
      target_stays : has_id (ids_of (entries_without (entries_of table) line.id)) target ≡ true
      target_stays = others_without (entries_of table) line.id target apart ∙ there

      -- the one moved is there, and the others as before
      pub has_moved : (other : Id) → is_placed (moved table target line) other ≡ (same_id other line.id || is_placed table other)
      has_moved other =
          ap (λ es. has_id (ids_of es) other) moved_entries
          ∙ (has_after (entries_without (entries_of table) line.id) target (block_entry table line) other target_stays
          ∙ (ap (λ i. same_id other i || has_id (ids_of (entries_without (entries_of table) line.id)) other) block_entry_id
          ∙ by_test (λ b. same_id other line.id ≡ b → (b || has_id (ids_of (entries_without (entries_of table) line.id)) other) ≡ (b || has_id (ids_of (entries_of table)) other))
          (same_id other line.id)
          (λ _. λ _. refl)
          (λ _. λ e. others_without (entries_of table) line.id other (same_id_symmetric line.id other ∙ e)) refl))

      -- the one moved is there
      pub here_moved : is_placed (moved table target line) line.id ≡ true
      here_moved = has_moved line.id ∙ ap (λ b. b || is_placed table line.id) (same_id_itself line.id)

      -- there is one entry more, where it is new
      pub length_moved : length (entries_of (moved table target line)) ≡ cond (not (is_placed table line.id)) 1 0 + length (entries_of table)
      length_moved = ap length moved_entries ∙ (length_after (entries_without (entries_of table) line.id) target (block_entry table line) target_stays
          ∙ by_test (λ b. is_placed table line.id ≡ b → suc (length (entries_without (entries_of table) line.id)) ≡ cond (not b) 1 0 + length (entries_of table)) (is_placed table line.id)
          (λ _. λ here. let e = length_without (entries_of table) line.id d here in omega arith)
          (λ _. λ new. let e = ap (λ (es : List Entry). length es) (none_without (entries_of table) line.id new) in omega arith) refl)

  -- the sections have other entries, and nothing else
  sections_stay : (target : Id) → {X : Type 0} (f : List Section → X) → ((change : List Entry → List Entry) (sections : List Section)
      → f (map (λ (section : Section). record section { entries = change section.entries }) sections) ≡ f sections) → f (moved table target line).sections ≡ f table.sections
  sections_stay target f stays = stays (λ es. entries_after es target (block_entry table line)) (without table.sections line.id) ∙ stays (λ es. entries_without es line.id) table.sections

  -- it has its weights
  block_entry_weighted : IsBuilt table → IsProperLine line → length (given_weights line.weights) ≤ length table.rules → IsWeighted (length table.rules) table.declared (block_entry table line)
  block_entry_weighted built proper few =
      entry_by (IsWeighted (length table.rules) table.declared) (λ found e. (entry_found (IsWeighted (length table.rules) table.declared) (entries_of table) line.id found built.weighted e).0)
      (weights_are (length table.rules) (is_symbol table.declared line.id) line proper few)

  -- the table with it moved holds together, where there is room
  pub moved_built : (target : Id) → IsBuilt table → IsProperLine line → IsTrue (is_known table.declared line.id) → length (given_weights line.weights) ≤ length table.rules
      → length (entries_of (moved table target line)) ≤ most_entries → IsBuilt (moved table target line)
  moved_built target built proper known few room = built_with table (moved table target line).sections built (record {
    ids = moved_ids target built.distinct_entries IsId built.ids proper.0;
    first_unnamed = first_stays (λ es. entries_after es target (block_entry table line)) (without table.sections line.id)
        (first_stays (λ es. entries_without es line.id) table.sections built.first_unnamed);
    distinct_sections = subst (AreDistinct same_name) (sym (sections_stay target section_names names_stay)) built.distinct_sections;
    distinct_entries = distinct_moved target built.distinct_entries;
    known = moved_ids target built.distinct_entries (IsKnown table.declared) built.known known;
    weighted = all_moved_entries target built.distinct_entries (IsWeighted (length table.rules) table.declared) built.weighted (block_entry_weighted built proper few);
    few_entries = room;
    few_sections = let e = sections_stay target length as_many in let f = built.few_sections in omega arith;
  })

-- All lines.

-- lines are judged by the rules and declarations alone, which stay
pub lines_stay : (table : Collation) (sections : List Section) (before : List Id) (lines : List OrderLine) → lines_refusal (record table { sections = sections }) before lines
    ≡ lines_refusal table before lines
lines_stay table sections before [] = refl
lines_stay table sections before (line ∷ lines) = ap (λ later. option_or (line_refusal table before line) later) (lines_stay table sections (before ++ line.id ∷ []) lines)

-- the first of some lines adds an entry, where it isn't placed
pub added_more : (table : Collation) (line : OrderLine) (lines : List OrderLine) → entries_added table (line ∷ lines) ≡ cond (not (is_placed table line.id)) 1 0 + entries_added table lines
added_more table line lines = by_test (λ b. length (cond b (line ∷ filter (λ (l : OrderLine). not (is_placed table l.id)) lines) (filter (λ (l : OrderLine). not (is_placed table l.id)) lines))
    ≡ cond b 1 0 + entries_added table lines) (not (is_placed table line.id)) (λ _. omega arith) (λ _. omega arith)

-- the lines that add an entry are the same, where one more is placed that isn't among them
added_stay : (judged table now : Collation) (id : Id) (before : List Id) (lines : List OrderLine) → ((other : Id) → is_placed now other ≡ (same_id other id || is_placed table other))
    → has_id before id ≡ true → lines_refusal judged before lines ≡ None → entries_added now lines ≡ entries_added table lines
added_stay judged table now id before [] placed here e = refl
added_stay judged table now id before (line ∷ lines) placed here e =
    let h = passes judged before line lines e in
    let apart : same_id line.id id ≡ false = apart_when_new before id line.id here h.new in
    let same : is_placed now line.id ≡ is_placed table line.id = placed line.id ∙ ap (λ b. b || is_placed table line.id) apart in
    let later = added_stay judged table now id (before ++ line.id ∷ []) lines placed (has_still before line.id id here) h.later in
    added_more now line lines ∙ (ap₂ (λ b n. cond (not b) 1 0 + n) same later ∙ sym (added_more table line lines))

-- where lines stand to be placed: the target, or the line before, is placed, and is among the identifiers that they may not
-- have; and no line is refused
pub record MayFollow (table : Collation) (target : Id) (before : List Id) (lines : List OrderLine) : Type 0 where
  pub distinct : AreDistinct same_id (ids_of (entries_of table))
  pub there : is_placed table target ≡ true
  pub last : has_id before target ≡ true
  pub judged : lines_refusal table before lines ≡ None

module _ (table : Collation) (target : Id) (before : List Id) (line : OrderLine) (lines : List OrderLine) (h : MayFollow table target before (line ∷ lines)) where
  pub first_passes : Passes table before line lines
  first_passes = passes table before line lines h.judged

  pub first_apart : same_id line.id target ≡ false
  first_apart = apart_when_new before target line.id h.last first_passes.new

  -- the line placed, the others stand behind it
  pub others_follow : MayFollow (moved table target line) line.id (before ++ line.id ∷ []) lines
  others_follow = record {
    distinct = distinct_moved table line target h.distinct;
    there = here_moved table line target h.distinct first_apart h.there;
    last = has_last before line.id;
    judged = lines_stay table (moved table target line).sections (before ++ line.id ∷ []) lines ∙ first_passes.later;
  }

-- of three tests the first may go behind the others
last_of_three : (a b c : Bool) → (b || (a || c)) ≡ ((a || b) || c)
last_of_three true true c = refl
last_of_three true false c = refl
last_of_three false b c = refl

-- what is placed is what was, and the identifiers of the lines
pub has_all_moved : (table : Collation) (target : Id) (before : List Id) (lines : List OrderLine) → MayFollow table target before lines → (other : Id) → is_placed (all_moved table target lines) other
    ≡ (has_id (line_ids lines) other || is_placed table other)
has_all_moved table target before [] h other = refl
has_all_moved table target before (line ∷ lines) h other =
    let apart = first_apart table target before line lines h in
    has_all_moved (moved table target line) line.id (before ++ line.id ∷ []) lines (others_follow table target before line lines h) other
    ∙ (ap (λ b. has_id (line_ids lines) other || b) (has_moved table line target h.distinct apart h.there other)
    ∙ last_of_three (same_id other line.id) (has_id (line_ids lines) other) (is_placed table other))

-- there are as many more entries as lines add
pub length_all_moved : (table : Collation) (target : Id) (before : List Id) (lines : List OrderLine) → MayFollow table target before lines → length (entries_of (all_moved table target lines))
    ≡ entries_added table lines + length (entries_of table)
length_all_moved table target before [] h = omega arith
length_all_moved table target before (line ∷ lines) h =
    let apart = first_apart table target before line lines h in
    let passed = first_passes table target before line lines h in
    let placed = has_moved table line target h.distinct apart h.there in
    let same = added_stay table table (moved table target line) line.id (before ++ line.id ∷ []) lines placed (has_last before line.id) passed.later in
    let one = length_moved table line target h.distinct apart h.there in
    let later = length_all_moved (moved table target line) line.id (before ++ line.id ∷ []) lines (others_follow table target before line lines h) in
    let more = added_more table line lines in
    omega (arith, same, one, later, more)

-- the rules stay
pub all_moved_rules : (table : Collation) (target : Id) (lines : List OrderLine) → (all_moved table target lines).rules ≡ table.rules
all_moved_rules table target [] = refl
all_moved_rules table target (line ∷ lines) = all_moved_rules (moved table target line) line.id lines

-- so do the declarations
pub all_moved_declared : (table : Collation) (target : Id) (lines : List OrderLine) → (all_moved table target lines).declared ≡ table.declared
all_moved_declared table target [] = refl
all_moved_declared table target (line ∷ lines) = all_moved_declared (moved table target line) line.id lines

-- the table with all of them moved holds together, where there is room in the end
pub all_moved_built : (table : Collation) (target : Id) (before : List Id) (lines : List OrderLine) → MayFollow table target before lines → IsBuilt table → All IsProperLine lines
    → length (entries_of (all_moved table target lines)) ≤ most_entries → IsBuilt (all_moved table target lines)
all_moved_built table target before [] h built proper room = built
all_moved_built table target before (line ∷ lines) h built proper room =
    let passed = first_passes table target before line lines h in
    let others = others_follow table target before line lines h in
    let grows = length_all_moved (moved table target line) line.id (before ++ line.id ∷ []) lines others in
    let one = moved_built table line target built (All-head IsProperLine line lines proper) passed.known passed.few (omega (arith, room, grows)) in
    all_moved_built (moved table target line) line.id (before ++ line.id ∷ []) lines others one (All-tail IsProperLine line lines proper) room

-- what holds of each identifier that the weights of entries named, and of each that the lines give, holds of each that they name
pub all_named : (P : Id → Type 0) (table : Collation) (target : Id) (before : List Id) (lines : List OrderLine) → MayFollow table target before lines
    → All (λ (entry : Entry). All P (ids_named entry)) (entries_of table) → All P (ids_given lines) → All (λ (entry : Entry). All P (ids_named entry)) (entries_of (all_moved table target lines))
all_named P table target before [] h were given = were
all_named P table target before (line ∷ lines) h were given =
    let ids = flat_map weight_ids (given_weights line.weights) in
    let Q = λ (entry : Entry). All P (ids_named entry) in
    let one : Q (block_entry table line) = entry_by table line Q (λ found e. (entry_found Q (entries_of table) line.id found were e).0)
    (entry_names P (length table.rules) (is_symbol table.declared line.id) line (all_prefix P ids (ids_given lines) given)) in
    all_named P (moved table target line) line.id (before ++ line.id ∷ []) lines (others_follow table target before line lines h)
    (all_moved_entries table line target h.distinct Q were one) (all_back P ids (ids_given lines) given)
