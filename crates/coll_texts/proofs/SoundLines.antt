-- A builder stays sound with each line that is accepted.
use Rattle.std.proofs.Common.{◌≡◌, ℕ, ◌+◌, ◌≤◌, ◌<◌, ◌-◌, Bool, true, false, ◌&&◌, not, if◌then◌else◌, List, [], ◌∷◌, ◌++◌, length}
use Rattle.std.proofs.Common.{map, replicate, Option, Some, None, sym, ap, subst, ◌∙◌, refl, arith, length-append}
use Rattle.std.specs.Prelude.{All, IsSome, is_some, nat_le, nat_lt}
use Rattle.std.proofs.lemmas.Bool.{false≢true, le-leb, leb-false, lt-leb, ltb-false}
use Rattle.std.proofs.lemmas.List.{length-map, length-replicate}
use Rattle.std.proofs.lemmas.List.Elements.{All-nil, All-append, All-map, All-replicate, All-weaker}
use Rattle.coll_lex.specs.Names.{IsName}
use Rattle.coll_syntax.specs.Identifier.{has_name}
use Rattle.coll_syntax.specs.Proper.{IsProperWeight, AreProperWeights, IsProperLine}
use Rattle.coll_syntax.specs.declared.identifiers.Id.{Id}
use Rattle.coll_syntax.specs.declared.statements.OrderLine.{OrderLine}
use Rattle.coll_syntax.specs.declared.weights.Weight.{Weight}
use Rattle.coll_syntax.specs.declared.weights.Weight.TheVariants.{Own}
use Rattle.std.specs.Option.{option_or}
use Rattle.coll_nodes.proofs.OwnNames.{own_id_proper, means_something}
use Rattle.coll_nodes.proofs.OwnTables.{own_built, own_joined}
use Rattle.coll_texts.proofs.BuiltTables.{built_declared, built_section, built_entry, entries_with_section, entries_with_last}
use Rattle.coll_nodes.specs.Table.{has_text}
use Rattle.coll_nodes.specs.Causes.{refused_if}
use Rattle.coll_texts.specs.BuilderStates.{BuilderState, table_of, meaning_cause, second_name, declaration_cause, own_order, with_own_weights, section_cause, order_cause, levels_of}
use Rattle.coll_nodes.specs.Entries.{names_only, kept_weight, kept_weights, given_weights, weights_of, entry_of}
use Rattle.coll_nodes.specs.OwnNames.{own_entry, named_own, means_nothing, means_no_symbol}
use Rattle.coll_nodes.specs.Limits.{most_entries, most_declarations, most_sections}
use Rattle.coll_texts.specs.Loading.{with_section, with_declaration, with_entry}
use Rattle.coll_texts.specs.SoundStates.{IsSoundBuilderState, IsProperDeclaration, MayBePut}
use Rattle.coll_nodes.specs.Table.{name_of, text_of, joined_entries, section_names, is_declared, is_known, is_own_name, is_placed_in, is_symbol, is_symbol_name}
use Rattle.coll_nodes.specs.WellFormed.{IsKeptWeight, HasWeights}
use Rattle.coll_nodes.specs.declared.declarations.Declaration.{Declaration}
use Rattle.coll_nodes.specs.declared.declarations.Declaration.TheVariants.{Equivalence}
use Rattle.coll_nodes.specs.declared.entries.Entry.{Entry}
use Rattle.coll_texts.specs.declared.load_faults.LoadCause.{LoadCause}
use Rattle.coll_texts.specs.declared.load_faults.LoadCause.TheVariants.{DeclaredTwice, NotDeclared, NotASymbol, PlacedTwice, SymbolWithWeights, TooManyWeights, StringTwice, Full}

-- where nothing is refused the test doesn't hold, and what follows doesn't refuse either
pub passed : {C : Type 0} (test : Bool) (cause : C) (later : Option C) → refused_if test cause later ≡ None → (test ≡ false) × (later ≡ None)
passed true cause later e = cc
passed false cause later e = (refl, e)

-- of two options of which the first found is none both are none
pub neither_found : {C : Type 0} (a b : Option C) → option_or a b ≡ None → (a ≡ None) × (b ≡ None)
neither_found None b e = (refl, e)
neither_found (Some x) b e = cc

-- why what a second name stands for is refused, where its symbol is given by its own name or isn't declared
pub meaning_told : (declared : List Declaration) (name symbol : List ℕ) (own is : Bool) → named_own declared symbol ≡ symbol → is_own_name declared symbol ≡ own → is_symbol_name declared symbol ≡ is
    → meaning_cause declared (second_name declared name symbol) ≡ refused_if (not own) NotDeclared (refused_if (not is) NotASymbol None)
meaning_told declared name symbol own is same known told =
    ap (λ it. meaning_cause declared (Equivalence name it)) same
    ∙ (ap (λ b. refused_if (not b) NotDeclared (refused_if (not (is_symbol_name declared symbol)) NotASymbol None)) known
    ∙ ap (λ b. refused_if (not own) NotDeclared (refused_if (not b) NotASymbol None)) told)

-- a declaration of a name and a string that are new, and of what means a symbol if it is a second name, is refused only where there
-- is no room
declaration_told : (declared : List Declaration) (new : Declaration) → is_declared declared (name_of new) ≡ false → means_no_symbol declared new ≡ false → has_text declared (text_of new) ≡ false
    → declaration_cause declared new ≡ refused_if (nat_le most_declarations (length declared)) Full None
declaration_told declared new absent means no_text =
    let full = refused_if (nat_le most_declarations (length declared)) Full None in
    let texts = refused_if (has_text declared (text_of new)) StringTwice full in
    let meant = ap (λ b. refused_if b NotDeclared (refused_if (means_no_symbol declared new) NotASymbol None)) (means_something declared new means) ∙ ap (λ b. refused_if b NotASymbol None) means in
    ap (λ b. refused_if b DeclaredTwice (option_or (meaning_cause declared new) texts)) absent ∙ (ap (λ cause. option_or cause texts) meant ∙ ap (λ b. refused_if b StringTwice full) no_text)

-- where there is room it isn't refused; where there is none it is, as one too many
pub declaration_fits : (declared : List Declaration) (new : Declaration) → is_declared declared (name_of new) ≡ false → means_no_symbol declared new ≡ false → has_text declared (text_of new) ≡ false
    → length declared < most_declarations → declaration_cause declared new ≡ None
declaration_fits declared new absent means no_text room = declaration_told declared new absent means no_text ∙ ap (λ b. refused_if b Full None) (lt-leb most_declarations (length declared) room)

-- of two tests neither holds where both fail
pub neither_there : (a b : Bool) → true ≡ (not a && not b) → (a ≡ false) × (b ≡ false)
neither_there true b e = cc
neither_there false true e = cc
neither_there false false e = (refl, refl)

-- a test fails where its opposite holds
pub not_there : (a : Bool) → true ≡ not a → a ≡ false
not_there true e = cc
not_there false e = refl

pub declaration_full : (declared : List Declaration) (new : Declaration) → is_declared declared (name_of new) ≡ false → means_no_symbol declared new ≡ false → has_text declared (text_of new) ≡ false
    → most_declarations ≤ length declared → declaration_cause declared new ≡ Some Full
declaration_full declared new absent means no_text full = declaration_told declared new absent means no_text ∙ ap (λ b. refused_if b Full None) (le-leb most_declarations (length declared) full)

-- one of a new name is refused for what it means
pub declaration_means : (declared : List Declaration) (new : Declaration) (cause : LoadCause) → is_declared declared (name_of new) ≡ false → meaning_cause declared new ≡ Some cause
    → declaration_cause declared new ≡ Some cause
declaration_means declared new cause absent means =
    let texts = refused_if (has_text declared (text_of new)) StringTwice (refused_if (nat_le most_declarations (length declared)) Full None) in
    ap (λ b. refused_if b DeclaredTwice (option_or (meaning_cause declared new) texts)) absent ∙ ap (λ cause. option_or cause texts) means

-- with one more declaration
pub sound_declared : (d : BuilderState) (new : Declaration) → IsSoundBuilderState d → IsProperDeclaration new → declaration_cause d.declared new ≡ None → IsSoundBuilderState (with_declaration d new)
sound_declared d new sound proper accepted =
    let absent = passed (is_declared d.declared (name_of new)) _ _ accepted in
    let means = neither_found (meaning_cause d.declared new) _ absent.1 in
    let something = passed (means_nothing d.declared new) NotDeclared _ means.0 in
    let symbol = passed (means_no_symbol d.declared new) NotASymbol None something.1 in
    let no_text = passed (has_text d.declared (text_of new)) StringTwice (refused_if (nat_le most_declarations (length d.declared)) Full None) means.1 in
    let room = passed (nat_le most_declarations (length d.declared)) Full None no_text.1 in
    record {
      built = built_declared (table_of d) new sound.built proper absent.0 symbol.0 no_text.0 (leb-false most_declarations (length d.declared) room.0);
      started = sound.started;
      none_before = sound.none_before;
      some_levels = sound.some_levels;
      numbered = sound.numbered;
    }

-- with one more section
pub sound_section : (d : BuilderState) (name : List ℕ) → IsSoundBuilderState d → IsName name → section_cause d name ≡ None → IsSoundBuilderState (record d { sections = with_section d.sections name })
sound_section d name sound is accepted =
    let absent = passed (has_name (section_names d.sections) name) _ _ accepted in
    let room = passed (nat_le most_sections (length d.sections)) Full None absent.1 in
    record {
      built = built_section (table_of d) name sound.built is absent.0 (leb-false most_sections (length d.sections) room.0);
      started = sound.started;
      none_before = λ none. entries_with_section d.sections name ∙ sound.none_before none;
      some_levels = sound.some_levels;
      numbered = sound.numbered ∙ ap length (sym (entries_with_section d.sections name));
    }

-- with one more entry
pub sound_entry : (d : BuilderState) (number : ℕ) (entry : Entry) → IsSoundBuilderState d → MayBePut d entry → IsSoundBuilderState (with_entry d number entry)
sound_entry d number entry sound may = record {
  built = built_entry (table_of d) entry sound.built may.id may.new may.known may.weighted may.room;
  started = sound.started;
  none_before = λ none. absurd (false≢true (subst IsSome none may.rules));
  some_levels = sound.some_levels;
  numbered =
      let more : joined_entries (with_entry d number entry).sections ≡ joined_entries d.sections ++ entry ∷ [] = entries_with_last d.sections entry sound.built.first_unnamed in
      let same = sound.numbered in
      length-append d.numbers (number ∷ []) ∙ (ap (λ n. n + 1) same ∙ (sym (length-append (joined_entries d.sections) (entry ∷ [])) ∙ ap length (sym more)));
}

-- a weight that is kept is none that names only the entry
kept_is : (id : Id) (weight : Weight) → IsProperWeight weight → IsKeptWeight id (kept_weight id weight)
kept_is id weight proper = by_test (names_only id weight) refl where
  by_test : (b : Bool) → names_only id weight ≡ b → IsKeptWeight id (if b then Own else weight)
  by_test true e = (tt, refl)
  by_test false e = (proper, e)

-- the weights that an entry keeps are such
kept_are : (levels : ℕ) (id : Id) (given : List Weight) → All IsProperWeight given → All (IsKeptWeight id) (kept_weights levels id given)
kept_are levels id given proper =
    All-append (IsKeptWeight id) (map (kept_weight id) given) (replicate (levels - length given) Own)
    (All-map (IsKeptWeight id) (kept_weight id) given (All-weaker IsProperWeight (λ weight. IsKeptWeight id (kept_weight id weight)) (kept_is id) given proper))
    (All-replicate (IsKeptWeight id) (levels - length given) Own (tt, refl))

-- there is one for each level
length-kept : (levels : ℕ) (id : Id) (given : List Weight) → length given ≤ levels → length (kept_weights levels id given) ≡ levels
length-kept levels id given few =
    omega (arith, length-append (map (kept_weight id) given) (replicate (levels - length given) Own), length-map given (kept_weight id), length-replicate (levels - length given) Own)

-- the weights that a proper line gives are proper
given_are : (weights : Option (List Weight)) → AreProperWeights weights → All IsProperWeight (given_weights weights)
given_are None h = All-nil IsProperWeight
given_are (Some weights) h = h.1

-- the entry of a line has the weights that it is to have
pub weights_are : (levels : ℕ) (symbol : Bool) (line : OrderLine) → IsProperLine line → length (given_weights line.weights) ≤ levels
    → HasWeights levels symbol (record { id = line.id; weights = weights_of levels symbol line })
weights_are levels true line proper few = refl
weights_are levels false line proper few =
    (length-kept levels line.id (given_weights line.weights) few, kept_are levels line.id (given_weights line.weights) (given_are line.weights proper.1))

-- what is not false is true
pub not_false : (b : Bool) → not b ≡ false → b ≡ true
not_false true e = refl
not_false false e = cc

-- an order line stays proper by its own name
pub proper_own : (d : BuilderState) (line : OrderLine) → IsSoundBuilderState d → IsProperLine line → IsProperLine (own_order d.declared line)
proper_own d line sound proper = (own_id_proper d.declared line.id sound.built.meant sound.built.distinct_names sound.built.names proper.0, proper.1)

-- with the weights of all entries by own names
pub sound_own : (d : BuilderState) → IsSoundBuilderState d → IsSoundBuilderState (with_own_weights d)
sound_own d sound = record {
  built = own_built (table_of d) sound.built;
  started = sound.started;
  none_before = λ none. own_joined d.declared d.sections ∙ ap (map (own_entry d.declared)) (sound.none_before none);
  some_levels = sound.some_levels;
  numbered = sound.numbered ∙ sym (ap length (own_joined d.declared d.sections) ∙ length-map (joined_entries d.sections) (own_entry d.declared));
}

-- the entry of a line that is accepted may be put behind all others
pub may_be_put : (d : BuilderState) (line : OrderLine) → IsSoundBuilderState d → IsProperLine line → order_cause d line ≡ None → MayBePut d (entry_of (levels_of d.rules) d.declared line)
may_be_put d line sound proper accepted =
    let full = refused_if (nat_le most_entries (length (joined_entries d.sections))) Full None in
    let few = refused_if (nat_lt (levels_of d.rules) (length (given_weights line.weights))) TooManyWeights full in
    let plain = refused_if (is_symbol d.declared line.id && is_some line.weights) SymbolWithWeights few in
    let fresh = refused_if (is_placed_in d.sections line.id) PlacedTwice plain in
    let in_order = passed (not d.order_open) _ _ accepted in
    let known = passed (not (is_known d.declared line.id)) NotDeclared fresh in_order.1 in
    let new = passed (is_placed_in d.sections line.id) PlacedTwice plain known.1 in
    let weighs = passed (is_symbol d.declared line.id && is_some line.weights) SymbolWithWeights few new.1 in
    let levels = passed (nat_lt (levels_of d.rules) (length (given_weights line.weights))) TooManyWeights full weighs.1 in
    let room = passed (nat_le most_entries (length (joined_entries d.sections))) Full None levels.1 in
    record {
      rules = sound.started (not_false d.order_open in_order.0);
      id = proper.0;
      new = new.0;
      known = not_false (is_known d.declared line.id) known.0;
      weighted = weights_are (levels_of d.rules) (is_symbol d.declared line.id) line proper (ltb-false (levels_of d.rules) (length (given_weights line.weights)) levels.0);
      room = leb-false most_entries (length (joined_entries d.sections)) room.0;
    }
