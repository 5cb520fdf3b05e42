-- A table that a text is, is well formed: each line that is accepted keeps what a loader stores sound.
use Rattle.std.proofs.Common.{rules, ◌≡◌, if◌then◌else◌, ℕ, ◌≤◌, Bool, true, false, not, List, [], ◌∷◌, length, Option, Some, None, Result, Ok, Err, sym, subst, ◌∙◌, refl, arith}
use Rattle.std.specs.Prelude.{All, IfOk}
use Rattle.std.specs.Option.{option_or, option_map}
use Rattle.std.proofs.lemmas.Bool.{false≢true}
use Rattle.std.proofs.lemmas.List.Elements.{All-nil}
use Rattle.coll_lex.specs.LogicalLines.{LexerState, fed, outside}
use Rattle.coll_lex.specs.Names.{AreTokens, HoldsText}
use Rattle.coll_devices.specs.PhysicalLines.{lines_of}
use Rattle.coll_lex.specs.declared.faults.LexFault.{LexFault}
use Rattle.coll_lex.specs.declared.tokens.Line.{Line}
use Rattle.coll_lex.specs.declared.tokens.Token.{Token}
use Rattle.coll_lex.proofs.HeldText.{first-text, fed-text, outside-text}
use Rattle.coll_lex.proofs.NameLemmas.{fed-tokens}
use Rattle.coll_syntax.specs.Proper.{IsNameIfGiven, AreRulesIfGiven, IsProperTableLine}
use Rattle.coll_syntax.specs.TableLines.{table_line}
use Rattle.coll_syntax.specs.declared.lines.TableLine.{TableLine}
use Rattle.coll_syntax.specs.declared.lines.TableLine.TheVariants as line
use Rattle.coll_syntax.specs.declared.rules.Rule.{Rule}
use Rattle.coll_syntax.specs.declared.syntax_faults.SyntaxFault.{SyntaxFault}
use Rattle.coll_syntax.proofs.ProperLines.{table_row-proper}
use Rattle.coll_texts.specs.BuilderStates.{Numbered, BuilderState, state_of, table_of, second_name, own_order, rules_given, rules_differ}
use Rattle.coll_texts.specs.BuilderStates.{section_cause, section_cause_if, cause_after, at_line, fault_at_end, line_fault}
use Rattle.coll_texts.specs.Loading.{LoaderState, first_loader, rules_after, with_section_if, state_with, by_outside, by_fed, by_read}
use Rattle.coll_texts.specs.Loading.{taken_line, by_where, unless_faulty, loaded_line, early_end, loaded, past_line, answer_to}
use Rattle.coll_texts.specs.Reading.{TextsAreWellFormed}
use Rattle.coll_texts.specs.SoundStates.{IsSoundBuilderState}
use Rattle.coll_nodes.specs.Table.{Collation, entries_of}
use Rattle.coll_nodes.specs.WellFormed.{IsBuilt, IsWellFormed, IsWeighted}
use Rattle.coll_nodes.specs.declared.declarations.Declaration.TheVariants as declaration
use Rattle.coll_texts.specs.declared.load_faults.LoadCause.{LoadCause}
use Rattle.coll_texts.specs.declared.load_faults.LoadCause.TheVariants.{RulesDiffer, OutsideOrder}
use Rattle.coll_texts.specs.declared.load_faults.LoadFault.{LoadFault}
use Rattle.coll_nodes.proofs.OwnNames.{own_id_proper}
use Rattle.coll_texts.proofs.EndedStates.{own_at_end, well_formed_at_end}
use Rattle.coll_texts.proofs.SoundLines.{passed, sound_declared, sound_own, sound_section, sound_entry, may_be_put}
use Rattle.coll_table.proofs.LinesRead.{lines_read}

-- Each accepted line keeps what the lines say together sound.

-- an order is opened, with these rules where there are none yet
opened : (d : BuilderState) (was given : Option (List Rule)) → d.rules ≡ was → IsSoundBuilderState d → AreRulesIfGiven given
    → IsSoundBuilderState (record d { order_open = true; rules = rules_after was given })
opened d (Some rules) given e sound proper = record {
  built = subst (λ r. IsBuilt (table_of (record d { rules = r }))) e sound.built;
  started = λ n. refl;
  none_before = λ n. cc;
  some_levels = λ some f. sound.some_levels some (e ∙ f);
  numbered = sound.numbered;
}
opened d None given e sound proper =
    let none : entries_of (table_of d) ≡ [] = sound.none_before e in
    let few = few_rules given proper in
    record {
      built = record {
        few_levels = few.1;
        names = sound.built.names;
        texts = sound.built.texts;
        distinct_names = sound.built.distinct_names;
        distinct_texts = sound.built.distinct_texts;
        meant = sound.built.meant;
        first_unnamed = sound.built.first_unnamed;
        ids = sound.built.ids;
        distinct_sections = sound.built.distinct_sections;
        distinct_entries = sound.built.distinct_entries;
        known = sound.built.known;
        weighted = subst (λ entries. All (IsWeighted (length (rules_given given)) d.declared) entries) (sym none) (All-nil (IsWeighted (length (rules_given given)) d.declared));
        few_entries = sound.built.few_entries;
        few_declarations = sound.built.few_declarations;
        few_sections = sound.built.few_sections;
      };
      started = λ n. refl;
      none_before = λ n. cc;
      some_levels = λ some f. subst (λ (r : List Rule). 1 ≤ length r) (given_are some f) few.0;
      numbered = sound.numbered;
    } where
      few_rules : (given : Option (List Rule)) → AreRulesIfGiven given → (1 ≤ length (rules_given given)) × (length (rules_given given) ≤ 4)
      few_rules None proper = (omega arith, omega arith)
      few_rules (Some rules) proper = proper

      given_are : (some : List Rule) → Some (rules_given given) ≡ Some some → rules_given given ≡ some
      given_are some f = cc

-- a section begins, if one does
begun : (d : BuilderState) (name : Option (List ℕ)) → IsSoundBuilderState d → IsNameIfGiven name → section_cause_if d name ≡ None
    → IsSoundBuilderState (record d { sections = with_section_if d.sections name })
begun d None sound is e = sound
begun d (Some name) sound is e = sound_section d name sound is e

-- a line that is accepted
sound_line : (d : BuilderState) (number : ℕ) (l : TableLine) → IsSoundBuilderState d → IsProperTableLine l → cause_after d l ≡ None → IsSoundBuilderState (state_with d number l)
unfolding state_with
sound_line d number (line.Symbol name) sound proper e = sound_declared d (declaration.Symbol name) sound proper e
sound_line d number (line.Element name text) sound proper e = sound_declared d (declaration.Element name text) sound proper e
sound_line d number (line.Equivalence name symbol) sound proper e = sound_declared d (second_name d.declared name symbol) sound proper.0 e
sound_line d number (line.OrderStart section rules) sound proper e =
    let begins = begun d section sound proper.0 (passed (rules_differ d.rules rules) RulesDiffer (section_cause_if d section) e).1 in
    opened (record d { sections = with_section_if d.sections section }) d.rules rules refl begins proper.1
sound_line d number line.OrderEnd sound proper e =
    record { built = sound.built; started = λ n. absurd (false≢true n); none_before = sound.none_before; some_levels = sound.some_levels; numbered = sound.numbered }
sound_line d number (line.Section name) sound proper e = sound_section d name sound proper (passed (not d.order_open) OutsideOrder (section_cause d name) e).1
sound_line d number line.Script sound proper e = sound
sound_line d number line.EndCategory sound proper e = sound_own d sound
sound_line d number (line.Order order) sound proper e =
    sound_entry d number _ sound (may_be_put d (own_order d.declared order) sound (own_id_proper d.declared order.id sound.built.meant sound.built.distinct_names sound.built.names proper.0, proper.1)
    e)

-- a line that isn't at fault isn't refused by those before it
not_refused : (number : ℕ) (cause : Option LoadCause) (later : Option LoadFault) → option_or (option_map (at_line number) cause) later ≡ None → cause ≡ None
not_refused number None later e = refl
not_refused number (Some cause) later e = cc

-- What a loader stores stays sound.

record IsSoundState (s : LoaderState) : Type 0 where
  text : HoldsText s.lexer
  builder : IsSoundBuilderState s.builder
  ended : s.ended ≡ true → IsWellFormed (table_of s.builder)

abbrev StaysSound : Result LoaderState LoadFault → Type 0
StaysSound r = IfOk r IsSoundState

-- the tokens of a line make it a proper one
proper_tokens : (tokens : List Token) (said : Result TableLine SyntaxFault) → AreTokens tokens → table_line tokens ≡ said → IfOk said IsProperTableLine
unfolding table_line
proper_tokens [] said are e = absurd (omega (arith, are.some))
proper_tokens (first ∷ rest) (Ok read) are e = table_row-proper (first ∷ rest) first rest (Ok read) are refl e
proper_tokens (first ∷ rest) (Err fault) are e = tt

module _ (s : LoaderState) (sound : IsSoundState s) where
  taken_sound : (n : Numbered) (fault : Option LoadFault) → IsProperTableLine n.line → line_fault s.builder n ≡ fault → StaysSound (taken_line s n fault)
  unfolding line_fault
  taken_sound n (Some fault) proper e = tt
  taken_sound n None proper e =
      let after = sound_line s.builder n.number n.line sound.builder proper (not_refused n.number (cause_after s.builder n.line) (fault_at_end s.builder n.line) e) in
      record {
        text = sound.text;
        builder = after;
        ended = λ ends. subst (λ d. IsWellFormed (table_of d)) (sym (own_at_end s.builder n.number n.line ends)) (well_formed_at_end s.builder n e ends sound.builder);
      }

  read_sound : (number : ℕ) (said : Result TableLine SyntaxFault) → IfOk said IsProperTableLine → StaysSound (by_read s number said)
  read_sound number (Ok read) proper = taken_sound (record { number = number; line = read }) (line_fault s.builder (record { number = number; line = read })) proper refl
  read_sound number (Err fault) proper = tt

-- another place of the lexer, with text in its open line, changes nothing that is said
elsewhere : (s : LoaderState) (after : LexerState) → IsSoundState s → HoldsText after → IsSoundState (record s { lexer = after })
elsewhere s after sound text = record { text = text; builder = sound.builder; ended = sound.ended }

module _ (s : LoaderState) (physical : List ℕ) (sound : IsSoundState s) where
  fed_sound : (r : Result (Option Line × LexerState) LexFault) → fed s.lexer physical ≡ r → StaysSound (by_fed s r)
  fed_sound (Ok (None, after)) e = elsewhere s after sound (fed-text s.lexer after physical None sound.text e)
  fed_sound (Ok (Some given, after)) e =
      read_sound (record s { lexer = after }) (elsewhere s after sound (fed-text s.lexer after physical (Some given) sound.text e)) given.number (table_line given.tokens)
      (proper_tokens given.tokens (table_line given.tokens) (fed-tokens s.lexer after physical given sound.text e) refl)
  fed_sound (Err fault) e = tt

  outside_sound : (r : Result (Bool × LexerState) LexFault) → outside s.lexer physical ≡ r → StaysSound (by_outside s r)
  outside_sound (Ok (begins, after)) e = record { text = outside-text s.lexer after physical begins e; builder = sound.builder; ended = sound.ended }
  outside_sound (Err fault) e = tt

  where_sound : (ended begun : Bool) → StaysSound (if ended then Ok s else (if begun then by_fed s (fed s.lexer physical) else by_outside s (outside s.lexer physical)))
  where_sound true begun = sound
  where_sound false true = fed_sound (fed s.lexer physical) refl
  where_sound false false = outside_sound (outside s.lexer physical) refl

  unless_sound : (fault : Option LoadFault) → StaysSound (unless_faulty fault (by_where s physical))
  unless_sound (Some fault) = tt
  unless_sound None = where_sound s.ended s.begun

  line_sound : StaysSound (loaded_line s physical)
  unfolding loaded_line
  line_sound = unless_sound s.fault

-- the table of a loader whose category has ended
table_sound : (s : LoaderState) (fault : Option LoadFault) (ended : Bool) → IsSoundState s → s.ended ≡ ended
    → IfOk (unless_faulty fault (if ended then Ok (table_of s.builder) else Err (early_end s s.lexer.line))) IsWellFormed
table_sound s (Some fault) ended sound e = tt
table_sound s None true sound e = sound.ended e
table_sound s None false sound e = tt

past_sound : (r : Result LoaderState LoadFault) (lines : List (List ℕ)) → StaysSound r → ((after : LoaderState) → IsSoundState after → IfOk (answer_to after lines) IsWellFormed)
    → IfOk (past_line r (λ after. answer_to after lines)) IsWellFormed
past_sound (Ok after) lines sound later = later after sound
past_sound (Err fault) lines sound later = tt

answer_sound : (lines : List (List ℕ)) (s : LoaderState) → IsSoundState s → IfOk (answer_to s lines) IsWellFormed
unfolding answer_to loaded
answer_sound [] s sound = table_sound s s.fault s.ended sound refl
answer_sound (first ∷ lines) s sound = past_sound (loaded_line s first) lines (line_sound s first sound) (λ after now. answer_sound lines after now)

-- what the lines of no text say is sound
first_sound : IsSoundBuilderState (state_of [])
unfolding state_of
first_sound = search rules

-- whatever text is a table, that table is well formed
pub texts_well_formed : TextsAreWellFormed
texts_well_formed text table e = subst (λ (r : Result Collation LoadFault). IfOk r IsWellFormed) (lines_read text ∙ e)
    (answer_sound (lines_of text) first_loader (record { text = first-text; builder = first_sound; ended = λ n. absurd (false≢true n) }))
