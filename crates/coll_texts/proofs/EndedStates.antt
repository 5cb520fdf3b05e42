-- Where a category ends without a fault its table is well formed.
use Rattle.std.proofs.Common.{◌≡◌, ℕ, ◌≤◌, true, false, not, IsTrue, List, [], ◌∷◌, length, Option, Some, None, sym, subst, ◌∙◌, refl, arith}
use Rattle.std.specs.Prelude.{All, is_none}
use Rattle.std.specs.Option.{option_or, option_map}
use Rattle.std.proofs.lemmas.Bool.{false≢true}
use Rattle.std.proofs.lemmas.List.Elements.{All-nil, All-cons}
use Rattle.coll_syntax.specs.declared.identifiers.Id.{Id}
use Rattle.coll_syntax.specs.declared.lines.TableLine.{TableLine}
use Rattle.coll_syntax.specs.declared.lines.TableLine.TheVariants as line
use Rattle.coll_syntax.specs.declared.rules.Rule.{Rule}
use Rattle.coll_texts.proofs.SoundLines.{passed, not_false, neither_found, sound_own}
use Rattle.coll_nodes.specs.Causes.{refused_if}
use Rattle.coll_texts.specs.BuilderStates.{BuilderState, Numbered, table_of, with_own_weights, cause_after, weight_cause, ids_cause}
use Rattle.coll_texts.specs.BuilderStates.{at_line, entries_fault, weights_fault, fault_at_end, line_fault, is_end, given_rules}
use Rattle.coll_nodes.specs.Entries.{ids_named}
use Rattle.coll_texts.specs.Loading.{state_with}
use Rattle.coll_texts.specs.SoundStates.{IsSoundBuilderState}
use Rattle.coll_nodes.specs.Table.{Section, is_known, is_placed_in, joined_entries}
use Rattle.coll_nodes.specs.WellFormed.{HasPlacedWeights, IsWellFormed}
use Rattle.coll_nodes.specs.declared.declarations.Declaration.{Declaration}
use Rattle.coll_nodes.specs.declared.entries.Entry.{Entry}
use Rattle.coll_texts.specs.declared.load_faults.LoadCause.TheVariants.{NoRules, NotDeclared, WeightNotPlaced, OutsideOrder}

-- what a function makes of an option is none where the option is
unmapped : {X Y : Type 0} (f : X → Y) (o : Option X) → option_map f o ≡ None → o ≡ None
unmapped f None e = refl
unmapped f (Some x) e = cc

-- an identifier in a weight that isn't refused is placed
placed_weight : (declared : List Declaration) (sections : List Section) (id : Id) → weight_cause declared sections id ≡ None → IsTrue (is_placed_in sections id)
placed_weight declared sections id e =
    let known = passed (not (is_known declared id)) NotDeclared (refused_if (not (is_placed_in sections id)) WeightNotPlaced None) e in
    not_false (is_placed_in sections id) (passed (not (is_placed_in sections id)) WeightNotPlaced None known.1).0

-- so are all of a list
placed_ids : (declared : List Declaration) (sections : List Section) (ids : List Id) → ids_cause declared sections ids ≡ None → All (λ id. IsTrue (is_placed_in sections id)) ids
placed_ids declared sections [] e = All-nil (λ id. IsTrue (is_placed_in sections id))
placed_ids declared sections (id ∷ ids) e =
    let each = neither_found (weight_cause declared sections id) (ids_cause declared sections ids) e in
    All-cons (λ id. IsTrue (is_placed_in sections id)) id ids (placed_weight declared sections id each.0) (placed_ids declared sections ids each.1)

-- and those of all entries
placed_weights : (d : BuilderState) (numbers : List ℕ) (entries : List Entry) → length numbers ≡ length entries → entries_fault d numbers entries ≡ None → All (HasPlacedWeights (table_of d)) entries
placed_weights d [] [] same e = All-nil (HasPlacedWeights (table_of d))
placed_weights d [] (entry ∷ entries) same e = absurd (omega arith)
placed_weights d (number ∷ numbers) [] same e = All-nil (HasPlacedWeights (table_of d))
placed_weights d (number ∷ numbers) (entry ∷ entries) same e =
    let cause = ids_cause d.declared d.sections (ids_named entry) in
    let each = neither_found (option_map (at_line number) cause) (entries_fault d numbers entries) e in
    All-cons (HasPlacedWeights (table_of d)) entry entries
    (placed_ids d.declared d.sections (ids_named entry) (unmapped (at_line number) cause each.0))
    (placed_weights d numbers entries (omega arith) each.1)

-- rules that there are are one at least
some_rules : (given : Option (List Rule)) → is_none given ≡ false → ((rules : List Rule) → given ≡ Some rules → 1 ≤ length rules) → 1 ≤ length (given_rules given)
some_rules None e h = cc
some_rules (Some rules) e h = h rules refl

-- the table of a category that ends
ended_well : (d : BuilderState) → cause_after d line.EndCategory ≡ None → weights_fault d ≡ None → IsSoundBuilderState d → IsWellFormed (table_of d)
ended_well d accepted placed sound =
    let rules = refused_if (is_none d.rules) NoRules None in
    let closed = passed d.order_open OutsideOrder rules accepted in
    let given = passed (is_none d.rules) NoRules None closed.1 in
    record {
      built = sound.built;
      some_levels = some_rules d.rules given.0 sound.some_levels;
      weights_placed = placed_weights d d.numbers (joined_entries d.sections) sound.numbered placed;
    }

-- where a line that ends the category is no fault, the table that the lines say is well formed, with its weights by own names
pub well_formed_at_end : (d : BuilderState) (n : Numbered) → line_fault d n ≡ None → is_end n.line ≡ true → IsSoundBuilderState d → IsWellFormed (table_of (with_own_weights d))
unfolding line_fault
well_formed_at_end d n e ends sound = by_line n.line e ends where
  by_line : (l : TableLine) → option_or (option_map (at_line n.number) (cause_after d l)) (fault_at_end d l) ≡ None → is_end l ≡ true → IsWellFormed (table_of (with_own_weights d))
  by_line line.EndCategory e ends =
      let both = neither_found (option_map (at_line n.number) (cause_after d line.EndCategory)) (weights_fault (with_own_weights d)) e in
      ended_well (with_own_weights d) (unmapped (at_line n.number) (cause_after d line.EndCategory) both.0) both.1 (sound_own d sound)
  by_line _ e ends = absurd (false≢true ends)

-- a line that ends the category leaves what the lines say, with the weights by own names
pub own_at_end : (d : BuilderState) (number : ℕ) (l : TableLine) → is_end l ≡ true → state_with d number l ≡ with_own_weights d
unfolding state_with
own_at_end d number line.EndCategory e = refl
own_at_end d number _ e = absurd (false≢true e)

-- so what they say after it is well formed, too
pub well_formed_after : (before after : BuilderState) (number : ℕ) (l : TableLine) → is_end l ≡ true → cause_after before l ≡ None → after ≡ state_with before number l → weights_fault after ≡ None
    → IsSoundBuilderState after → IsWellFormed (table_of after)
well_formed_after before after number l ends accepted grown placed sound =
    let same : after ≡ with_own_weights before = grown ∙ own_at_end before number l ends in
    ended_well after (subst (λ d. cause_after d line.EndCategory ≡ None) (sym same) (by_end l ends accepted)) placed sound where
      by_end : (l : TableLine) → is_end l ≡ true → cause_after before l ≡ None → cause_after before line.EndCategory ≡ None
      by_end line.EndCategory ends e = e
      by_end _ ends e = absurd (false≢true ends)
