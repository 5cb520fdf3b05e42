-- What no refusal says of a statement: each test before it fails.
use Rattle.std.proofs.Common.{◌≡◌, ◌≤◌, true, false, ◌&&◌, ◌||◌, not, IsTrue, List, [], ◌∷◌, ◌++◌, length, Option, Some, None, Result, Ok, All, ap, ◌∙◌, refl}
use Rattle.std.specs.Prelude.{is_some, nat_lt}
use Rattle.std.proofs.lemmas.Bool.{ltb-false, or_right}
use Rattle.std.proofs.lemmas.List.Elements.{All-nil, All-cons}
use Rattle.coll_syntax.specs.Identifier.{same_id, has_id}
use Rattle.coll_syntax.specs.declared.identifiers.Id.{Id}
use Rattle.coll_syntax.specs.declared.statements.OrderLine.{OrderLine}
use Rattle.coll_nodes.proofs.EntryLemmas.{turned}
use Rattle.coll_lookups.proofs.Sameness.{same_id_itself}
use Rattle.coll_texts.proofs.SoundLines.{neither_found, passed, not_false}
use Rattle.coll_table.specs.Delta.{unless_refused, or_refused, weights_refusal, weight_id_refusal, weight_ids_refusal, line_refusal, lines_refusal}
use Rattle.coll_nodes.specs.Causes.{refused_if}
use Rattle.coll_nodes.specs.Entries.{given_weights}
use Rattle.coll_nodes.specs.Table.{Collation, is_known, is_placed, is_symbol}
use Rattle.coll_table.specs.declared.refusals.Refusal.{Refusal}
use Rattle.coll_table.specs.declared.refusals.Refusal.TheVariants.{NotDeclared, SymbolWithWeights, TooManyWeights, WeightNotPlaced, TwiceInBlock}

-- a table that results isn't refused
pub unrefused : (refusal : Option Refusal) (table after : Collation) → unless_refused refusal table ≡ Ok after → (refusal ≡ None) × (table ≡ after)
unrefused None table after e = (refl, cc)
unrefused (Some refusal) table after e = cc

-- neither is one behind a refusal
pub or_unrefused : (refusal : Option Refusal) (result : Result Collation Refusal) (after : Collation) → or_refused refusal result ≡ Ok after → (refusal ≡ None) × (result ≡ Ok after)
or_unrefused None result after e = (refl, e)
or_unrefused (Some refusal) result after e = cc

-- a line whose weights aren't refused gives none if it is a collating symbol, and no more than there are levels
pub weights_pass : (table : Collation) (line : OrderLine) → weights_refusal table line None ≡ None → length (given_weights line.weights) ≤ length table.rules
weights_pass table line e =
    let few = refused_if (nat_lt (length table.rules) (length (given_weights line.weights))) TooManyWeights None in
    let plain = passed (is_symbol table.declared line.id && is_some line.weights) SymbolWithWeights few e in
    ltb-false (length table.rules) (length (given_weights line.weights)) (passed (nat_lt (length table.rules) (length (given_weights line.weights))) TooManyWeights None plain.1).0

-- where no line is refused, the first passes, and so do those after it
pub record Passes (table : Collation) (before : List Id) (line : OrderLine) (lines : List OrderLine) : Type 0 where
  pub new : has_id before line.id ≡ false
  pub known : IsTrue (is_known table.declared line.id)
  pub few : length (given_weights line.weights) ≤ length table.rules
  pub later : lines_refusal table (before ++ line.id ∷ []) lines ≡ None

pub passes : (table : Collation) (before : List Id) (line : OrderLine) (lines : List OrderLine) → lines_refusal table before (line ∷ lines) ≡ None → Passes table before line lines
passes table before line lines e =
    let both = neither_found (line_refusal table before line) (lines_refusal table (before ++ line.id ∷ []) lines) e in
    let weights = weights_refusal table line None in
    let known = refused_if (not (is_known table.declared line.id)) NotDeclared weights in
    let new = passed (has_id before line.id) TwiceInBlock known both.0 in
    let named = passed (not (is_known table.declared line.id)) NotDeclared weights new.1 in
    record {
      new = new.0;
      known = not_false (is_known table.declared line.id) named.0;
      few = weights_pass table line named.1;
      later = both.1;
    }

-- an identifier that isn't refused in a weight is placed
placed_weight : (table : Collation) (id : Id) → weight_id_refusal table id ≡ None → IsTrue (is_placed table id)
placed_weight table id e =
    let known = passed (not (is_known table.declared id)) NotDeclared (refused_if (not (is_placed table id)) WeightNotPlaced None) e in
    not_false (is_placed table id) (passed (not (is_placed table id)) WeightNotPlaced None known.1).0

-- so are all of a list
pub placed_ids : (table : Collation) (ids : List Id) → weight_ids_refusal table ids ≡ None → All (λ id. IsTrue (is_placed table id)) ids
placed_ids table [] e = All-nil (λ id. IsTrue (is_placed table id))
placed_ids table (id ∷ ids) e =
    let each = neither_found (weight_id_refusal table id) (weight_ids_refusal table ids) e in
    All-cons (λ id. IsTrue (is_placed table id)) id ids (placed_weight table id each.0) (placed_ids table ids each.1)

-- an identifier is among those, or is the one more
pub has_push : (ids : List Id) (id other : Id) → has_id (ids ++ id ∷ []) other ≡ (same_id other id || has_id ids other)
has_push [] id other = refl
has_push (first ∷ ids) id other = ap (λ b. same_id other first || b) (has_push ids id other) ∙ turned (same_id other first) (same_id other id) _

-- one put at the end is there
pub has_last : (ids : List Id) (id : Id) → has_id (ids ++ id ∷ []) id ≡ true
has_last ids id = has_push ids id id ∙ ap (λ b. b || has_id ids id) (same_id_itself id)

-- one that is there stays there
pub has_still : (ids : List Id) (id other : Id) → has_id ids other ≡ true → has_id (ids ++ id ∷ []) other ≡ true
has_still ids id other here = has_push ids id other ∙ or_right (same_id other id) (has_id ids other) here
