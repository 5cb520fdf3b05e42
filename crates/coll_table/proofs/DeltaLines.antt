-- The lines of a block, judged one after another, and what that says of the whole block.
use Rattle.std.proofs.Common.{◌≡◌, ℕ, suc, ◌+◌, ◌<◌, ◌≤◌, true, false, ◌||◌, not, Option, cond, List, [], ◌∷◌, ◌++◌, Some, None, IsTrue, length, get_or, take, drop, sym, ap, ◌∙◌, arith, add-one}
use Rattle.std.specs.Option.{option_or}
use Rattle.std.proofs.lemmas.Bool.{or_right}
use Rattle.std.proofs.lemmas.List.Elements.{All-nil, All-cons}
use Rattle.std.proofs.lemmas.List.{map-append, take_more, length-take}
use Rattle.std.proofs.lemmas.List.Filters.{length-filter_more}
use Rattle.std.proofs.lemmas.List.Sums.{length-filter, count_by-le-length}
use Rattle.std.proofs.Math.Seq.{drop-cons}
use Rattle.coll_syntax.specs.Identifier.{same_id, has_id}
use Rattle.coll_syntax.specs.declared.identifiers.Id.{Id}
use Rattle.coll_syntax.specs.declared.statements.OrderLine.{OrderLine}
use Rattle.coll_lookups.proofs.Sameness.{same_id_itself}
use Rattle.coll_table.proofs.DeltaRefusals.{has_push, passes}
use Rattle.coll_table.specs.Delta.{line_refusal, lines_refusal, weights_refusal}
use Rattle.coll_nodes.specs.Causes.{refused_if}
use Rattle.coll_table.specs.Judging.{HaveSame, MayNameOwn, entries_added, id_refusal, line_ids}
use Rattle.coll_lookups.specs.IdSets.{AddsId}
use Rattle.coll_nodes.specs.Table.{Collation, is_known, is_placed}
use Rattle.coll_table.specs.declared.refusals.Refusal.{Refusal}
use Rattle.coll_table.specs.declared.refusals.Refusal.TheVariants.{NotDeclared, TwiceInBlock, WeightNotPlaced}

-- the identifiers of the target and of the lines before a place
abbrev pub before_line : Id → List OrderLine → ℕ → List Id
before_line target lines i = target ∷ line_ids (take i lines)

-- why a line is refused whose identifier stands in no line before it
abbrev pub new_refusal : Collation → OrderLine → Option Refusal
new_refusal table line = refused_if (not (is_known table.declared line.id)) NotDeclared (weights_refusal table line None)

-- the lines before a place have been judged: their identifiers and the target's are kept
pub record Judging (table : Collation) (target : Id) (lines : List OrderLine) (i : ℕ) (ids : List Id) : Type 0 where
  pub members : HaveSame ids (before_line target lines i)
  pub goes_on : lines_refusal table (target ∷ []) lines ≡ lines_refusal table (before_line target lines i) (drop i lines)

module _ (table : Collation) (target : Id) (lines : List OrderLine) (i : ℕ) (line : OrderLine) (below : i < length lines) (at : line ≡ get_or lines i line) where
  module _ (ids : List Id) (h : Judging table target lines i ids) where
    -- one line further there is one identifier more
    before_more : before_line target lines (i + 1) ≡ before_line target lines i ++ line.id ∷ []
    before_more =
        ap (λ (ls : List OrderLine). target ∷ line_ids ls) (take_more lines i line below)
        ∙ (ap (λ ids. target ∷ ids) (map-append (λ (l : OrderLine). l.id) (take i lines) (get_or lines i line ∷ []))
        ∙ ap (λ (l : OrderLine). before_line target lines i ++ l.id ∷ []) (sym at))

    -- the lines from a place on are the one there and those after it
    rest_more : drop i lines ≡ line ∷ drop (i + 1) lines
    rest_more = drop-cons lines i line below ∙ (ap (λ (l : OrderLine). l ∷ drop (suc i) lines) (sym at) ∙ ap (λ n. line ∷ drop n lines) (sym (add-one i)))

    -- so the first refusal is that of the line, or of one after it
    one_judged : lines_refusal table (target ∷ []) lines ≡ option_or (line_refusal table ids line) (lines_refusal table (before_line target lines (i + 1)) (drop (i + 1) lines))
    one_judged =
        h.goes_on
        ∙ (ap (lines_refusal table (before_line target lines i)) rest_more
        ∙ (ap (λ b. option_or (refused_if b TwiceInBlock (refused_if (not (is_known table.declared line.id)) NotDeclared (weights_refusal table line None)))
        (lines_refusal table (before_line target lines i ++ line.id ∷ []) (drop (i + 1) lines))) (sym (h.members line.id))
        ∙ ap (λ before. option_or (line_refusal table ids line) (lines_refusal table before (drop (i + 1) lines))) (sym before_more)))

    -- one that stands there twice is the first that is refused
    pub judging_twice : has_id ids line.id ≡ true → lines_refusal table (target ∷ []) lines ≡ Some TwiceInBlock
    judging_twice there =
        one_judged
        ∙ ap (λ b. option_or (refused_if b TwiceInBlock (new_refusal table line)) (lines_refusal table (before_line target lines (i + 1)) (drop (i + 1) lines))) there

    -- so is one that is refused for what it is
    new_judged : has_id ids line.id ≡ false → lines_refusal table (target ∷ []) lines
        ≡ option_or (new_refusal table line) (lines_refusal table (before_line target lines (i + 1)) (drop (i + 1) lines))
    new_judged free =
        one_judged
        ∙ ap (λ b. option_or (refused_if b TwiceInBlock (new_refusal table line)) (lines_refusal table (before_line target lines (i + 1)) (drop (i + 1) lines))) free

    pub judging_refused : (refusal : Refusal) → has_id ids line.id ≡ false → new_refusal table line ≡ Some refusal → lines_refusal table (target ∷ []) lines ≡ Some refusal
    judging_refused refusal free refused = new_judged free ∙ ap (λ r. option_or r (lines_refusal table (before_line target lines (i + 1)) (drop (i + 1) lines))) refused

    -- one that passes is kept
    pub judging_more : (after : List Id) → has_id ids line.id ≡ false → new_refusal table line ≡ None → AddsId ids after line.id → Judging table target lines (i + 1) after
    judging_more after free passes adds = record {
      members = λ id. adds id ∙ (ap (λ b. same_id id line.id || b) (h.members id) ∙ (sym (has_push (before_line target lines i) line.id id) ∙ ap (λ ids. has_id ids id) (sym before_more)));
      goes_on = new_judged free ∙ ap (λ r. option_or r (lines_refusal table (before_line target lines (i + 1)) (drop (i + 1) lines))) passes;
    }

module _ (table : Collation) (lines : List OrderLine) (i : ℕ) (line : OrderLine) (below : i < length lines) (at : line ≡ get_or lines i line) where
  -- one line further one more is counted, if it adds an entry
  pub counted_more : (added count : ℕ) → added ≡ entries_added table (take i lines) → count ≡ added + cond (not (is_placed table line.id)) 1 0 → count ≡ entries_added table (take (i + 1) lines)
  counted_more added count counted counts =
      counts ∙ (ap (λ n. n + cond (not (is_placed table line.id)) 1 0) counted
      ∙ (ap (λ (l : OrderLine). entries_added table (take i lines) + cond (not (is_placed table l.id)) 1 0) at
      ∙ sym (length-filter_more (λ (l : OrderLine). not (is_placed table l.id)) lines i line below)))

  -- fewer are counted than there are lines
  pub counted_few : (added : ℕ) → added ≡ entries_added table (take i lines) → added < length lines
  counted_few added counted =
      let few = count_by-le-length (λ (l : OrderLine). not (is_placed table l.id)) (take i lines) in
      let same = length-filter (λ (l : OrderLine). not (is_placed table l.id)) (take i lines) in
      let taken = length-take i lines in
      omega (arith, few, same, taken, counted, below)

-- no more are counted than there are lines
pub counted_all : (table : Collation) (lines : List OrderLine) → entries_added table lines ≤ length lines
counted_all table lines =
    let few = count_by-le-length (λ (l : OrderLine). not (is_placed table l.id)) lines in
    let same = length-filter (λ (l : OrderLine). not (is_placed table l.id)) lines in
    omega (arith, few, same)

-- the identifier of a line that passed may stand in a weight, since it is declared, and has a line

named_own : (table : Collation) (more : List Id) (id : Id) → IsTrue (is_known table.declared id) → has_id more id ≡ true → id_refusal table more id ≡ None
named_own table more id known there =
    ap (λ b. refused_if (not b) NotDeclared (refused_if (not (is_placed table id || has_id more id)) WeightNotPlaced None)) known
    ∙ ap (λ b. refused_if (not b) WeightNotPlaced None) (or_right (is_placed table id) (has_id more id) there)

each_named : (table : Collation) (more before : List Id) (lines : List OrderLine) → lines_refusal table before lines ≡ None
    → ((id : Id) → has_id (line_ids lines) id ≡ true → has_id more id ≡ true) → MayNameOwn table more lines
each_named table more before [] e within = All-nil (λ (line : OrderLine). id_refusal table more line.id ≡ None)
each_named table more before (line ∷ lines) e within =
    let first = passes table before line lines e in
    let here : has_id (line_ids (line ∷ lines)) line.id ≡ true = ap (λ b. b || has_id (line_ids lines) line.id) (same_id_itself line.id) in
    All-cons (λ (l : OrderLine). id_refusal table more l.id ≡ None) line lines (named_own table more line.id first.known (within line.id here))
    (each_named table more (before ++ line.id ∷ []) lines first.later (λ id there. within id (or_right (same_id id line.id) (has_id (line_ids lines) id) there)))

pub may_name_own : (table : Collation) (target : Id) (lines : List OrderLine) (ids : List Id) → lines_refusal table (target ∷ []) lines ≡ None → HaveSame ids (target ∷ line_ids lines)
    → MayNameOwn table ids lines
may_name_own table target lines ids none same =
    each_named table ids (target ∷ []) lines none (λ id there. same id ∙ or_right (same_id id target) (has_id (line_ids lines) id) there)
