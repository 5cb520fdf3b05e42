-- The lines of a block, looked at one after another, and what that says of all of them.
use Rattle.std.proofs.Common.{◌≡◌, ℕ, zero, suc, ◌+◌, ◌<◌, ◌≤◌, ◌||◌, not, List, [], ◌∷◌, ◌++◌, Option}
use Rattle.std.proofs.Common.{Some, None, length, map, get_or, take, drop, sym, ap, ap₂, ◌∙◌, refl, append_assoc, append-nil, add-one}
use Rattle.std.specs.Option.{option_or}
use Rattle.std.proofs.lemmas.List.{drop_all, map-append, take_all, take_more}
use Rattle.std.proofs.Math.Seq.{drop-cons}
use Rattle.coll_syntax.specs.Identifier.{same_id, has_id}
use Rattle.coll_syntax.specs.declared.identifiers.Id.{Id}
use Rattle.coll_syntax.specs.declared.statements.OrderLine.{OrderLine}
use Rattle.coll_lookups.specs.IdSets.{AddsId}
use Rattle.coll_nodes.specs.Causes.{refused_if}
use Rattle.coll_nodes.specs.OwnNames.{own_id}
use Rattle.coll_nodes.specs.Table.{Collation, is_known, is_placed}
use Rattle.coll_statements.specs.OwnStatements.{own_line, own_lines}
use Rattle.coll_table.specs.Delta.{line_refusal, weights_refusal}
use Rattle.coll_table.specs.Judging.{HaveSame, line_ids}
use Rattle.coll_table.specs.declared.refusals.Refusal.TheVariants.{NotDeclared, TwiceInBlock, WeightNotPlaced}
use Rattle.coll_table.proofs.DeltaRefusals.{has_push}
use Rattle.coll_advice.specs.Faults.{block_ids, block_line_faults, listed, line_faults}
use Rattle.coll_advice.specs.LineFaults.{about, ids_fault, ids_in, line_fault}
use Rattle.coll_advice.specs.declared.found.Found.{Found}

module _ (table : Collation) where
  -- the own identifiers of lines
  abbrev pub own_ids : List OrderLine → List Id
  own_ids lines = map (λ (line : OrderLine). own_id table.declared line.id) lines

  pub own_ids_are : (lines : List OrderLine) → line_ids (own_lines table.declared lines) ≡ own_ids lines
  own_ids_are [] = refl
  own_ids_are (line ∷ lines) = ap (λ ids. own_id table.declared line.id ∷ ids) (own_ids_are lines)

  -- those of the target and of the lines before a place
  abbrev pub ids_before : Id → List OrderLine → ℕ → List Id
  ids_before target lines i = own_id table.declared target ∷ own_ids (take i lines)

  module _ (target : Id) (lines : List OrderLine) (i : ℕ) (line : OrderLine) (below : i < length lines) (at : line ≡ get_or lines i line) where
    -- one line further there is one more
    ids_more : ids_before target lines (i + 1) ≡ ids_before target lines i ++ own_id table.declared line.id ∷ []
    ids_more =
        ap (λ (ls : List OrderLine). own_id table.declared target ∷ own_ids ls) (take_more lines i line below)
        ∙ (ap (λ ids. own_id table.declared target ∷ ids) (map-append (λ (l : OrderLine). own_id table.declared l.id) (take i lines) (get_or lines i line ∷ []))
        ∙ ap (λ (l : OrderLine). ids_before target lines i ++ own_id table.declared l.id ∷ []) (sym at))

    -- so they are kept, if it is put in
    pub same_more : (ids after : List Id) → HaveSame ids (ids_before target lines i) → AddsId ids after (own_id table.declared line.id) → HaveSame after (ids_before target lines (i + 1))
    same_more ids after same adds id =
        adds id ∙ (ap (λ b. same_id id (own_id table.declared line.id) || b) (same id)
        ∙ (sym (has_push (ids_before target lines i) (own_id table.declared line.id) id) ∙ ap (λ ids. has_id ids id) (sym ids_more)))

    -- the lines from a place on are the one there and those after it
    rest_more : drop i lines ≡ line ∷ drop (i + 1) lines
    rest_more = drop-cons lines i line below ∙ (ap (λ (l : OrderLine). l ∷ drop (suc i) lines) (sym at) ∙ ap (λ n. line ∷ drop n lines) (sym (add-one i)))

    -- what was found, and what is wrong with the lines from a place on, is what is wrong with all
    module _ (all ids : List Id) (same : HaveSame ids (ids_before target lines i)) (found after whole : List Found) where
      -- a line is judged from what is kept as from the lines before it
      judged_alike : line_fault table i (ids_before target lines i) all line ≡ line_fault table i ids all line
      judged_alike = ap (λ b. option_or (about (Some i) line.id (refused_if b TwiceInBlock (refused_if (not (is_known table.declared (own_id table.declared line.id))) NotDeclared
          (weights_refusal table (own_line table.declared line) None)))) (ids_fault table (Some i) all (ids_in line))) (sym (same (own_id table.declared line.id)))

      pub found_more : found ++ line_faults table i (ids_before target lines i) all (drop i lines) ≡ whole → after ≡ found ++ listed (line_fault table i ids all line)
          → after ++ line_faults table (i + 1) (ids_before target lines (i + 1)) all (drop (i + 1) lines) ≡ whole
      found_more goes_on adds =
          ap₂ (λ (front : List Found) (n : ℕ). front ++ line_faults table n (ids_before target lines (i + 1)) all (drop (i + 1) lines)) adds (add-one i)
          ∙ (append_assoc found (listed (line_fault table i ids all line)) (line_faults table (suc i) (ids_before target lines (i + 1)) all (drop (i + 1) lines))
          ∙ (ap₂ (λ (fault : Option Found) (before : List Id). found ++ (listed fault ++ line_faults table (suc i) before all (drop (i + 1) lines))) (sym judged_alike) ids_more
          ∙ (ap (λ (left : List OrderLine). found ++ line_faults table i (ids_before target lines i) all left) (sym rest_more)
          ∙ goes_on)))

  -- identifiers in weights are judged alike where the same ones are placed
  pub ids_alike : (place : Option ℕ) (more others ids : List Id) → HaveSame more others → ids_fault table place more ids ≡ ids_fault table place others ids
  ids_alike place more others [] same = refl
  ids_alike place more others (id ∷ ids) same =
      ap₂ option_or
      (ap (λ b. about place id (refused_if (not (is_known table.declared (own_id table.declared id))) NotDeclared
      (refused_if (not (is_placed table (own_id table.declared id) || b)) WeightNotPlaced None)))
      (same (own_id table.declared id)))
      (ids_alike place more others ids same)

  -- so are lines
  pub lines_alike : (n : ℕ) (before all others : List Id) (lines : List OrderLine) → HaveSame all others → line_faults table n before all lines ≡ line_faults table n before others lines
  lines_alike n before all others [] same = refl
  lines_alike n before all others (line ∷ lines) same =
      ap₂ (λ (fault : Option Found) (later : List Found). listed (option_or (about (Some n) line.id (line_refusal table before (own_line table.declared line))) fault) ++ later)
      (ids_alike (Some n) all others (ids_in line) same)
      (lines_alike (suc n) (before ++ own_id table.declared line.id ∷ []) all others lines same)

  -- behind the last line all identifiers are kept
  pub all_same : (target : Id) (lines : List OrderLine) (i : ℕ) → length lines ≤ i → (ids : List Id) → HaveSame ids (ids_before target lines i) → HaveSame ids (block_ids table target lines)
  all_same target lines i past ids same id =
      same id ∙ ap (λ (ids : List Id). has_id (own_id table.declared target ∷ ids) id) (ap own_ids (take_all i lines past) ∙ sym (own_ids_are lines))

  -- and what is wrong with all lines was found
  pub all_found : (target : Id) (lines : List OrderLine) (i : ℕ) → length lines ≤ i → (before all : List Id) (found first : List Found) → HaveSame all (block_ids table target lines)
      → found ++ line_faults table i before all (drop i lines) ≡ first ++ line_faults table zero (own_id table.declared target ∷ []) all lines
      → found ≡ first ++ block_line_faults table target lines
  all_found target lines i past before all found first same goes_on =
      sym (append-nil found)
      ∙ (ap (λ (left : List OrderLine). found ++ line_faults table i before all left) (sym (drop_all i lines past))
      ∙ (goes_on ∙ ap (λ later. first ++ later) (lines_alike zero (own_id table.declared target ∷ []) all (block_ids table target lines) lines same)))
