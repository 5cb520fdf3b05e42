-- Statements by own names: which stay as they are, and that proper ones stay proper.
use Rattle.std.proofs.Common.{◌≡◌, ◌≤◌, false, List, [], ◌∷◌, Option, Some, None, All, sym, ap, subst, refl}
use Rattle.std.specs.Prelude.{option_map}
use Rattle.std.specs.List.{list_any}
use Rattle.std.proofs.lemmas.List.{length-map}
use Rattle.std.proofs.lemmas.List.Elements.{All-nil, All-cons, All-head, All-tail}
use Rattle.coll_lex.specs.Names.{IsName}
use Rattle.coll_syntax.specs.Identifier.{same_name}
use Rattle.coll_syntax.specs.Proper.{AreProperWeights, IsProper, IsProperLine, IsProperWeight}
use Rattle.coll_syntax.specs.declared.statements.OrderLine.{OrderLine}
use Rattle.coll_syntax.specs.declared.statements.Statement.{Statement}
use Rattle.coll_syntax.specs.declared.statements.Statement.TheVariants as statement
use Rattle.coll_syntax.specs.declared.weights.Weight.{Weight}
use Rattle.coll_nodes.specs.OwnNames.{MeanSymbols, own_weight, own_weights}
use Rattle.coll_nodes.specs.Table.{names_of}
use Rattle.coll_nodes.specs.WellFormed.{AreDistinct}
use Rattle.coll_nodes.specs.declared.declarations.Declaration.{Declaration}
use Rattle.coll_nodes.proofs.OwnNames.{named_own_name, own_id_proper, own_weight_proper, not_second_own, own_id_same, own_weights_same}
use Rattle.coll_lookups.proofs.Sameness.{neither}
use Rattle.coll_statements.specs.OwnStatements.{by_own_names, line_uses_second, own_line, own_lines, uses_second}

-- What uses no second name.

-- weights that are given without a second name stay
given_same : (declared : List Declaration) (line : OrderLine) → line_uses_second declared line ≡ false → option_map (own_weights declared) line.weights ≡ line.weights
given_same declared line absent = by_given line.weights refl where
  by_given : (given : Option (List Weight)) → line.weights ≡ given → option_map (own_weights declared) given ≡ given
  by_given None is = refl
  by_given (Some weights) is = ap
      Some (own_weights_same declared weights (neither _ _ (subst (λ (w : Option (List Weight)). line_uses_second declared (record line { weights = w }) ≡ false) is absent)).1)

-- so does an order line
pub line_same : (declared : List Declaration) (line : OrderLine) → line_uses_second declared line ≡ false → own_line declared line ≡ line
line_same declared line absent = λ i. record { id = own_id_same declared line.id (neither _ _ absent).0 i; weights = given_same declared line absent i }

-- so do order lines
lines_same : (declared : List Declaration) (lines : List OrderLine) → list_any (line_uses_second declared) lines ≡ false → own_lines declared lines ≡ lines
lines_same declared [] absent = refl
lines_same declared (line ∷ lines) absent = let h = neither _ _ absent in λ i. line_same declared line h.0 i ∷ lines_same declared lines h.1 i

-- so does a statement
pub statement_same : (declared : List Declaration) (s : Statement) → uses_second declared s ≡ false → by_own_names declared s ≡ s
statement_same declared (statement.Symbol name) absent = refl
statement_same declared (statement.Element name text) absent = refl
statement_same declared (statement.Equivalence name symbol) absent = ap (statement.Equivalence name) (not_second_own declared symbol absent)
statement_same declared (statement.Block target lines) absent = let h = neither _ _ absent in λ i. statement.Block (own_id_same declared target h.0 i) (lines_same declared lines h.1 i)
statement_same declared (statement.SectionAfter name after) absent = refl
statement_same declared (statement.Reweight line) absent = ap statement.Reweight (line_same declared line absent)

-- What is proper stays so.

module _ (declared : List Declaration) (names : All IsName (names_of declared)) (meant : MeanSymbols declared) (distinct : AreDistinct same_name (names_of declared)) where
  -- weights stay proper
  own_proper_weights : (weights : List Weight) → All IsProperWeight weights → All IsProperWeight (own_weights declared weights)
  own_proper_weights [] proper = All-nil IsProperWeight
  own_proper_weights (weight ∷ weights) proper =
      All-cons IsProperWeight (own_weight declared weight) (own_weights declared weights) (own_weight_proper declared weight meant distinct names (All-head IsProperWeight weight weights proper))
      (own_proper_weights weights (All-tail IsProperWeight weight weights proper))

  -- so do the lines that give them
  own_proper_line : (line : OrderLine) → IsProperLine line → IsProperLine (own_line declared line)
  own_proper_line line proper = (own_id_proper declared line.id meant distinct names proper.0, by_given line.weights proper.1) where
    by_given : (given : Option (List Weight)) → AreProperWeights given → AreProperWeights (option_map (own_weights declared) given)
    by_given None proper = proper
    by_given (Some weights) proper = (subst (λ n. 1 ≤ n) (sym (length-map weights (own_weight declared))) proper.0, own_proper_weights weights proper.1)

  own_proper_lines : (lines : List OrderLine) → All IsProperLine lines → All IsProperLine (own_lines declared lines)
  own_proper_lines [] proper = All-nil IsProperLine
  own_proper_lines (line ∷ lines) proper = All-cons IsProperLine (own_line declared line) (own_lines declared lines) (own_proper_line line (All-head IsProperLine line lines proper))
      (own_proper_lines lines (All-tail IsProperLine line lines proper))

  -- a proper statement stays proper
  pub own_proper : (s : Statement) → IsProper s → IsProper (by_own_names declared s)
  own_proper (statement.Symbol name) proper = proper
  own_proper (statement.Element name text) proper = proper
  own_proper (statement.Equivalence name symbol) proper = (proper.0, named_own_name declared symbol meant distinct names proper.1)
  own_proper (statement.Block target lines) proper =
      (own_id_proper declared target meant distinct names proper.0, subst (λ n. n ≤ 4096) (sym (length-map lines (own_line declared))) proper.1, own_proper_lines lines proper.2)
  own_proper (statement.SectionAfter name after) proper = proper
  own_proper (statement.Reweight line) proper = own_proper_line line proper
