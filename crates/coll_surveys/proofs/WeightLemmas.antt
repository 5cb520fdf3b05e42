-- Why a name may not stand in a weight is told by the entry of what it stands for.
use Rattle.std.proofs.Common.{◌≡◌, ℕ, true, false, not, is_some, List, Option, Some, None, Bor, sym, ap, ◌∙◌, refl}
use Rattle.std.specs.Option.{option_and_then, option_copied, option_map}
use Rattle.std.specs.Prelude.{chars, unwrap_or}
use Rattle.coll_syntax.specs.Identifier.{same_name}
use Rattle.coll_syntax.specs.declared.identifiers.Id.TheVariants.{Named}
use Rattle.coll_nodes.specs.Causes.{refused_if}
use Rattle.coll_nodes.specs.OwnNames.{declaration_of, named_own, own_name, stands_for, MeanSymbols}
use Rattle.coll_nodes.specs.Placement.{entry_at}
use Rattle.coll_nodes.specs.Table.{Collation, entries_of, is_declared, is_own_name, is_placed, names_of}
use Rattle.coll_nodes.specs.WellFormed.{AreDistinct}
use Rattle.coll_nodes.specs.declared.declarations.Declaration.{Declaration}
use Rattle.coll_nodes.specs.declared.entries.Entry.{Entry}
use Rattle.coll_nodes.proofs.OwnNames.{declaration_is, named_own_known}
use Rattle.coll_texts.specs.declared.load_faults.LoadCause.TheVariants.{NotDeclared, WeightNotPlaced}
use Rattle.coll_advice.proofs.LookUps.{not_own, placed_if_lent}
use Rattle.coll_surveys.specs.TableWeights.{named_cause}

-- a declaration stands for something
stands : (found : Option Declaration) → is_some (option_map stands_for found) ≡ is_some found
stands None = refl
stands (Some found) = refl

-- an own name that is lent is there
pub lent_own : (lent : Option (Bor (List ℕ))) → is_some (option_map (λ (own : Bor (List ℕ)). chars own.now) lent) ≡ is_some lent
lent_own None = refl
lent_own (Some x) = refl

module _ (table : Collation) (name : List ℕ) (meant : MeanSymbols table.declared) (distinct : AreDistinct same_name (names_of table.declared)) where
  -- a name with an own name: that is known, and its entry tells whether it is placed
  own_cause : (own : List ℕ) → own_name table.declared name ≡ Some own → named_cause table (Named name) ≡ refused_if (not (is_placed table (Named own))) WeightNotPlaced None
  own_cause own found =
      let is : named_own table.declared name ≡ own = ap (λ o. unwrap_or o name) found in
      let there : is_declared table.declared name ≡ true = sym (declaration_is table.declared name) ∙ (sym (stands (declaration_of table.declared name)) ∙ ap is_some found) in
      ap (λ known. refused_if (not known) NotDeclared (refused_if (not (is_placed table (Named (named_own table.declared name)))) WeightNotPlaced None))
      (named_own_known table.declared name meant distinct there)
      ∙ ap (λ n. refused_if (not (is_placed table (Named n))) WeightNotPlaced None) is

  -- a name that isn't declared
  absent_cause : own_name table.declared name ≡ None → named_cause table (Named name) ≡ Some NotDeclared
  absent_cause absent =
      ap (λ n. refused_if (not (is_own_name table.declared n)) NotDeclared (refused_if (not (is_placed table (Named n))) WeightNotPlaced None)) (ap (λ o. unwrap_or o name) absent)
      ∙ ap (λ known. refused_if (not known) NotDeclared (refused_if (not (is_placed table (Named name))) WeightNotPlaced None)) (sym (not_own table.declared name distinct absent))

  -- what is lent is the entry of its own name
  pub entry_cause : (lent : Option (Bor Entry)) → option_copied lent ≡ option_and_then (λ own. entry_at (entries_of table) (Named own)) (own_name table.declared name)
      → is_some lent ≡ true → None ≡ named_cause table (Named name)
  entry_cause lent found some = by (own_name table.declared name) refl where
    by : (r : Option (List ℕ)) → own_name table.declared name ≡ r → None ≡ named_cause table (Named name)
    by None is = none_lent lent (found ∙ ap (option_and_then (λ own. entry_at (entries_of table) (Named own))) is) some where
      none_lent : (lent : Option (Bor Entry)) → option_copied lent ≡ None → is_some lent ≡ true → None ≡ named_cause table (Named name)
      none_lent None e some = cc
      none_lent (Some x) e some = cc
    by (Some own) is =
        sym (own_cause own is ∙ ap (λ placed. refused_if (not placed) WeightNotPlaced None)
        (sym (placed_if_lent table (Named own) lent (found ∙ ap (option_and_then (λ own. entry_at (entries_of table) (Named own))) is)) ∙ some))

  -- none is lent of a name that is declared
  pub unplaced_cause : (lent : Option (Bor Entry)) → option_copied lent ≡ option_and_then (λ own. entry_at (entries_of table) (Named own)) (own_name table.declared name)
      → is_some lent ≡ false → is_some (own_name table.declared name) ≡ true → Some WeightNotPlaced ≡ named_cause table (Named name)
  unplaced_cause lent found none declared = by (own_name table.declared name) refl where
    by : (r : Option (List ℕ)) → own_name table.declared name ≡ r → Some WeightNotPlaced ≡ named_cause table (Named name)
    by None is = absurd_some (sym (ap is_some is) ∙ declared) where
      absurd_some : {Y : Type 0} → false ≡ true → Y
      absurd_some e = cc
    by (Some own) is =
        sym (own_cause own is ∙ ap (λ placed. refused_if (not placed) WeightNotPlaced None)
        (sym (placed_if_lent table (Named own) lent (found ∙ ap (option_and_then (λ own. entry_at (entries_of table) (Named own))) is)) ∙ none))

  -- a name that isn't declared
  pub undeclared_cause : is_some (own_name table.declared name) ≡ false → Some NotDeclared ≡ named_cause table (Named name)
  undeclared_cause absent = by (own_name table.declared name) refl where
    by : (r : Option (List ℕ)) → own_name table.declared name ≡ r → Some NotDeclared ≡ named_cause table (Named name)
    by None is = sym (absent_cause is)
    by (Some own) is = absurd_none (sym (ap is_some is) ∙ absent) where
      absurd_none : {Y : Type 0} → true ≡ false → Y
      absurd_none e = cc
