-- What is found of a name or of an identifier says whether it is an own name, and whether it is placed.
use Rattle.std.proofs.Common.{◌≡◌, ℕ, true, false, is_some, List, Option, Some, None, Bor, sym, ap, ◌∙◌, refl}
use Rattle.std.specs.Option.{option_map, option_copied}
use Rattle.std.specs.Prelude.{chars, unwrap_or}
use Rattle.coll_order.proofs.Sameness.{by_test, not_both}
use Rattle.coll_lookups.proofs.Sameness.{same_name_decides}
use Rattle.coll_syntax.specs.Identifier.{same_name}
use Rattle.coll_syntax.specs.declared.identifiers.Id.{Id}
use Rattle.coll_nodes.specs.OwnNames.{declaration_of, named_own, own_name, stands_for, MeanSymbols}
use Rattle.coll_nodes.specs.Placement.{entry_at}
use Rattle.coll_nodes.specs.Table.{Collation, entries_of, is_declared, is_own_name, is_placed, names_of}
use Rattle.coll_nodes.specs.WellFormed.{AreDistinct}
use Rattle.coll_nodes.specs.declared.declarations.Declaration.{Declaration}
use Rattle.coll_nodes.specs.declared.entries.Entry.{Entry}
use Rattle.coll_nodes.proofs.EntryLemmas.{entry_there}
use Rattle.coll_nodes.proofs.OwnNames.{declaration_is, named_own_known, named_own_same, no_own_of, own_told}

-- an entry that is lent is placed
pub placed_if_lent : (table : Collation) (id : Id) (lent : Option (Bor Entry)) → option_copied lent ≡ entry_at (entries_of table) id → is_some lent ≡ is_placed table id
placed_if_lent table id lent found = by lent ∙ (ap is_some found ∙ sym (entry_there (entries_of table) id)) where
  by : (lent : Option (Bor Entry)) → is_some lent ≡ is_some (option_copied lent)
  by None = refl
  by (Some x) = refl

none_some : {X Y : Type 0} {x : X} → None ≡ Some x → Y
none_some e = cc

-- a name is an own name where it is its own
pub own_by_name : (declared : List Declaration) (name own : List ℕ) → MeanSymbols declared → AreDistinct same_name (names_of declared) → own_name declared name ≡ Some own
    → same_name own name ≡ is_own_name declared name
own_by_name declared name own meant distinct found =
    let is : named_own declared name ≡ own = ap (λ o. unwrap_or o name) found in
    let there : is_declared declared name ≡ true = by_test (λ b. b ≡ true) (is_declared declared name) (λ _. refl) (λ absent. none_some (sym (no_own_of declared name absent) ∙ found)) in
    let known : is_own_name declared own ≡ true = ap (is_own_name declared) (sym is) ∙ named_own_known declared name meant distinct there in
    by_test (λ b. b ≡ is_own_name declared name) (same_name own name)
    (λ on. sym (ap (is_own_name declared) (sym ((same_name_decides own name).0 on)) ∙ known))
    (λ off. by_test (λ b. false ≡ b) (is_own_name declared name)
    (λ owned. not_both ((same_name_decides own name).1 (sym is ∙ named_own_same declared name distinct owned)) off) (λ _. refl))

-- a name that isn't declared is no own name
pub not_own : (declared : List Declaration) (name : List ℕ) → AreDistinct same_name (names_of declared) → own_name declared name ≡ None → false ≡ is_own_name declared name
not_own declared name distinct absent = sym (own_told declared name distinct None (undeclared (declaration_of declared name) absent)) where
  undeclared : (found : Option Declaration) → option_map stands_for found ≡ None → found ≡ None
  undeclared None absent = refl
  undeclared (Some found) absent = cc

-- a name that is lent is declared
pub declared_if_lent : (declared : List Declaration) (name : List ℕ) (lent : Option (Bor (List ℕ))) → option_map (λ (own : Bor (List ℕ)). chars own.now) lent ≡ own_name declared name
    → is_some lent ≡ is_declared declared name
declared_if_lent declared name lent found =
    by lent ∙ (ap is_some found ∙ (named (declaration_of declared name) ∙ declaration_is declared name)) where
      by : (lent : Option (Bor (List ℕ))) → is_some lent ≡ is_some (option_map (λ (own : Bor (List ℕ)). chars own.now) lent)
      by None = refl
      by (Some x) = refl

      named : (found : Option Declaration) → is_some (option_map stands_for found) ≡ is_some found
      named None = refl
      named (Some found) = refl
