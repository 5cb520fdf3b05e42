-- What the declaration of a name tells of it: the symbol that it means, or that it is its own.
use Rattle.std.proofs.Common.{◌≡◌, ℕ, true, cond, List, [], ◌∷◌, Option, Some, None, sym, ap, ◌∙◌, refl}
use Rattle.std.specs.List.{list_any}
use Rattle.std.specs.Prelude.{option_map, unwrap_or, Result, Ok, Err, OnErr}
use Rattle.coll_order.proofs.Sameness.{by_test}
use Rattle.coll_order.proofs.ListLemmas.{or_first, or_second}
use Rattle.coll_syntax.specs.Identifier.{same_name}
use Rattle.coll_nodes.specs.OwnNames.{declaration_of, declares_second, named_own, stands_for}
use Rattle.coll_nodes.specs.Table.{name_of}
use Rattle.coll_nodes.specs.declared.declarations.Declaration.{Declaration}
use Rattle.coll_nodes.specs.declared.declarations.Declaration.TheVariants.{Symbol, Element, Equivalence}
use Rattle.coll_nodes.proofs.OwnNames.{declaration_named}
use Rattle.coll_lookups.proofs.Sameness.{same_name_decides}
use Rattle.coll_statements.specs.SecondNames.{symbol_meant}

-- what holds anyway holds of an error
pub on_err : {X Y : Type 0} (P : Type 0) (r : Result X Y) → P → OnErr r P
on_err P (Ok x) p = tt
on_err P (Err e) p = p

-- what a text means is what the name means that it spells
pub told : (declared : List Declaration) (name text : List ℕ) (found : Option (List ℕ)) → text ≡ name → found ≡ symbol_meant (declaration_of declared text)
    → symbol_meant (declaration_of declared name) ≡ found
told declared name text found same is = sym (is ∙ ap (λ n. symbol_meant (declaration_of declared n)) same)

-- a second name is one by its declaration
second_by : (declared : List Declaration) (name other symbol : List ℕ) → declaration_of declared name ≡ Some (Equivalence other symbol) → list_any (declares_second name) declared ≡ true
second_by [] name other symbol e = cc
second_by (first ∷ later) name other symbol e = by_test (λ b. same_name name (name_of first) ≡ b → cond b (Some first) (declaration_of later name) ≡ Some (Equivalence other symbol)
    → list_any (declares_second name) (first ∷ later) ≡ true) (same_name name (name_of first))
    (λ on is e. let it : first ≡ Equivalence other symbol = cc in or_first _ _ (ap (declares_second name) it ∙ (sym (ap (λ d. same_name name (name_of d)) it) ∙ is)))
    (λ off is e. or_second _ _ (second_by later name other symbol e)) refl e

-- a name that means a symbol is a second name
pub meant_second : (declared : List Declaration) (name symbol : List ℕ) → symbol_meant (declaration_of declared name) ≡ Some symbol → list_any (declares_second name) declared ≡ true
meant_second declared name symbol e = by_answer (declaration_of declared name) refl e where
  by_answer : (found : Option Declaration) → declaration_of declared name ≡ found → symbol_meant found ≡ Some symbol → list_any (declares_second name) declared ≡ true
  by_answer None is e = cc
  by_answer (Some (Symbol own)) is e = cc
  by_answer (Some (Element own text)) is e = cc
  by_answer (Some (Equivalence other own)) is e = second_by declared name other own is

-- and its own name is that of the symbol
pub meant_own : (declared : List Declaration) (name symbol : List ℕ) → symbol_meant (declaration_of declared name) ≡ Some symbol → named_own declared name ≡ symbol
meant_own declared name symbol e = by_answer (declaration_of declared name) e where
  by_answer : (found : Option Declaration) → symbol_meant found ≡ Some symbol → unwrap_or (option_map stands_for found) name ≡ symbol
  by_answer None e = cc
  by_answer (Some (Symbol own)) e = cc
  by_answer (Some (Element own text)) e = cc
  by_answer (Some (Equivalence other own)) e = cc

-- a name that means no symbol is its own
pub not_meant_own : (declared : List Declaration) (name : List ℕ) → symbol_meant (declaration_of declared name) ≡ None → named_own declared name ≡ name
not_meant_own declared name e = by_answer (declaration_of declared name) refl e where
  by_answer : (found : Option Declaration) → declaration_of declared name ≡ found → symbol_meant found ≡ None → unwrap_or (option_map stands_for found) name ≡ name
  by_answer None is e = refl
  by_answer (Some (Symbol own)) is e = sym ((same_name_decides name own).0 (declaration_named declared name (Symbol own) is))
  by_answer (Some (Element own text)) is e = sym ((same_name_decides name own).0 (declaration_named declared name (Element own text) is))
  by_answer (Some (Equivalence other own)) is e = cc
