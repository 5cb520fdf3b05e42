-- A name that stands for an own name is declared, and a declaration is known by its name.
use Rattle.std.proofs.Common.{◌≡◌, ℕ, ◌+◌, ◌<◌, length, take, drop, get_or, IfSome, Bool, true, false, ◌||◌, cond, is_some, List, [], ◌∷◌, ◌++◌, map, Option, Some, None, option_map, chars}
use Rattle.std.proofs.Common.{sym, ap, ap₂, ◌∙◌, refl}
use Rattle.std.specs.Borrow.{Bor}
use Rattle.std.proofs.lemmas.Bool.{false≢true}
use Rattle.coll_order.proofs.Sameness.{by_test}
use Rattle.coll_lookups.proofs.Sameness.{same_name_decides, neither}
use Rattle.coll_syntax.specs.Identifier.{same_name, has_name}
use Rattle.coll_nodes.specs.Table.{name_of, names_of, is_declared}
use Rattle.coll_nodes.specs.OwnNames.{stands_for, declaration_of, own_name}
use Rattle.coll_nodes.specs.WellFormed.{AreDistinct}
use Rattle.coll_nodes.specs.declared.declarations.Declaration.{Declaration}
use Rattle.coll_differences.specs.Declarations.{IsTold, TellsNamed}
use Rattle.coll_differences.specs.declared.orders.Point.{Point}
use Rattle.coll_differences.specs.Orders.{Mark, Declares, mark_of, marks_of, same_mark, has_mark}
use Rattle.coll_differences.specs.Sameness.{same_declaration}
use Rattle.coll_differences.proofs.ChangeLemmas.{or_nil, at_point, has_middle}
use Rattle.coll_differences.proofs.SamenessLemmas.{same_declaration_decides}

-- whether there is a value is as before, whatever is made of it
mapped_some : {X Y : Type 0} (f : X → Y) (found : Option X) → is_some (option_map f found) ≡ is_some found
mapped_some f None = refl
mapped_some f (Some x) = refl

-- a name has a declaration where it is declared
declared_some : (declared : List Declaration) (name : List ℕ) → is_some (declaration_of declared name) ≡ is_declared declared name
declared_some [] name = refl
declared_some (first ∷ later) name =
    by_test (λ b. is_some (cond b (Some first) (declaration_of later name)) ≡ (b || has_name (names_of later) name)) (same_name name (name_of first)) (λ _. refl) (λ _. declared_some later name)

-- the own name that is lent says whether a name is declared
pub name_told : (declared : List Declaration) (name : List ℕ) (found : Option (Bor (List ℕ))) → option_map (λ (own : Bor (List ℕ)). chars own.now) found ≡ own_name declared name
    → is_some found ≡ is_declared declared name
name_told declared name found told =
    sym (mapped_some (λ (own : Bor (List ℕ)). chars own.now) found) ∙ (ap is_some told ∙ (mapped_some stands_for (declaration_of declared name) ∙ declared_some declared name))

-- declarations of other names are others
other_name : (declaration other : Declaration) → same_name (name_of declaration) (name_of other) ≡ false → same_declaration declaration other ≡ false
other_name declaration other apart =
    by_test (λ b. same_declaration declaration other ≡ b → b ≡ false) (same_declaration declaration other)
    (λ on _. absurd (false≢true (sym apart ∙ (same_name_decides (name_of declaration) (name_of other)).1 (ap name_of ((same_declaration_decides declaration other).0 on)))))
    (λ off _. refl) refl

-- where its name isn't declared, a declaration isn't there
pub undeclared : (declared : List Declaration) (declaration : Declaration) → is_declared declared (name_of declaration) ≡ false → has_mark (map Declares declared) (Declares declaration) ≡ false
undeclared [] declaration h = refl
undeclared (first ∷ later) declaration h =
    let apart = neither (same_name (name_of declaration) (name_of first)) (has_name (names_of later) (name_of declaration)) h in
    ap₂ (λ a b. a || b) (other_name declaration first apart.0) (undeclared later declaration apart.1)

-- where no name is declared twice, no declaration is
pub distinct_declared : (declared : List Declaration) → AreDistinct same_name (names_of declared) → AreDistinct same_mark (map Declares declared)
distinct_declared [] h = tt
distinct_declared (first ∷ later) h = (undeclared later first h.0, distinct_declared later h.1)

-- where no name is declared twice, a declaration is there if it is the one of its name
there_if_same : (declared : List Declaration) (declaration here : Declaration) (before later : List Mark) → map Declares declared ≡ before ++ Declares here ∷ later
    → AreDistinct same_name (names_of declared)
    → name_of here ≡ name_of declaration → has_mark (map Declares declared) (Declares declaration) ≡ same_declaration declaration here
there_if_same [] declaration here [] later split apart named = absurd (none split) where
  none : [] ≡ Declares here ∷ later → ⊥
  none e = cc
there_if_same [] declaration here (other ∷ before) later split apart named = absurd (none split) where
  none : [] ≡ other ∷ (before ++ Declares here ∷ later) → ⊥
  none e = cc
there_if_same (first ∷ declared) declaration here [] later split apart named =
    let head : first ≡ here = cc in
    let absent : is_declared declared (name_of declaration) ≡ false = ap (is_declared declared) (sym named ∙ ap name_of (sym head)) ∙ apart.0 in
    ap₂ (λ a b. a || b) (ap (same_declaration declaration) head) (undeclared declared declaration absent) ∙ or_nil (same_declaration declaration here)
there_if_same (first ∷ declared) declaration here (other ∷ before) later split apart named =
    let tail : map Declares declared ≡ before ++ Declares here ∷ later = cc in
    let there : has_mark (map Declares declared) (Declares here) ≡ true = ap (λ ms. has_mark ms (Declares here)) tail ∙ has_middle before (Declares here) later in
    by_test (λ b. same_name (name_of declaration) (name_of first) ≡ b → (same_declaration declaration first || has_mark (map Declares declared) (Declares declaration))
    ≡ same_declaration declaration here)
    (same_name (name_of declaration) (name_of first))
    (λ on _. let e = (same_name_decides (name_of declaration) (name_of first)).0 on in
    absurd (false≢true (sym (undeclared declared here (ap (is_declared declared) (named ∙ e) ∙ apart.0)) ∙ there)))
    (λ off _. ap (λ b. b || has_mark (map Declares declared) (Declares declaration)) (other_name declaration first off) ∙ there_if_same declared declaration here before later tail apart.1 named) refl

-- what a point that declares its name tells of a declaration
pub told_named : (declared : List Declaration) (marks : List Mark) (declaration : Declaration) (same : Bool) → marks ≡ map Declares declared → AreDistinct same_name (names_of declared)
    → TellsNamed marks declaration same → same ≡ has_mark (map Declares declared) (Declares declaration)
told_named declared marks declaration same are apart told =
    let there : IsTold told.1 declaration same = told.4 in
    let split : map Declares declared ≡ told.0 ++ Declares there.0 ∷ told.2 = sym are ∙ (told.3 ∙ ap (λ m. told.0 ++ m ∷ told.2) there.1) in
    there.3 ∙ sym (there_if_same declared declaration there.0 told.0 told.2 split apart there.2)

-- so does a list of points, at the place of one that does
pub told_where : (points : List Point) (i : ℕ) (point : Point) (declaration : Declaration) (told : Option Bool) → i < length points → point ≡ get_or points i point
    → IfSome told (IsTold (mark_of point) declaration) → IfSome told (TellsNamed (marks_of points) declaration)
told_where points i point declaration None within is h = h
told_where points i point declaration (Some same) within is h =
    (marks_of (take i points), mark_of point, marks_of (drop (i + 1) points), at_point points i point within is, h)
