-- Identifiers in a set: what is found there, and what one more does.
use Rattle.std.proofs.Common.{◌≡◌, ℕ, Bool, true, false, ◌||◌, cond, nat_eq, List, [], ◌∷◌, ◌++◌, map, sym, ap, ◌∙◌, refl}
use Rattle.std.specs.List.{list_any}
use Rattle.std.proofs.lemmas.List.Folds.{list_any-append}
use Rattle.coll_syntax.specs.Identifier.{same_name, same_id, has_name, has_id}
use Rattle.coll_lookups.specs.IdSets.{ids_in_set, AddsId, AddsName}
use Rattle.coll_syntax.specs.declared.identifiers.Id.{Id}
use Rattle.coll_syntax.specs.declared.identifiers.Id.TheVariants.{Char, Named, Undefined}

-- what is found by kind: a name among the names, a character among the characters
abbrev pub found_by_kind : List (List ℕ) → List ℕ → Bool → Id → Bool
found_by_kind names characters undefined (Char c) = list_any (nat_eq c) characters
found_by_kind names characters undefined (Named name) = has_name names name
found_by_kind names characters undefined Undefined = undefined

-- what is false of each member made from a list is false of all
none_made : {A : Type 0} (id : Id) (make : A → Id) (xs : List A) → ((x : A) → same_id id (make x) ≡ false) → has_id (map make xs) id ≡ false
none_made id make [] none = refl
none_made id make (x ∷ xs) none = ap (λ b. b || has_id (map make xs) id) (none x) ∙ none_made id make xs none

-- a name is found among the names
named : (names : List (List ℕ)) (name : List ℕ) → has_id (map Named names) (Named name) ≡ has_name names name
named [] name = refl
named (first ∷ names) name = ap (λ b. same_name name first || b) (named names name)

-- a character is found among the characters
charred : (characters : List ℕ) (c : ℕ) → has_id (map Char characters) (Char c) ≡ list_any (nat_eq c) characters
charred [] c = refl
charred (first ∷ characters) c = ap (λ b. nat_eq c first || b) (charred characters c)

-- the part of a look-up that has UNDEFINED
abbrev last_part : Bool → List Id
last_part undefined = cond undefined (Undefined ∷ []) []

none_last : (undefined : Bool) (id : Id) → same_id id Undefined ≡ false → has_id (last_part undefined) id ≡ false
none_last true id e = ap (λ b. b || false) e
none_last false id e = refl

or_false : (b : Bool) → (b || false) ≡ b
or_false true = refl
or_false false = refl

-- an identifier is found in a look-up where it is found by its kind
pub found_place : (names : List (List ℕ)) (characters : List ℕ) (undefined : Bool) (id : Id) → has_id (ids_in_set names characters undefined) id ≡ found_by_kind names characters undefined id
found_place names characters undefined (Char c) =
    list_any-append (same_id (Char c)) (map Named names) _
    ∙ (ap (λ b. b || has_id (map Char characters ++ last_part undefined) (Char c)) (none_made (Char c) Named names (λ _. refl))
    ∙ (list_any-append (same_id (Char c)) (map Char characters) _
    ∙ (ap (λ b. has_id (map Char characters) (Char c) || b) (none_last undefined (Char c) refl)
    ∙ (or_false _ ∙ charred characters c))))
found_place names characters undefined (Named name) =
    list_any-append (same_id (Named name)) (map Named names) _
    ∙ (ap (λ b. has_id (map Named names) (Named name) || b)
    (list_any-append (same_id (Named name)) (map Char characters) _
    ∙ (ap (λ b. b || has_id (last_part undefined) (Named name)) (none_made (Named name) Char characters (λ _. refl))
    ∙ none_last undefined (Named name) refl))
    ∙ (or_false _ ∙ named names name))
found_place names characters undefined Undefined =
    list_any-append (same_id Undefined) (map Named names) _
    ∙ (ap (λ b. b || has_id (map Char characters ++ last_part undefined) Undefined) (none_made Undefined Named names (λ _. refl))
    ∙ (list_any-append (same_id Undefined) (map Char characters) _
    ∙ (ap (λ b. b || has_id (last_part undefined) Undefined) (none_made Undefined Char characters (λ _. refl))
    ∙ last_found undefined))) where
      last_found : (undefined : Bool) → has_id (last_part undefined) Undefined ≡ undefined
      last_found true = refl
      last_found false = refl

-- with one name more, a look-up has that name more
pub adds_name : (old new : List (List ℕ)) (characters : List ℕ) (undefined : Bool) (name : List ℕ) → AddsName old new name
    → AddsId (ids_in_set old characters undefined) (ids_in_set new characters undefined) (Named name)
adds_name old new characters undefined name h (Char c) =
    found_place new characters undefined (Char c) ∙ sym (found_place old characters undefined (Char c))
adds_name old new characters undefined name h (Named other) =
    found_place new characters undefined (Named other)
    ∙ (h other ∙ ap (λ b. same_name other name || b) (sym (found_place old characters undefined (Named other))))
adds_name old new characters undefined name h Undefined =
    found_place new characters undefined Undefined ∙ sym (found_place old characters undefined Undefined)

-- with one character more, a look-up has that character more
pub adds_char : (names : List (List ℕ)) (old new : List ℕ) (undefined : Bool) (c : ℕ) → ((other : ℕ) → list_any (nat_eq other) new ≡ (nat_eq other c || list_any (nat_eq other) old))
    → AddsId (ids_in_set names old undefined) (ids_in_set names new undefined) (Char c)
adds_char names old new undefined c h (Char other) =
    found_place names new undefined (Char other)
    ∙ (h other ∙ ap (λ b. nat_eq other c || b) (sym (found_place names old undefined (Char other))))
adds_char names old new undefined c h (Named other) =
    found_place names new undefined (Named other) ∙ sym (found_place names old undefined (Named other))
adds_char names old new undefined c h Undefined =
    found_place names new undefined Undefined ∙ sym (found_place names old undefined Undefined)
