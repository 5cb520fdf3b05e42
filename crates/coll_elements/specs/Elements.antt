-- The elements of a text: its split into collating elements and characters (POSIX.1-2017, 7.3.2.2).
use Rattle.std.specs.Prelude.{ℕ, zero, suc, ◌-◌, ◌==◌, ◌&&◌, nat_lt, Bool, true, false}
use Rattle.std.specs.Prelude.{if◌then◌else◌, List, [], ◌∷◌, Option, Some, None, length}
use Rattle.std.specs.List.{flat_map}
use Rattle.coll_syntax.specs.declared.identifiers.Id.{Id}
use Rattle.coll_syntax.specs.declared.identifiers.Id.TheVariants.{Char, Named}
use Rattle.coll_nodes.specs.Table.{Collation, is_placed}
use Rattle.coll_nodes.specs.declared.declarations.Declaration.{Declaration}
use Rattle.coll_nodes.specs.declared.declarations.Declaration.TheVariants as declaration

-- a collating element: its name, and the string that it stands for
pub record Element : Type 0 where
  pub name : List ℕ
  pub text : List ℕ

-- the collating element of a declaration, if it is placed
abbrev pub element_placed : Collation → Declaration → List Element
element_placed table (declaration.Symbol name) = []
element_placed table (declaration.Equivalence name symbol) = []
element_placed table (declaration.Element name text) = if is_placed table (Named name) then record { name = name; text = text } ∷ [] else []

-- the collating elements of a table that are placed, in the order of their declarations
abbrev pub elements_placed : Collation → List Element
elements_placed table = flat_map (element_placed table) table.declared

-- a text begins with a string
abbrev pub begins_with : (text string : List ℕ) → Bool
begins_with text [] = true
begins_with [] (c ∷ string) = false
begins_with (d ∷ text) (c ∷ string) = (d == c) && begins_with text string

-- of an element and another that may be there, the one with the longer string
abbrev pub longer : {X : Type 0} → (X → List ℕ) → X → Option X → X
longer string_of x None = x
longer string_of x (Some other) = if nat_lt (length (string_of other)) (length (string_of x)) then x else other

-- the element with the longest string that a text begins with, if there is one
abbrev pub longest : {X : Type 0} → (X → List ℕ) → List X → List ℕ → Option X
longest string_of [] text = None
longest string_of (x ∷ xs) text =
    if begins_with text (string_of x) then Some (longer string_of x (longest string_of xs text)) else longest string_of xs text

-- how many characters an element has beyond its first; where there is none, its one character stands alone
abbrev pub beyond_first : {X : Type 0} → (X → List ℕ) → Option X → ℕ
beyond_first string_of None = 0
beyond_first string_of (Some x) = length (string_of x) - 1

-- the elements of a text behind this many characters: at each place the longest collating element, or else one character
abbrev pub split : {X P : Type 0} → (X → List ℕ) → List X → (Option X → ℕ → P) → (skipped : ℕ) → List ℕ → List P
split string_of xs element skipped [] = []
split string_of xs element (suc skipped) (c ∷ text) = split string_of xs element skipped text
split string_of xs element zero (c ∷ text) =
    element (longest string_of xs (c ∷ text)) c ∷ split string_of xs element (beyond_first string_of (longest string_of xs (c ∷ text))) text

-- the string of an element
abbrev pub element_text : Element → List ℕ
element_text element = element.text

-- the identifier of an element of a text: that of a collating element, or else the character
abbrev pub element_id : Option Element → ℕ → Id
element_id (Some element) c = Named element.name
element_id None c = Char c

-- the elements of a text, by their identifiers
unfoldable pub elements_of : Collation → List ℕ → List Id
elements_of table text = split element_text (elements_placed table) element_id 0 text
