-- What second names stand for. A second name is one that `symbol-equivalence <new> <old>` gives a collating symbol (the project's
-- own meaning of that line), and it stands for the own name of that symbol.
use Rattle.std.specs.Prelude.{◌≡◌, ℕ, Bool, false, if◌then◌else◌, not, List, [], ◌∷◌, ◌++◌, Option, Some, None, map, option_map, unwrap_or}
use Rattle.std.specs.List.{list_any}
use Rattle.coll_syntax.specs.Identifier.{same_name}
use Rattle.coll_syntax.specs.declared.identifiers.Id.{Id}
use Rattle.coll_syntax.specs.declared.identifiers.Id.TheVariants.{Char, Named, Undefined}
use Rattle.coll_syntax.specs.declared.weights.Weight.{Weight}
use Rattle.coll_syntax.specs.declared.weights.Weight.TheVariants.{Ignore, Own, Names}
use Rattle.coll_nodes.specs.declared.declarations.Declaration.{Declaration}
use Rattle.coll_nodes.specs.declared.declarations.Declaration.TheVariants.{Symbol, Element, Equivalence}
use Rattle.coll_nodes.specs.declared.entries.Entry.{Entry}
use Rattle.coll_nodes.specs.Entries.{weight_ids}
use Rattle.coll_nodes.specs.Table.{Section, name_of, is_own_name, is_symbol_name}

-- the own name that the name of a declaration stands for: that of a symbol or an element is its own, and a second name stands for
-- that of its symbol
abbrev pub stands_for : Declaration → List ℕ
stands_for (Symbol name) = name
stands_for (Element name text) = name
stands_for (Equivalence name symbol) = symbol

-- the declaration of a name: the first that declares it
abbrev pub declaration_of : List Declaration → List ℕ → Option Declaration
declaration_of [] name = None
declaration_of (first ∷ later) name = if same_name name (name_of first) then Some first else declaration_of later name

-- the own name of a declared name: that of its declaration
abbrev pub own_name : List Declaration → List ℕ → Option (List ℕ)
own_name declared name = option_map stands_for (declaration_of declared name)

-- the own name of a declared name; a name that isn't declared stays
abbrev pub named_own : List Declaration → List ℕ → List ℕ
named_own declared name = unwrap_or (own_name declared name) name

-- an identifier, by its own name
abbrev pub own_id : List Declaration → Id → Id
own_id declared (Char c) = Char c
own_id declared (Named name) = Named (named_own declared name)
own_id declared Undefined = Undefined

-- a weight, with the identifiers that it names by their own names
abbrev pub own_weight : List Declaration → Weight → Weight
own_weight declared Ignore = Ignore
own_weight declared Own = Own
own_weight declared (Names ids) = Names (map (own_id declared) ids)

-- weights, by own names
abbrev pub own_weights : List Declaration → List Weight → List Weight
own_weights declared weights = map (own_weight declared) weights

-- an entry, with its weights by own names
abbrev pub own_entry : List Declaration → Entry → Entry
own_entry declared entry = record entry { weights = own_weights declared entry.weights }

-- a section, with the weights of its entries by own names
abbrev pub own_section : List Declaration → Section → Section
own_section declared section = record section { entries = map (own_entry declared) section.entries }

-- sections, with the weights of their entries by own names
abbrev pub own_sections : List Declaration → List Section → List Section
own_sections declared sections = map (own_section declared) sections

-- a declaration declares a name as a second name
abbrev pub declares_second : List ℕ → Declaration → Bool
declares_second name (Symbol declared) = false
declares_second name (Element declared text) = false
declares_second name (Equivalence declared symbol) = same_name name declared

-- an identifier is a second name
abbrev pub is_second : List Declaration → Id → Bool
is_second declared (Char c) = false
is_second declared (Named name) = list_any (declares_second name) declared
is_second declared Undefined = false

-- a weight names something by a second name
abbrev pub names_second : List Declaration → Weight → Bool
names_second declared weight = list_any (is_second declared) (weight_ids weight)

-- a second name stands for nothing: its symbol isn't declared as an own name
abbrev pub means_nothing : List Declaration → Declaration → Bool
means_nothing declared (Symbol name) = false
means_nothing declared (Element name text) = false
means_nothing declared (Equivalence name symbol) = not (is_own_name declared symbol)

-- a second name stands for no collating symbol: its symbol isn't declared as one
abbrev pub means_no_symbol : List Declaration → Declaration → Bool
means_no_symbol declared (Symbol name) = false
means_no_symbol declared (Element name text) = false
means_no_symbol declared (Equivalence name symbol) = not (is_symbol_name declared symbol)

-- where this is declared before them, the symbol of each second name is declared before it, as a collating symbol
abbrev pub MeanSymbolsBehind : (before : List Declaration) → List Declaration → Type 0
MeanSymbolsBehind before [] = Unit {0}
MeanSymbolsBehind before (first ∷ later) = (means_no_symbol before first ≡ false) × MeanSymbolsBehind (before ++ first ∷ []) later

-- the symbol of each second name is declared before it, as a collating symbol
abbrev pub MeanSymbols : List Declaration → Type 0
MeanSymbols declared = MeanSymbolsBehind [] declared
