-- What holds of what the lines of a category say together, as long as each of them was accepted.
use Rattle.std.specs.Prelude.{◌≡◌, ◌≤◌, ◌<◌, true, false, List, [], length, Some, None, IsSome}
use Rattle.coll_lex.specs.Names.{IsName}
use Rattle.coll_syntax.specs.Proper.{IsElementText, IsId}
use Rattle.coll_syntax.specs.declared.rules.Rule.{Rule}
use Rattle.coll_nodes.specs.Table.{joined_entries, is_placed_in}
use Rattle.coll_nodes.specs.WellFormed.{IsBuilt, IsKnown, IsWeighted}
use Rattle.coll_texts.specs.BuilderStates.{BuilderState, table_of, levels_of}
use Rattle.coll_nodes.specs.Limits.{most_entries}
use Rattle.coll_nodes.specs.declared.declarations.Declaration.{Declaration}
use Rattle.coll_nodes.specs.declared.declarations.Declaration.TheVariants.{Symbol, Element, Equivalence}
use Rattle.coll_nodes.specs.declared.entries.Entry.{Entry}

-- the table that is said holds together; there are rules where an order is open, no entries where there are none, and one
-- level at least where there are some; there are as many numbers of lines as entries
pub record IsSoundBuilderState (d : BuilderState) : Type 0 where
  pub built : IsBuilt (table_of d)
  pub started : d.order_open ≡ true → IsSome d.rules
  pub none_before : d.rules ≡ None → joined_entries d.sections ≡ []
  pub some_levels : (rules : List Rule) → d.rules ≡ Some rules → 1 ≤ length rules
  pub numbered : length d.numbers ≡ length (joined_entries d.sections)

-- a declaration whose name is a name, and whose string, if it has one, may be that of an element
abbrev pub IsProperDeclaration : Declaration → Type 0
IsProperDeclaration (Symbol name) = IsName name
IsProperDeclaration (Element name text) = IsName name × IsElementText text
IsProperDeclaration (Equivalence name symbol) = IsName name

-- an entry that may be put behind all others: there are rules; its identifier is one, is placed nowhere and, if it is a name, is
-- declared as an own name; it has the weights that it is to have; and there is room
pub record MayBePut (d : BuilderState) (entry : Entry) : Type 0 where
  pub rules : IsSome d.rules
  pub id : IsId entry.id
  pub new : is_placed_in d.sections entry.id ≡ false
  pub known : IsKnown d.declared entry.id
  pub weighted : IsWeighted (levels_of d.rules) d.declared entry
  pub room : length (joined_entries d.sections) < most_entries
