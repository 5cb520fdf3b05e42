-- What is proper: made of characters and within the limits of the language, as all is that the grammar gives.
use Rattle.std.specs.Prelude.{ℕ, ◌≤◌, ◌==◌, ◌&&◌, not, Bool, true, false, nat_le, List, length, All, Option, Some, None}
use Rattle.std.specs.Char.{IsScalar}
use Rattle.std.specs.List.{list_all}
use Rattle.std.specs.Str.{all_scalars}
use lib.Utf8.{scalar}
use Rattle.coll_lex.specs.Names.{AreCharacters, IsName, is_proper_name}
use Rattle.coll_syntax.specs.declared.identifiers.Id.{Id}
use Rattle.coll_syntax.specs.declared.identifiers.Id.TheVariants.{Char, Named, Undefined}
use Rattle.coll_syntax.specs.declared.weights.Weight.{Weight}
use Rattle.coll_syntax.specs.declared.weights.Weight.TheVariants.{Ignore, Own, Names}
use Rattle.coll_syntax.specs.declared.rules.Rule.{Rule}
use Rattle.coll_syntax.specs.declared.statements.OrderLine.{OrderLine}
use Rattle.coll_syntax.specs.declared.statements.Statement.{Statement}
use Rattle.coll_syntax.specs.declared.statements.Statement.TheVariants as statement
use Rattle.coll_syntax.specs.declared.lines.TableLine.{TableLine}
use Rattle.coll_syntax.specs.declared.lines.TableLine.TheVariants as table
use Rattle.coll_syntax.specs.declared.lines.DeltaLine.{DeltaLine}
use Rattle.coll_syntax.specs.declared.lines.DeltaLine.TheVariants as delta

-- a character, that is a Unicode scalar value; a name: 1 to 64 characters, none blank or control, and not `U` with four to
-- eight hexadecimal digits; or UNDEFINED
abbrev pub IsId : Id → Type 0
IsId (Char c) = IsScalar c
IsId (Named name) = IsName name
IsId Undefined = Unit {0}

-- a character or a name; UNDEFINED is no weight
abbrev pub IsWeightId : Id → Type 0
IsWeightId (Char c) = IsScalar c
IsWeightId (Named name) = IsName name
IsWeightId Undefined = ⊥

-- a weight of identifiers has 1 to 32 of them
abbrev pub IsProperWeight : Weight → Type 0
IsProperWeight Ignore = Unit {0}
IsProperWeight Own = Unit {0}
IsProperWeight (Names ids) = (1 ≤ length ids) × (length ids ≤ 32) × All IsWeightId ids

-- a line with weights has at least one
abbrev pub AreProperWeights : Option (List Weight) → Type 0
AreProperWeights None = Unit {0}
AreProperWeights (Some weights) = (1 ≤ length weights) × All IsProperWeight weights

-- an order line whose identifier and weights are proper
abbrev pub IsProperLine : OrderLine → Type 0
IsProperLine line = IsId line.id × AreProperWeights line.weights

-- a collating element stands for 2 to 16 characters
abbrev pub IsElementText : List ℕ → Type 0
IsElementText text = (2 ≤ length text) × (length text ≤ 16) × AreCharacters text

-- a statement whose names are names and whose other characters are characters, whose string and weights are within their
-- limits, and whose block has at most 4,096 lines
abbrev pub IsProper : Statement → Type 0
IsProper (statement.Symbol name) = IsName name
IsProper (statement.Element name text) = IsName name × IsElementText text
IsProper (statement.Equivalence name symbol) = IsName name × IsName symbol
IsProper (statement.Block target lines) = IsId target × (length lines ≤ 4096) × All IsProperLine lines
IsProper (statement.SectionAfter moved after) = IsName moved × IsName after
IsProper (statement.Reweight line) = IsProperLine line

-- a name that may be left out
abbrev pub IsNameIfGiven : Option (List ℕ) → Type 0
IsNameIfGiven None = Unit {0}
IsNameIfGiven (Some name) = IsName name

-- rules that may be left out are one to four
abbrev pub AreRulesIfGiven : Option (List Rule) → Type 0
AreRulesIfGiven None = Unit {0}
AreRulesIfGiven (Some rules) = (1 ≤ length rules) × (length rules ≤ 4)

-- a line of a table whose names, string, rules and weights are within their limits
abbrev pub IsProperTableLine : TableLine → Type 0
IsProperTableLine (table.Symbol name) = IsName name
IsProperTableLine (table.Element name text) = IsName name × IsElementText text
IsProperTableLine (table.Equivalence name symbol) = IsName name × IsName symbol
IsProperTableLine (table.OrderStart section rules) = IsNameIfGiven section × AreRulesIfGiven rules
IsProperTableLine table.OrderEnd = Unit {0}
IsProperTableLine (table.Section name) = IsName name
IsProperTableLine table.Script = Unit {0}
IsProperTableLine table.EndCategory = Unit {0}
IsProperTableLine (table.Order line) = IsProperLine line

-- a line of a delta whose statement, or whose part of one, is proper
abbrev pub IsProperDeltaLine : DeltaLine → Type 0
IsProperDeltaLine (delta.Symbol name) = IsProper (statement.Symbol name)
IsProperDeltaLine (delta.Element name text) = IsProper (statement.Element name text)
IsProperDeltaLine (delta.Equivalence name symbol) = IsProper (statement.Equivalence name symbol)
IsProperDeltaLine delta.Script = Unit {0}
IsProperDeltaLine delta.Category = Unit {0}
IsProperDeltaLine delta.EndCategory = Unit {0}
IsProperDeltaLine delta.Copy = Unit {0}
IsProperDeltaLine (delta.ReorderAfter target) = IsId target
IsProperDeltaLine delta.ReorderEnd = Unit {0}
IsProperDeltaLine (delta.SectionAfter moved after) = IsProper (statement.SectionAfter moved after)
IsProperDeltaLine (delta.Order line) = IsProperLine line

-- The same as tests, for a statement that is handed in.

-- whether this is an identifier
abbrev pub is_proper_id : Id → Bool
is_proper_id (Char c) = scalar c
is_proper_id (Named name) = is_proper_name name
is_proper_id Undefined = true

-- whether this is a character or a name
abbrev pub is_weight_id : Id → Bool
is_weight_id (Char c) = scalar c
is_weight_id (Named name) = is_proper_name name
is_weight_id Undefined = false

-- whether a weight is proper
abbrev pub is_proper_weight : Weight → Bool
is_proper_weight Ignore = true
is_proper_weight Own = true
is_proper_weight (Names ids) = not (length ids == 0) && nat_le (length ids) 32 && list_all is_weight_id ids

-- whether the weights of a line are proper, if it has any
abbrev pub are_proper_weights : Option (List Weight) → Bool
are_proper_weights None = true
are_proper_weights (Some weights) = not (length weights == 0) && list_all is_proper_weight weights

-- whether an order line is proper
abbrev pub is_proper_line : OrderLine → Bool
is_proper_line line = is_proper_id line.id && are_proper_weights line.weights

-- whether a text may be that of a collating element
abbrev pub is_element_text : List ℕ → Bool
is_element_text text = nat_le 2 (length text) && nat_le (length text) 16 && all_scalars text

-- whether a statement is proper
unfoldable pub is_proper : Statement → Bool
is_proper (statement.Symbol name) = is_proper_name name
is_proper (statement.Element name text) = is_proper_name name && is_element_text text
is_proper (statement.Equivalence name symbol) = is_proper_name name && is_proper_name symbol
is_proper (statement.Block target lines) = is_proper_id target && nat_le (length lines) 4096 && list_all is_proper_line lines
is_proper (statement.SectionAfter moved after) = is_proper_name moved && is_proper_name after
is_proper (statement.Reweight line) = is_proper_line line
