-- Statements that declare alone.
use Rattle.std.specs.Prelude.{Bool, true, false}
use Rattle.coll_syntax.specs.declared.statements.Statement.{Statement}
use Rattle.coll_syntax.specs.declared.statements.Statement.TheVariants.{Symbol, Element, Equivalence, Block, SectionAfter, Reweight}

-- a statement declares alone: it gives a new name, and neither places nor moves nor weighs an entry, so that all texts keep their order
abbrev pub declares_alone : Statement → Bool
declares_alone (Symbol name) = true
declares_alone (Element name text) = true
declares_alone (Equivalence name symbol) = true
declares_alone (Block target lines) = false
declares_alone (SectionAfter name after) = false
declares_alone (Reweight line) = false

-- a statement declares an element
abbrev pub declares_element : Statement → Bool
declares_element (Symbol name) = false
declares_element (Element name text) = true
declares_element (Equivalence name symbol) = false
declares_element (Block target lines) = false
declares_element (SectionAfter name after) = false
declares_element (Reweight line) = false
