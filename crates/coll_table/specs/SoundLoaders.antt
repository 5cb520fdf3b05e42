-- What holds of every loader.
use Rattle.std.specs.Prelude.{◌≡◌, ℕ, true, false, IsTrue, List, IfSome}
use Rattle.coll_lex.specs.LogicalLines.{takes_memory}
use Rattle.coll_lex.specs.declared.faults.LexFault.TheVariants as lex
use Rattle.coll_syntax.specs.declared.syntax_faults.SyntaxFault.TheVariants as syntax
use Rattle.coll_nodes.specs.WellFormed.{IsWellFormed}
use Rattle.coll_texts.specs.BuilderStates.{table_of}
use Rattle.coll_texts.specs.Loading.{LoaderState}
use Rattle.coll_texts.specs.declared.load_faults.LoadFault.{LoadFault}
use Rattle.coll_texts.specs.declared.load_faults.LoadCause.{LoadCause}
use Rattle.coll_texts.specs.declared.load_faults.LoadCause.TheVariants.{Lex, Syntax, ReadFault}

-- a cause that lines are refused for: it is no read error, and a lack of memory has its one spelling
abbrev pub IsLineCause : LoadCause → Type 0
IsLineCause (Lex lex.OutOfMemory) = ⊥
IsLineCause (Syntax syntax.OutOfMemory) = ⊥
IsLineCause ReadFault = ⊥
IsLineCause _ = Unit {0}

-- memory may be taken for a line: it stands in the category, and the lexer takes memory for it, as it does for each line that
-- ends a logical line with tokens
pub record MayTake (s : LoaderState) (line : List ℕ) : Type 0 where
  pub begun : s.begun ≡ true
  pub going : s.ended ≡ false
  pub taken : IsTrue (takes_memory s.lexer line)

-- where the category has ended, the table that its lines say is well formed; a fault that is stored is one of lines
pub record IsSoundLoader (s : LoaderState) : Type 0 where
  pub well_formed : s.ended ≡ true → IsWellFormed (table_of s.builder)
  pub cause : IfSome s.fault (λ (fault : LoadFault). IsLineCause fault.cause)
