-- What a reader has read, and what the next physical line of a text comes to.
use Rattle.std.specs.Prelude.{◌≡◌, ℕ, Bool, List, [], Option, None, Some, ⊤}
use Rattle.std.specs.List.{list_any}
use Rattle.std.specs.Str.{bytes_eq}
use Rattle.coll_lex.specs.Names.{AreTokens}
use Rattle.coll_source_lines.specs.Reports.{ReportValue}
use Rattle.coll_source_lines.specs.declared.source_lines.SourceLine.{SourceLine}
use Rattle.coll_sources.specs.declared.readers.Next.{Next}
use Rattle.coll_sources.specs.declared.readers.Next.TheVariants.{Ended, Nothing, Whole}

-- the names of the texts, in the order in which they were wanted; how many of them are there; what is defined; the lines given so far;
-- and what is told of them
pub record ReaderValue : Type 0 where
  pub names : List (List ℕ)
  pub held : ℕ
  pub defined : List (List ℕ)
  pub lines : List SourceLine
  pub report : ReportValue

-- a name is defined
abbrev pub is_defined : ReaderValue → (name : List ℕ) → Bool
is_defined reader name = list_any (λ word. bytes_eq name word) reader.defined

-- a line that it completes is made of tokens
abbrev pub HasTokens : Next → Type 0
HasTokens Ended = Unit {0}
HasTokens Nothing = Unit {0}
HasTokens (Whole line) = AreTokens line.tokens

-- a device was read to its end, if its bytes were known
abbrev pub ReadsAll : Option (List ℕ) → Option (List ℕ) → Type 0
ReadsAll None left = ⊤
ReadsAll (Some text) left = left ≡ Some []
