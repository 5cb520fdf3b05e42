-- How a text ends before its category does (POSIX.1-2017, 7.3).
use Rattle.std.specs.Prelude.{ℕ, Bool, if◌then◌else◌, Option, Some, None}
use Rattle.coll_lex.specs.LogicalLines.{LexerState, OpenLine}
use Rattle.coll_lex.specs.declared.early_ends.EarlyEnd.{EarlyEnd}
use Rattle.coll_lex.specs.declared.early_ends.EarlyEnd.TheVariants.{LeftOpen, WithinCategory, BeforeCategory}

-- a text of so many lines ends in the logical line that is open, if one is, or else in its category, if that has begun, or before it
abbrev pub ends_at : (begun : Bool) → (count : ℕ) → Option OpenLine → EarlyEnd
ends_at begun count (Some open_line) = LeftOpen open_line.number
ends_at begun count None = if begun then WithinCategory count else BeforeCategory count

-- how a text ends that ends where the lexer stands
abbrev pub early_end : (begun : Bool) → LexerState → EarlyEnd
early_end begun s = ends_at begun s.count s.line
