-- What a line of a delta says, read from its tokens (`reorder-after` and `reorder-end` as in ISO/IEC 14651; category lines
-- as in POSIX.1-2017, 7.3, declarations of symbols and of elements and order lines as in 7.3.2; the others are the project's
-- own).
use Rattle.std.specs.Prelude.{List, [], ◌∷◌, Option, Some, None, Result, Err, codes}
use Rattle.coll_lex.specs.declared.tokens.Token.{Token}
use Rattle.coll_syntax.specs.Keywords.{keyword_of}
use Rattle.coll_syntax.specs.Operands.{read_as, ended, only, name_in, word_in, string_in, id_in, two_names}
use Rattle.coll_syntax.specs.Elements.{element}
use Rattle.coll_syntax.specs.OrderLines.{order_line}
use Rattle.coll_syntax.specs.declared.keywords.Keyword.{Keyword}
use Rattle.coll_syntax.specs.declared.keywords.Keyword.TheVariants as keyword
use Rattle.coll_syntax.specs.declared.lines.DeltaLine.{DeltaLine}
use Rattle.coll_syntax.specs.declared.lines.DeltaLine.TheVariants.{Symbol, Element, Equivalence, Script, Category, EndCategory}
use Rattle.coll_syntax.specs.declared.lines.DeltaLine.TheVariants.{Copy, ReorderAfter, ReorderEnd, SectionAfter, Order}
use Rattle.coll_syntax.specs.declared.syntax_faults.SyntaxFault.{SyntaxFault}
use Rattle.coll_syntax.specs.declared.syntax_faults.SyntaxFault.TheVariants.{UnknownStatement}

-- a line that begins with a keyword, by its operands; a keyword of tables begins no line of a delta
abbrev pub keyword_row : Keyword → List Token → Result DeltaLine SyntaxFault
keyword_row keyword.CollatingSymbol rest = read_as Symbol (only name_in rest)
keyword_row keyword.CollatingElement rest = read_as (λ read. Element read.0 read.1) (element rest)
keyword_row keyword.SymbolEquivalence rest = read_as (λ names. Equivalence names.0 names.1) (two_names rest)
keyword_row keyword.Script rest = read_as (λ name. Script) (only name_in rest)
keyword_row keyword.Category rest = ended Category rest
keyword_row keyword.End rest = read_as (λ word. EndCategory) (only (word_in (codes "LC_COLLATE")) rest)
keyword_row keyword.Copy rest = read_as (λ pieces. Copy) (only string_in rest)
keyword_row keyword.ReorderAfter rest = read_as ReorderAfter (only id_in rest)
keyword_row keyword.ReorderEnd rest = ended ReorderEnd rest
keyword_row keyword.ReorderSectionAfter rest = read_as (λ names. SectionAfter names.0 names.1) (two_names rest)
keyword_row _ rest = Err UnknownStatement

-- a line by the keyword that its first token spells, if it spells one; otherwise an order line
abbrev pub begun_row : Option Keyword → Token → List Token → Result DeltaLine SyntaxFault
begun_row (Some word) first rest = keyword_row word rest
begun_row None first rest = read_as Order (order_line first rest)

-- a line by its first token and those after it
abbrev pub delta_row : Token → List Token → Result DeltaLine SyntaxFault
delta_row first rest = begun_row (keyword_of first) first rest

-- what a line of a delta says; without tokens it begins no line
unfoldable pub delta_line : List Token → Result DeltaLine SyntaxFault
delta_line [] = Err UnknownStatement
delta_line (first ∷ rest) = delta_row first rest
