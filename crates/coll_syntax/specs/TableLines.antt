-- What a line of a table says, read from its tokens (POSIX.1-2017, 7.3.2; `symbol-equivalence`, `section` and `script` are
-- the project's own).
use Rattle.std.specs.Prelude.{List, [], ◌∷◌, Option, Some, None, Result, Ok, Err, codes}
use Rattle.coll_lex.specs.declared.tokens.Token.{Token}
use Rattle.coll_lex.specs.declared.tokens.Token.TheVariants as token
use Rattle.coll_syntax.specs.Keywords.{keyword_of}
use Rattle.coll_syntax.specs.Operands.{read_as, ended, only, name_in, word_in, two_names}
use Rattle.coll_syntax.specs.Elements.{element}
use Rattle.coll_syntax.specs.Rules.{rules}
use Rattle.coll_syntax.specs.OrderLines.{order_line}
use Rattle.coll_syntax.specs.declared.keywords.Keyword.{Keyword}
use Rattle.coll_syntax.specs.declared.keywords.Keyword.TheVariants as keyword
use Rattle.coll_syntax.specs.declared.rules.Rule.{Rule}
use Rattle.coll_syntax.specs.declared.lines.TableLine.{TableLine}
use Rattle.coll_syntax.specs.declared.lines.TableLine.TheVariants.{Symbol, Element, Equivalence, OrderStart, OrderEnd}
use Rattle.coll_syntax.specs.declared.lines.TableLine.TheVariants.{Section, Script, EndCategory, Order}
use Rattle.coll_syntax.specs.declared.syntax_faults.SyntaxFault.{SyntaxFault}
use Rattle.coll_syntax.specs.declared.syntax_faults.SyntaxFault.TheVariants.{UnknownStatement, ExtraOperand, BadOperand}

-- what stands behind the name of a section in `order_start`: nothing, or a semicolon and the rules
abbrev pub section_rules : List Token → Result (Option (List Rule)) SyntaxFault
section_rules [] = Ok None
section_rules (token.Semicolon ∷ rest) = read_as Some (rules rest)
section_rules (_ ∷ rest) = Err ExtraOperand

-- the operands of `order_start` (7.3.2.3): none, the rules, or the name of a section that begins here (the project's own)
abbrev pub order_start : List Token → Result TableLine SyntaxFault
order_start [] = Ok (OrderStart None None)
order_start (token.Symbol name ∷ rest) = read_as (OrderStart (Some name)) (section_rules rest)
order_start (token.Char c ∷ rest) = Err BadOperand
order_start ts = read_as (λ given. OrderStart None (Some given)) (rules ts)

-- a line that begins with a keyword, by its operands: collating-symbol (7.3.2.2), collating-element (7.3.2.1), order_start
-- (7.3.2.3), order_end (7.3.2.5), END (7.3), and the project's own; a keyword of deltas begins no line of a table
abbrev pub keyword_row : Keyword → List Token → Result TableLine SyntaxFault
keyword_row keyword.CollatingSymbol rest = read_as Symbol (only name_in rest)
keyword_row keyword.CollatingElement rest = read_as (λ read. Element read.0 read.1) (element rest)
keyword_row keyword.SymbolEquivalence rest = read_as (λ names. Equivalence names.0 names.1) (two_names rest)
keyword_row keyword.OrderStart rest = order_start rest
keyword_row keyword.OrderEnd rest = ended OrderEnd rest
keyword_row keyword.Section rest = read_as Section (only name_in rest)
keyword_row keyword.Script rest = read_as (λ name. Script) (only name_in rest)
keyword_row keyword.End rest = read_as (λ word. EndCategory) (only (word_in (codes "LC_COLLATE")) rest)
keyword_row _ rest = Err UnknownStatement

-- a line by the keyword that its first token spells, if it spells one; otherwise an order line
abbrev pub begun_row : Option Keyword → Token → List Token → Result TableLine SyntaxFault
begun_row (Some word) first rest = keyword_row word rest
begun_row None first rest = read_as Order (order_line first rest)

-- a line by its first token and those after it
abbrev pub table_row : Token → List Token → Result TableLine SyntaxFault
table_row first rest = begun_row (keyword_of first) first rest

-- what a line of a table says; without tokens it begins no line
unfoldable pub table_line : List Token → Result TableLine SyntaxFault
table_line [] = Err UnknownStatement
table_line (first ∷ rest) = table_row first rest
