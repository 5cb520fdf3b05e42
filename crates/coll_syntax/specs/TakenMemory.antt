-- Which lines memory may be taken for: those of which a name, a text or weights are kept.
use Rattle.std.specs.Prelude.{Bool, true, false, List, [], ◌∷◌, is_some, Option, Some, None, Result, Ok, Err}
use Rattle.coll_lex.specs.declared.tokens.Token.{Token}
use Rattle.coll_lex.specs.declared.tokens.Token.TheVariants as token
use Rattle.coll_syntax.specs.Identifier.{id_of}
use Rattle.coll_syntax.specs.Keywords.{keyword_of}
use Rattle.coll_syntax.specs.Operands.{only, name_in, two_names}
use Rattle.coll_syntax.specs.declared.keywords.Keyword.{Keyword}
use Rattle.coll_syntax.specs.declared.keywords.Keyword.TheVariants as keyword
use Rattle.coll_syntax.specs.declared.syntax_faults.SyntaxFault.{SyntaxFault}

-- a symbol `<X>`, whose name is copied
abbrev pub is_symbol : Token → Bool
is_symbol (token.Symbol name) = true
is_symbol (token.Word word) = false
is_symbol (token.Char c) = false
is_symbol (token.Text pieces) = false
is_symbol token.Semicolon = false
is_symbol token.Comma = false

-- operands of which the first is a symbol
abbrev pub begins_with_symbol : List Token → Bool
begins_with_symbol [] = false
begins_with_symbol (first ∷ rest) = is_symbol first

-- operands that are read without a fault
abbrev pub is_read : {A : Type 0} → Result A SyntaxFault → Bool
is_read (Ok read) = true
is_read (Err fault) = false

-- an order line: its identifier where that is a name, and the weights of any identifier
abbrev pub order_takes_memory : Token → List Token → Bool
order_takes_memory first [] = is_symbol first
order_takes_memory first (t ∷ ts) = is_some (id_of first)

-- a line of a table, by its keyword: a symbol that is declared, its second name and a section, once the line is read; an
-- element and `order_start` where they begin with a name; `order_end`, `script` and `END` never
abbrev pub table_keyword_takes_memory : Keyword → List Token → Bool
table_keyword_takes_memory keyword.CollatingSymbol rest = is_read (only name_in rest)
table_keyword_takes_memory keyword.CollatingElement rest = begins_with_symbol rest
table_keyword_takes_memory keyword.SymbolEquivalence rest = is_read (two_names rest)
table_keyword_takes_memory keyword.OrderStart rest = begins_with_symbol rest
table_keyword_takes_memory keyword.Section rest = is_read (only name_in rest)
table_keyword_takes_memory _ rest = false

-- a line of a table, by the keyword that its first token spells, if it spells one; otherwise an order line
abbrev pub table_row_takes_memory : Option Keyword → Token → List Token → Bool
table_row_takes_memory (Some word) first rest = table_keyword_takes_memory word rest
table_row_takes_memory None first rest = order_takes_memory first rest

-- whether memory may be taken for a line of a table
unfoldable pub table_line_takes_memory : List Token → Bool
table_line_takes_memory [] = false
table_line_takes_memory (first ∷ rest) = table_row_takes_memory (keyword_of first) first rest

-- a line of a delta, by its keyword: a symbol that is declared, its second name and the move of a section, once the line is
-- read; an element and the target of a block where they begin with a name; `reorder-end`, `LC_COLLATE`, `END`, `script`
-- and `copy` never
abbrev pub delta_keyword_takes_memory : Keyword → List Token → Bool
delta_keyword_takes_memory keyword.CollatingSymbol rest = is_read (only name_in rest)
delta_keyword_takes_memory keyword.CollatingElement rest = begins_with_symbol rest
delta_keyword_takes_memory keyword.SymbolEquivalence rest = is_read (two_names rest)
delta_keyword_takes_memory keyword.ReorderAfter rest = begins_with_symbol rest
delta_keyword_takes_memory keyword.ReorderSectionAfter rest = is_read (two_names rest)
delta_keyword_takes_memory _ rest = false

-- a line of a delta, by the keyword that its first token spells, if it spells one; otherwise an order line
abbrev pub delta_row_takes_memory : Option Keyword → Token → List Token → Bool
delta_row_takes_memory (Some word) first rest = delta_keyword_takes_memory word rest
delta_row_takes_memory None first rest = order_takes_memory first rest

-- whether memory may be taken for a line of a delta
unfoldable pub delta_line_takes_memory : List Token → Bool
delta_line_takes_memory [] = false
delta_line_takes_memory (first ∷ rest) = delta_row_takes_memory (keyword_of first) first rest
