-- What the grammar gives is proper: whole lines of tables and of deltas.
use Rattle.std.proofs.Common.{◌≡◌, ◌≤◌, ℕ, List, [], ◌∷◌, length, Some, None, Ok, Err, subst, sym}
use Rattle.std.specs.Prelude.{Result, Option, All, IfOk, codes}
use Rattle.std.proofs.lemmas.List.Elements.{All-head, All-tail, All-same}
use Rattle.coll_lex.specs.Names.{IsName, IsToken, AreTokens}
use Rattle.coll_lex.specs.declared.tokens.Token.{Token}
use Rattle.coll_lex.specs.declared.tokens.Token.TheVariants as token
use Rattle.coll_syntax.specs.Identifier.{id_of}
use Rattle.coll_syntax.specs.Keywords.{keyword_of}
use Rattle.coll_syntax.specs.KeptLines.{kept_order, kept_row, kept_weights}
use Rattle.coll_syntax.specs.Operands.{read_as, only, name_in, word_in, string_in, id_in, two_names}
use Rattle.coll_syntax.specs.Elements.{element}
use Rattle.coll_syntax.specs.Weights.{weights}
use Rattle.coll_syntax.specs.Rules.{rules}
use Rattle.coll_syntax.specs.OrderLines.{weighted, order_line}
use Rattle.coll_syntax.specs.TableLines as tables
use Rattle.coll_syntax.specs.DeltaLines as deltas
use Rattle.coll_syntax.specs.Proper.{IsId, IsProperWeight, IsElementText, IsProperLine, AreRulesIfGiven, IsProperTableLine, IsProperDeltaLine}
use Rattle.coll_syntax.specs.declared.identifiers.Id.{Id}
use Rattle.coll_syntax.specs.declared.identifiers.Id.TheVariants.{Char}
use Rattle.coll_syntax.specs.declared.keywords.Keyword.{Keyword}
use Rattle.coll_syntax.specs.declared.keywords.Keyword.TheVariants as keyword
use Rattle.coll_syntax.specs.declared.lines.TableLine.{TableLine}
use Rattle.coll_syntax.specs.declared.lines.TableLine.TheVariants as table
use Rattle.coll_syntax.specs.declared.lines.DeltaLine.{DeltaLine}
use Rattle.coll_syntax.specs.declared.lines.DeltaLine.TheVariants as delta
use Rattle.coll_syntax.specs.declared.syntax_faults.SyntaxFault.{SyntaxFault}
use Rattle.coll_syntax.proofs.ProperOperands.{OnSomeId, if_as, if_ended, if_only, name_in-name, id_of-proper, id_in-proper, two_names-proper, element-proper, weights-proper, kept_weights-proper, rules-proper}

-- what is always so of what was read
always : {A : Type 0} (r : Result A SyntaxFault) → IfOk r (λ _. Unit {0})
always (Ok x) = tt
always (Err f) = tt

-- order lines

weighted-proper : (o : Option Id) (rest : List Token) → OnSomeId IsId o → All IsToken rest → IfOk (weighted o rest) IsProperLine
weighted-proper None rest h a = tt
weighted-proper (Some id) [] h a = (h, tt)
weighted-proper (Some id) (t ∷ ts) h a =
    if_as (λ ws. (1 ≤ length ws) × All IsProperWeight ws) IsProperLine (λ given. record { id = id; weights = Some given }) (weights (t ∷ ts)) (weights-proper (t ∷ ts) a) (λ ws p. (h, p))

order_line-proper : (first : Token) (rest : List Token) → IsToken first → All IsToken rest → IfOk (order_line first rest) IsProperLine
order_line-proper first rest h a = weighted-proper (id_of first) rest (id_of-proper first h) a

-- lines of tables

section_rules-proper : (ts : List Token) → IfOk (tables.section_rules ts) AreRulesIfGiven
section_rules-proper [] = tt
section_rules-proper (token.Word w ∷ rest) = tt
section_rules-proper (token.Symbol name ∷ rest) = tt
section_rules-proper (token.Char c ∷ rest) = tt
section_rules-proper (token.Text ps ∷ rest) = tt
section_rules-proper (token.Semicolon ∷ rest) = if_as (λ rs. (1 ≤ length rs) × (length rs ≤ 4)) AreRulesIfGiven Some (rules rest) (rules-proper rest) (λ rs p. p)
section_rules-proper (token.Comma ∷ rest) = tt

only_rules : (ts : List Token) → IfOk (read_as (λ given. table.OrderStart None (Some given)) (rules ts)) IsProperTableLine
only_rules ts = if_as (λ rs. (1 ≤ length rs) × (length rs ≤ 4)) IsProperTableLine (λ given. table.OrderStart None (Some given)) (rules ts) (rules-proper ts) (λ rs p. (tt, p))

order_start-proper : (ts : List Token) → All IsToken ts → IfOk (tables.order_start ts) IsProperTableLine
order_start-proper [] a = (tt, tt)
order_start-proper (token.Word w ∷ rest) a = only_rules (token.Word w ∷ rest)
order_start-proper (token.Symbol name ∷ rest) a =
    if_as AreRulesIfGiven IsProperTableLine (table.OrderStart (Some name)) (tables.section_rules rest) (section_rules-proper rest) (λ rs p. (All-head IsToken (token.Symbol name) rest a, p))
order_start-proper (token.Char c ∷ rest) a = tt
order_start-proper (token.Text ps ∷ rest) a = only_rules (token.Text ps ∷ rest)
order_start-proper (token.Semicolon ∷ rest) a = only_rules (token.Semicolon ∷ rest)
order_start-proper (token.Comma ∷ rest) a = only_rules (token.Comma ∷ rest)

table_keyword : (word : Keyword) (rest : List Token) → All IsToken rest → IfOk (tables.keyword_row word rest) IsProperTableLine
table_keyword keyword.CollatingSymbol rest a = if_as IsName IsProperTableLine table.Symbol (only name_in rest) (if_only IsName name_in rest a name_in-name) (λ name p. p)
table_keyword keyword.CollatingElement rest a =
    if_as (λ read. IsName read.0 × IsElementText read.1) IsProperTableLine (λ read. table.Element read.0 read.1) (element rest) (element-proper rest a) (λ read p. p)
table_keyword keyword.SymbolEquivalence rest a =
    if_as (λ names. IsName names.0 × IsName names.1) IsProperTableLine (λ names. table.Equivalence names.0 names.1) (two_names rest) (two_names-proper rest a) (λ names p. p)
table_keyword keyword.OrderStart rest a = order_start-proper rest a
table_keyword keyword.OrderEnd rest a = if_ended IsProperTableLine table.OrderEnd rest tt
table_keyword keyword.Section rest a = if_as IsName IsProperTableLine table.Section (only name_in rest) (if_only IsName name_in rest a name_in-name) (λ name p. p)
table_keyword keyword.Script rest a = if_as (λ _. Unit {0}) IsProperTableLine (λ name. table.Script) (only name_in rest) (always (only name_in rest)) (λ _ _. tt)
table_keyword keyword.Category rest a = tt
table_keyword keyword.End rest a =
    if_as (λ _. Unit {0}) IsProperTableLine (λ word. table.EndCategory) (only (word_in (codes "LC_COLLATE")) rest) (always (only (word_in (codes "LC_COLLATE")) rest)) (λ _ _. tt)
table_keyword keyword.Copy rest a = tt
table_keyword keyword.ReorderAfter rest a = tt
table_keyword keyword.ReorderEnd rest a = tt
table_keyword keyword.ReorderSectionAfter rest a = tt

table_begun : (o : Option Keyword) (first : Token) (rest : List Token) → IsToken first → All IsToken rest → IfOk (tables.begun_row o first rest) IsProperTableLine
table_begun (Some word) first rest h a = table_keyword word rest a
table_begun None first rest h a = if_as IsProperLine IsProperTableLine table.Order (order_line first rest) (order_line-proper first rest h a) (λ line p. p)

-- lines of tables as a loader keeps them

kept_order-proper : (own : ℕ) (rest : List Token) → IsId (Char own) → All IsToken rest → IfOk (kept_order own rest) IsProperTableLine
kept_order-proper own [] h a = (h, tt)
kept_order-proper own (t ∷ ts) h a =
    if_as (λ ws. (1 ≤ length ws) × All IsProperWeight ws) IsProperTableLine (λ given. table.Order (record { id = Char own; weights = Some given })) (kept_weights own (t ∷ ts))
    (kept_weights-proper own (t ∷ ts) a) (λ ws p. (h, p))

kept_row-proper : (first : Token) (rest : List Token) → IsToken first → All IsToken rest → IfOk (kept_row first rest) IsProperTableLine
kept_row-proper (token.Word w) rest h a = table_begun (keyword_of (token.Word w)) (token.Word w) rest h a
kept_row-proper (token.Symbol name) rest h a = table_begun (keyword_of (token.Symbol name)) (token.Symbol name) rest h a
kept_row-proper (token.Char c) rest h a = kept_order-proper c rest h a
kept_row-proper (token.Text ps) rest h a = table_begun (keyword_of (token.Text ps)) (token.Text ps) rest h a
kept_row-proper token.Semicolon rest h a = table_begun (keyword_of token.Semicolon) token.Semicolon rest h a
kept_row-proper token.Comma rest h a = table_begun (keyword_of token.Comma) token.Comma rest h a

-- lines of deltas

delta_keyword : (word : Keyword) (rest : List Token) → All IsToken rest → IfOk (deltas.keyword_row word rest) IsProperDeltaLine
delta_keyword keyword.CollatingSymbol rest a = if_as IsName IsProperDeltaLine delta.Symbol (only name_in rest) (if_only IsName name_in rest a name_in-name) (λ name p. p)
delta_keyword keyword.CollatingElement rest a =
    if_as (λ read. IsName read.0 × IsElementText read.1) IsProperDeltaLine (λ read. delta.Element read.0 read.1) (element rest) (element-proper rest a) (λ read p. p)
delta_keyword keyword.SymbolEquivalence rest a =
    if_as (λ names. IsName names.0 × IsName names.1) IsProperDeltaLine (λ names. delta.Equivalence names.0 names.1) (two_names rest) (two_names-proper rest a) (λ names p. p)
delta_keyword keyword.OrderStart rest a = tt
delta_keyword keyword.OrderEnd rest a = tt
delta_keyword keyword.Section rest a = tt
delta_keyword keyword.Script rest a = if_as (λ _. Unit {0}) IsProperDeltaLine (λ name. delta.Script) (only name_in rest) (always (only name_in rest)) (λ _ _. tt)
delta_keyword keyword.Category rest a = if_ended IsProperDeltaLine delta.Category rest tt
delta_keyword keyword.End rest a =
    if_as (λ _. Unit {0}) IsProperDeltaLine (λ word. delta.EndCategory) (only (word_in (codes "LC_COLLATE")) rest) (always (only (word_in (codes "LC_COLLATE")) rest)) (λ _ _. tt)
delta_keyword keyword.Copy rest a = if_as (λ _. Unit {0}) IsProperDeltaLine (λ pieces. delta.Copy) (only string_in rest) (always (only string_in rest)) (λ _ _. tt)
delta_keyword keyword.ReorderAfter rest a = if_as IsId IsProperDeltaLine delta.ReorderAfter (only id_in rest) (if_only IsId id_in rest a id_in-proper) (λ id p. p)
delta_keyword keyword.ReorderEnd rest a = if_ended IsProperDeltaLine delta.ReorderEnd rest tt
delta_keyword keyword.ReorderSectionAfter rest a =
    if_as (λ names. IsName names.0 × IsName names.1) IsProperDeltaLine (λ names. delta.SectionAfter names.0 names.1) (two_names rest) (two_names-proper rest a) (λ names p. p)

delta_begun : (o : Option Keyword) (first : Token) (rest : List Token) → IsToken first → All IsToken rest → IfOk (deltas.begun_row o first rest) IsProperDeltaLine
delta_begun (Some word) first rest h a = delta_keyword word rest a
delta_begun None first rest h a = if_as IsProperLine IsProperDeltaLine delta.Order (order_line first rest) (order_line-proper first rest h a) (λ line p. p)

-- an answer that is what the grammar gives is proper

answered : {A : Type 0} (P : A → Type 0) (said result : Result A SyntaxFault) → IfOk result (λ read. said ≡ Ok read) → IfOk said P → IfOk result P
answered P said (Err f) e h = tt
answered P (Ok x) (Ok y) e h = let same : x ≡ y = cc in subst P same h
answered P (Err f) (Ok y) e h = cc

pub table_row-proper : (ts : List Token) (first : Token) (rest : List Token) (result : Result TableLine SyntaxFault) → AreTokens ts → ts ≡ first ∷ rest
    → IfOk result (λ read. tables.table_row first rest ≡ Ok read) → IfOk result IsProperTableLine
table_row-proper ts first rest result a e h =
    let each = All-same IsToken (first ∷ rest) ts (sym e) a.each in
    answered IsProperTableLine (tables.table_row first rest) result h (table_begun (keyword_of first) first rest (All-head IsToken first rest each) (All-tail IsToken first rest each))

pub kept_proper : (ts : List Token) (first : Token) (rest : List Token) (result : Result TableLine SyntaxFault) → AreTokens ts → ts ≡ first ∷ rest
    → IfOk result (λ read. kept_row first rest ≡ Ok read) → IfOk result IsProperTableLine
kept_proper ts first rest result a e h =
    let each = All-same IsToken (first ∷ rest) ts (sym e) a.each in
    answered IsProperTableLine (kept_row first rest) result h (kept_row-proper first rest (All-head IsToken first rest each) (All-tail IsToken first rest each))

pub delta_row-proper : (ts : List Token) (first : Token) (rest : List Token) (result : Result DeltaLine SyntaxFault) → AreTokens ts → ts ≡ first ∷ rest
    → IfOk result (λ read. deltas.delta_row first rest ≡ Ok read) → IfOk result IsProperDeltaLine
delta_row-proper ts first rest result a e h =
    let each = All-same IsToken (first ∷ rest) ts (sym e) a.each in
    answered IsProperDeltaLine (deltas.delta_row first rest) result h (delta_begun (keyword_of first) first rest (All-head IsToken first rest each) (All-tail IsToken first rest each))
