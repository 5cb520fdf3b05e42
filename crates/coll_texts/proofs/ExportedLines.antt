-- The lines of an exported text that the canonical one has not are read as their tokens.
use Rattle.std.proofs.Common.{ℕ, ◌+◌, ◌*◌, ◌≤◌, List, [], ◌∷◌, ◌++◌, length, map, codes, Some, refl, arith}
use lib.Utf8.{encode}
use Rattle.coll_lex.specs.Blanks.{past_blanks}
use Rattle.coll_lex.specs.Directives.{operand_of, directive}
use Rattle.coll_lex.specs.Names.{IsName}
use Rattle.coll_lex.specs.Spelling.{spelled_symbol}
use Rattle.coll_lex.specs.declared.tokens.Token.TheVariants as token
use Rattle.coll_syntax.specs.declared.lines.TableLine.TheVariants as line
use Rattle.coll_syntax.specs.declared.rules.Rule.{Rule}
use Rattle.coll_texts.specs.CanonicalText.{spelled_joined, spelled_rule}
use Rattle.coll_texts.specs.ExportedText.{script_line, start_line}
use Rattle.coll_texts.proofs.PrintedTokens.{tokens_joined, rule_tokens, start_tokens, start_is_read, script_tokens, script_is_read}
use Rattle.coll_texts.proofs.PrintedSpellings.{is_clean, is_letter, spells_both, spells_apart, separates_semicolon, semicolon_ends, spells_name}
use Rattle.coll_texts.proofs.PrintedLines.{IsLine, Says, line_from, spells_begun, spells_rules}

-- the line that tells the name of a section
script_is_line : (name : List ℕ) → IsName name → IsLine (script_line name) (token.Word (codes "script")) (token.Symbol name ∷ [])
unfolding is_letter is_clean directive operand_of past_blanks encode
script_is_line name is =
    line_from (λ rest. codes "script" ++ 32 ∷ spelled_symbol name rest) (token.Word (codes "script")) (token.Symbol name ∷ []) (6 + (1 + 258))
    (spells_begun 115 (codes "cript") (spelled_symbol name) (token.Symbol name ∷ []) 258 refl (spells_name name is)) (omega arith) (λ special. refl)

pub script_says : (name : List ℕ) → IsName name → Says (script_line name) line.Script
unfolding script_tokens
script_says name is = (token.Word (codes "script"), token.Symbol name ∷ [], script_is_line name is, script_is_read name)

-- the line that begins a section
start_is_line : (name : List ℕ) (rules : List Rule) → IsName name → length rules ≤ 4
    → IsLine (start_line rules (Some name)) (token.Word (codes "order_start")) (token.Symbol name ∷ token.Semicolon ∷ tokens_joined (map rule_tokens rules))
unfolding is_letter is_clean directive operand_of past_blanks encode
start_is_line name rules is few =
    let most : ℕ = 8259 * length rules in
    let behind = spelled_joined spelled_rule rules in
    let ts = tokens_joined (map rule_tokens rules) in
    line_from (λ rest. codes "order_start" ++ 32 ∷ spelled_symbol name (59 ∷ behind rest)) (token.Word (codes "order_start")) (token.Symbol name ∷ token.Semicolon ∷ ts) (11 + (1 + (258 + (1 + most))))
    (spells_begun 111 (codes "rder_start") (λ rest. spelled_symbol name (59 ∷ behind rest)) (token.Symbol name ∷ token.Semicolon ∷ ts) (258 + (1 + most)) refl
    (spells_both (spelled_symbol name) (λ rest. 59 ∷ behind rest) (token.Symbol name ∷ []) (token.Semicolon ∷ ts) 258 (1 + most) (spells_name name is)
    (spells_apart (λ rest. 59 ∷ rest) behind (token.Semicolon ∷ []) ts 1 most separates_semicolon (spells_rules rules)) (λ rest e. semicolon_ends (behind rest))))
    (omega arith) (λ special. refl)

pub start_says : (name : List ℕ) (rules : List Rule) → IsName name → 1 ≤ length rules → length rules ≤ 4 → Says (start_line rules (Some name)) (line.OrderStart (Some name) (Some rules))
unfolding start_tokens
start_says name rules is some few =
    (token.Word (codes "order_start"), token.Symbol name ∷ token.Semicolon ∷ tokens_joined (map rule_tokens rules), start_is_line name rules is few, start_is_read name rules some few)
