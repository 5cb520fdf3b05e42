-- Each canonical line is read as its tokens.
use Rattle.std.proofs.Common.{◌≡◌, ℕ, ◌+◌, ◌*◌, ◌≤◌, Bool, true, false, if◌then◌else◌, List, [], ◌∷◌, ◌++◌, All, length, map, codes, Some, None, Result, Ok, ap, subst, ◌∙◌, refl, arith}
use Rattle.std.specs.Prelude.{encode_utf8_all}
use Rattle.std.specs.List.{list_all}
use lib.Utf8.{scalars, encode}
use Rattle.std.proofs.lemmas.Bool.{and_parts}
use Rattle.std.proofs.lemmas.List.{length-map}
use Rattle.std.proofs.lemmas.List.Elements.{All-nil, All-cons, All-head, All-tail}
use Rattle.coll_lex.specs.Blanks.{past_blanks}
use Rattle.coll_lex.specs.Directives.{operand_of, directive}
use Rattle.coll_lex.specs.Marked.{marks, ends_escaped}
use Rattle.coll_lex.specs.Names.{IsName}
use Rattle.coll_lex.specs.Spelling.{spelled_symbol, spelled_code}
use Rattle.coll_lex.specs.Tokens.{atoms, Reading, AtEnd, stopped, reading, reading_of}
use Rattle.coll_lex.specs.declared.tokens.Chars.{Chars}
use Rattle.coll_lex.specs.declared.tokens.Token.{Token}
use Rattle.coll_lex.specs.declared.tokens.Token.TheVariants as token
use Rattle.coll_lex.specs.declared.tokens.Piece.TheVariants as piece
use Rattle.coll_syntax.specs.Proper.{IsId, IsWeightId, IsElementText, IsProperWeight}
use Rattle.coll_syntax.specs.TableLines.{table_line}
use Rattle.coll_syntax.specs.declared.lines.TableLine.{TableLine}
use Rattle.coll_syntax.specs.declared.syntax_faults.SyntaxFault.{SyntaxFault}
use Rattle.coll_syntax.specs.declared.lines.TableLine.TheVariants as line
use Rattle.coll_syntax.specs.declared.identifiers.Id.{Id}
use Rattle.coll_syntax.specs.declared.identifiers.Id.TheVariants.{Char, Named, Undefined}
use Rattle.coll_syntax.specs.declared.rules.Rule.{Rule}
use Rattle.coll_syntax.specs.declared.weights.Weight.{Weight}
use Rattle.coll_syntax.specs.declared.weights.Weight.TheVariants.{Ignore, Own, Names}
use Rattle.coll_nodes.specs.declared.declarations.Declaration.{Declaration}
use Rattle.coll_nodes.specs.declared.declarations.Declaration.TheVariants as declaration
use Rattle.coll_nodes.specs.declared.entries.Entry.{Entry}
use Rattle.coll_nodes.specs.OwnNames.{stands_for}
use Rattle.coll_nodes.specs.Table.{name_of, text_of}
use Rattle.coll_nodes.specs.Walks.{VisitedSection}
use Rattle.coll_syntax.specs.Weights.{is_own}
use Rattle.coll_texts.specs.CanonicalText.{spelled_behind, spelled_joined, spelled_id, spelled_string, spelled_own, spelled_names, spelled_weight}
use Rattle.coll_texts.specs.CanonicalText.{direction_word, spelled_position, spelled_rule, declaration_line, rules_line, entry_line, visited_line}
use Rattle.coll_texts.proofs.PrintedTokens.{tokens_behind, tokens_joined, id_token, id_piece, own_tokens, names_tokens, weight_tokens, order_tokens}
use Rattle.coll_texts.proofs.PrintedTokens.{position_tokens, rule_tokens, rules_tokens, declaration_tokens, section_tokens, order_read, declaration_read}
use Rattle.coll_texts.proofs.PrintedTokens.{declaration_is_read, rules_line_is_read, order_is_read, section_is_read, order_end_is_read, category_end_is_read}
use Rattle.coll_texts.proofs.PrintedSpellings.{with_tokens, EndsWord, is_clean, is_letter, Spells, spells_both, spells_wider, spells_nothing, spells_word, spells_apart, separates_space}
use Rattle.coll_texts.proofs.PrintedSpellings.{separates_semicolon, separates_comma, end_ends, space_ends, semicolon_ends, comma_ends, spells_id, spells_name, spells_string}

-- Lists of spellings.

module _ {X : Type 0} (spelled : X → List ℕ → List ℕ) (tokens : X → List Token) (P : X → Type 0) (each : (x : X) → P x → Spells (spelled x) (tokens x) 8258) where
  -- each semicolon ends a word
  behind_ends : (xs : List X) (rest : List ℕ) → EndsWord rest → EndsWord (spelled_behind spelled xs rest)
  behind_ends [] rest e = e
  behind_ends (x ∷ xs) rest e = semicolon_ends (spelled x (spelled_behind spelled xs rest))

  spells_behind : (xs : List X) → All P xs → Spells (spelled_behind spelled xs) (tokens_behind (map tokens xs)) (8259 * length xs)
  unfolding tokens_behind
  spells_behind [] h = spells_nothing
  spells_behind (x ∷ xs) h =
      let more = spells_both (spelled x) (spelled_behind spelled xs) (tokens x) (tokens_behind (map tokens xs)) 8258 (8259 * length xs) (each x (All-head P x xs h))
      (spells_behind xs (All-tail P x xs h)) (behind_ends xs) in
      let all = spells_apart (λ rest. 59 ∷ rest) (λ rest. spelled x (spelled_behind spelled xs rest)) (token.Semicolon ∷ []) (tokens x ++ tokens_behind (map tokens xs)) 1 (8258 + 8259 * length xs)
      separates_semicolon more in
      spells_wider (spelled_behind spelled (x ∷ xs)) (tokens_behind (map tokens (x ∷ xs))) (1 + (8258 + 8259 * length xs)) (8259 * length (x ∷ xs)) (omega arith) all

  -- members with a semicolon between them
  pub spells_joined : (xs : List X) → All P xs → Spells (spelled_joined spelled xs) (tokens_joined (map tokens xs)) (8259 * length xs)
  unfolding tokens_joined
  spells_joined [] h = spells_nothing
  spells_joined (x ∷ xs) h =
      spells_wider (spelled_joined spelled (x ∷ xs)) (tokens x ++ tokens_behind (map tokens xs)) (8258 + 8259 * length xs) (8259 * length (x ∷ xs)) (omega arith)
      (spells_both (spelled x) (spelled_behind spelled xs) (tokens x) (tokens_behind (map tokens xs)) 8258 (8259 * length xs) (each x (All-head P x xs h)) (spells_behind xs (All-tail P x xs h))
      (behind_ends xs))

-- Rules.

spells_position : (position : Bool) → Spells (spelled_position position) (position_tokens position) 9
unfolding position_tokens is_letter is_clean
spells_position true = spells_apart (λ rest. 44 ∷ rest) (λ rest. codes "position" ++ rest) (token.Comma ∷ []) (token.Word (codes "position") ∷ []) 1 8 separates_comma
    (spells_word 112 (codes "osition") refl)
spells_position false = spells_wider (λ rest. rest) [] 0 9 (omega arith) spells_nothing

position_ends : (position : Bool) (rest : List ℕ) → EndsWord rest → EndsWord (spelled_position position rest)
position_ends true rest e = comma_ends (codes "position" ++ rest)
position_ends false rest e = e

spells_direction : (backward : Bool) → Spells (λ rest. direction_word backward ++ rest) (token.Word (direction_word backward) ∷ []) 8
unfolding is_letter is_clean
spells_direction true = spells_word 98 (codes "ackward") refl
spells_direction false = spells_wider (λ rest. codes "forward" ++ rest) (token.Word (codes "forward") ∷ []) 7 8 (omega arith) (spells_word 102 (codes "orward") refl)

spells_rule : (r : Rule) → Unit {0} → Spells (spelled_rule r) (rule_tokens r) 8258
unfolding rule_tokens
spells_rule r h =
    spells_wider (spelled_rule r) (token.Word (direction_word r.backward) ∷ position_tokens r.position) (8 + 9) 8258 (omega arith)
    (spells_both (λ rest. direction_word r.backward ++ rest) (spelled_position r.position) (token.Word (direction_word r.backward) ∷ []) (position_tokens r.position) 8 9 (spells_direction r.backward)
    (spells_position r.position) (position_ends r.position))

-- rules with a semicolon between them
pub spells_rules : (rules : List Rule) → Spells (spelled_joined spelled_rule rules) (tokens_joined (map rule_tokens rules)) (8259 * length rules)
spells_rules rules = spells_joined spelled_rule rule_tokens (λ r. Unit {0}) spells_rule rules (λ k d below. tt)

-- Weights.

-- what may stand in a weight is an identifier
weight_id_is : (id : Id) → IsWeightId id → IsId id
weight_id_is (Char c) h = h
weight_id_is (Named name) h = h
weight_id_is Undefined h = absurd h

spells_own : (owner : Id) → IsId owner → Spells (spelled_own owner) (own_tokens owner) 258
unfolding own_tokens id_token
spells_own (Char c) h = spells_id (Char c) h
spells_own (Named name) h = spells_id (Named name) h
spells_own Undefined h = spells_wider (λ rest. rest) [] 0 258 (omega arith) spells_nothing

spells_names : (ids : List Id) → length ids ≤ 32 → All IsWeightId ids → Spells (spelled_names ids) (names_tokens ids) 8258
unfolding names_tokens
spells_names [] few h = spells_string [] few h
spells_names (only ∷ []) few h = spells_wider (spelled_id only) (id_token only ∷ []) 258 8258 (omega arith) (spells_id only (weight_id_is only (All-head IsWeightId only [] h)))
spells_names (first ∷ second ∷ later) few h = spells_string (first ∷ second ∷ later) few h

spells_weight : (owner : Id) → IsId owner → (w : Weight) → IsProperWeight w → Spells (spelled_weight owner w) (weight_tokens owner w) 8258
unfolding weight_tokens is_letter is_clean
spells_weight owner o Ignore h = spells_wider (λ rest. codes "IGNORE" ++ rest) (token.Word (codes "IGNORE") ∷ []) 6 8258 (omega arith) (spells_word 73 (codes "GNORE") refl)
spells_weight owner o Own h = spells_wider (spelled_own owner) (own_tokens owner) 258 8258 (omega arith) (spells_own owner o)
spells_weight owner o (Names ids) h = spells_names ids h.1 h.2

-- Lines.

-- a line that a lexer with `%` and `/` reads as these tokens, and that no text chooses its characters by
pub record IsLine (line : List ℕ) (t : Token) (ts : List Token) : Type 0 where
  pub reads : reading_of 37 (marks 47 false line) ≡ record { tokens = t ∷ ts; stop = AtEnd }
  pub whole : ends_escaped 47 false line ≡ false
  pub clean : list_all is_clean line ≡ true
  pub short : length (encode_utf8_all line) ≤ 65536
  pub chooses : (special : Chars) → directive special (encode_utf8_all line) ≡ None

-- all tokens, and then the end
tokens_at_end : (ts : List Token) → with_tokens ts (stopped AtEnd) ≡ record { tokens = ts; stop = AtEnd }
unfolding with_tokens
tokens_at_end [] = refl
tokens_at_end (t ∷ ts) = ap (λ (r : Reading). record { tokens = t ∷ r.tokens; stop = r.stop }) (tokens_at_end ts)

-- a spelling with nothing behind it
pub line_from : (f : List ℕ → List ℕ) (t : Token) (ts : List Token) (most : ℕ) → Spells f (t ∷ ts) most → most ≤ 65536 → ((special : Chars) → directive special (encode_utf8_all (f [])) ≡ None)
    → IsLine (f []) t ts
unfolding marks atoms reading ends_escaped
line_from f t ts most h few chooses =
    let keeps = h.keeps in
    record {
      reads = h.reads [] end_ends ∙ tokens_at_end (t ∷ ts);
      whole = keeps.stays [];
      clean = keeps.clean [] refl;
      short = let s = keeps.short [] in omega arith;
      chooses = chooses;
    }

-- a word, a space, and what follows
pub spells_begun : (c : ℕ) (cs : List ℕ) (g : List ℕ → List ℕ) (ts : List Token) (most : ℕ) → list_all is_letter (c ∷ cs) ≡ true → Spells g ts most
    → Spells (λ rest. (c ∷ cs) ++ 32 ∷ g rest) (token.Word (c ∷ cs) ∷ ts) (length (c ∷ cs) + (1 + most))
spells_begun c cs g ts most word h =
    spells_both (λ rest. (c ∷ cs) ++ rest) (λ rest. 32 ∷ g rest) (token.Word (c ∷ cs) ∷ []) ts (length (c ∷ cs)) (1 + most) (spells_word c cs word)
    (spells_apart (λ rest. 32 ∷ rest) g [] ts 1 most separates_space h) (λ rest e. space_ends (g rest))

-- The line that begins a section, and the lines of words alone.

section_is_line : (name : List ℕ) → IsName name → IsLine (visited_line (VisitedSection name)) (token.Word (codes "section")) (token.Symbol name ∷ [])
unfolding is_letter is_clean directive operand_of past_blanks encode
section_is_line name is =
    line_from (λ rest. codes "section" ++ 32 ∷ spelled_symbol name rest) (token.Word (codes "section")) (token.Symbol name ∷ []) (7 + (1 + 258))
    (spells_begun 115 (codes "ection") (spelled_symbol name) (token.Symbol name ∷ []) 258 refl (spells_name name is)) (omega arith) (λ special. refl)

pub order_end_is_line : IsLine (codes "order_end") (token.Word (codes "order_end")) []
unfolding is_letter is_clean directive operand_of past_blanks encode
order_end_is_line = line_from (λ rest. codes "order_end" ++ rest) (token.Word (codes "order_end")) [] 9 (spells_word 111 (codes "rder_end") refl) (omega arith) (λ special. refl)

pub category_end_is_line : IsLine (codes "END LC_COLLATE") (token.Word (codes "END")) (token.Word (codes "LC_COLLATE") ∷ [])
unfolding is_letter is_clean directive operand_of past_blanks encode
category_end_is_line =
    line_from (λ rest. codes "END" ++ 32 ∷ (codes "LC_COLLATE" ++ rest)) (token.Word (codes "END")) (token.Word (codes "LC_COLLATE") ∷ []) (3 + (1 + 10))
    (spells_begun 69 (codes "ND") (λ rest. codes "LC_COLLATE" ++ rest) (token.Word (codes "LC_COLLATE") ∷ []) 10 refl (spells_word 76 (codes "C_COLLATE") refl)) (omega arith) (λ special. refl)

-- The line of the rules.

pub rules_is_line : (rules : List Rule) → length rules ≤ 4 → IsLine (rules_line rules) (token.Word (codes "order_start")) (tokens_joined (map rule_tokens rules))
unfolding is_letter is_clean directive operand_of past_blanks encode
rules_is_line rules few =
    line_from (λ rest. codes "order_start" ++ 32 ∷ spelled_joined spelled_rule rules rest) (token.Word (codes "order_start")) (tokens_joined (map rule_tokens rules)) (11 + (1 + 8259 * length rules))
    (spells_begun 111 (codes "rder_start") (spelled_joined spelled_rule rules) (tokens_joined (map rule_tokens rules)) (8259 * length rules) refl (spells_rules rules)) (omega arith) (λ special. refl)

-- The line of a declaration.

-- the characters of a string are spelled, and its pieces are they
text_spelled : (text : List ℕ) → scalars text ≡ true → All IsWeightId (map Char text)
text_spelled [] h = All-nil IsWeightId
text_spelled (c ∷ cs) h = let a = and_parts _ _ h in All-cons IsWeightId (Char c) (map Char cs) a.0 (text_spelled cs a.1)

text_pieces : (text : List ℕ) → map id_piece (map Char text) ≡ map piece.Char text
unfolding id_piece
text_pieces [] = refl
text_pieces (c ∷ cs) = ap (λ l. piece.Char c ∷ l) (text_pieces cs)

-- a name, the name that it stands for, and a string of characters
pub record IsSpelledDeclaration (d : Declaration) : Type 0 where
  pub name : IsName (name_of d)
  pub own : IsName (stands_for d)
  pub texts : All IsElementText (text_of d)

from_spells : (text : List ℕ) → IsElementText text
    → Spells (λ rest. 32 ∷ (codes "from" ++ 32 ∷ spelled_string (map Char text) rest)) (token.Word (codes "from") ∷ token.Text (map piece.Char text) ∷ []) (1 + (4 + (1 + 8258)))
unfolding is_letter is_clean
from_spells text few =
    let string = subst (λ ps. Spells (spelled_string (map Char text)) (token.Text ps ∷ []) 8258) (text_pieces text)
    (spells_string (map Char text) (let short = few.1 in omega (arith, length-map text Char)) (text_spelled text few.2)) in
    spells_apart (λ rest. 32 ∷ rest) (λ rest. codes "from" ++ 32 ∷ spelled_string (map Char text) rest) [] (token.Word (codes "from") ∷ token.Text (map piece.Char text) ∷ []) 1 (4 + (1 + 8258))
    separates_space
    (spells_begun 102 (codes "rom") (spelled_string (map Char text)) (token.Text (map piece.Char text) ∷ []) 8258 refl string)

pub symbol_is_line : (name : List ℕ) → IsName name → IsLine (declaration_line (declaration.Symbol name)) (token.Word (codes "collating-symbol")) (token.Symbol name ∷ [])
unfolding is_letter is_clean directive operand_of past_blanks encode
symbol_is_line name is =
    line_from (λ rest. codes "collating-symbol" ++ 32 ∷ spelled_symbol name rest) (token.Word (codes "collating-symbol")) (token.Symbol name ∷ []) (16 + (1 + 258))
    (spells_begun 99 (codes "ollating-symbol") (spelled_symbol name) (token.Symbol name ∷ []) 258 refl (spells_name name is)) (omega arith) (λ special. refl)

pub element_is_line : (name text : List ℕ) → IsName name → IsElementText text
    → IsLine (declaration_line (declaration.Element name text)) (token.Word (codes "collating-element")) (token.Symbol name ∷ token.Word (codes "from") ∷ token.Text (map piece.Char text) ∷ [])
unfolding is_letter is_clean directive operand_of past_blanks encode
element_is_line name text is few =
    line_from (λ rest. codes "collating-element" ++ 32 ∷ spelled_symbol name (32 ∷ (codes "from" ++ 32 ∷ spelled_string (map Char text) rest))) (token.Word (codes "collating-element"))
    (token.Symbol name ∷ token.Word (codes "from") ∷ token.Text (map piece.Char text) ∷ []) (17 + (1 + (258 + (1 + (4 + (1 + 8258))))))
    (spells_begun 99 (codes "ollating-element") (λ rest. spelled_symbol name (32 ∷ (codes "from" ++ 32 ∷ spelled_string (map Char text) rest)))
    (token.Symbol name ∷ token.Word (codes "from") ∷ token.Text (map piece.Char text) ∷ []) (258 + (1 + (4 + (1 + 8258)))) refl
    (spells_both (spelled_symbol name) (λ rest. 32 ∷ (codes "from" ++ 32 ∷ spelled_string (map Char text) rest)) (token.Symbol name ∷ []) (token.Word (codes "from") ∷ token.Text (map piece.Char text)
    ∷ []) 258 (1 + (4 + (1 + 8258))) (spells_name name is) (from_spells text few) (λ rest e. space_ends (codes "from" ++ 32 ∷ spelled_string (map Char text) rest))))
    (omega arith) (λ special. refl)

-- two names with a space between them
pub spells_names_apart : (first second : List ℕ) → IsName first → IsName second
    → Spells (λ rest. spelled_symbol first (32 ∷ spelled_symbol second rest)) (token.Symbol first ∷ token.Symbol second ∷ []) (258 + (1 + 258))
spells_names_apart first second is other =
    spells_both (spelled_symbol first) (λ rest. 32 ∷ spelled_symbol second rest) (token.Symbol first ∷ []) (token.Symbol second ∷ []) 258 (1 + 258) (spells_name first is)
    (spells_apart (λ rest. 32 ∷ rest) (spelled_symbol second) [] (token.Symbol second ∷ []) 1 258 separates_space (spells_name second other)) (λ rest e. space_ends (spelled_symbol second rest))

pub equivalence_is_line : (name symbol : List ℕ) → IsName name → IsName symbol
    → IsLine (declaration_line (declaration.Equivalence name symbol)) (token.Word (codes "symbol-equivalence")) (token.Symbol name ∷ token.Symbol symbol ∷ [])
unfolding is_letter is_clean directive operand_of past_blanks encode
equivalence_is_line name symbol is own =
    line_from (λ rest. codes "symbol-equivalence" ++ 32 ∷ spelled_symbol name (32 ∷ spelled_symbol symbol rest)) (token.Word (codes "symbol-equivalence"))
    (token.Symbol name ∷ token.Symbol symbol ∷ []) (18 + (1 + (258 + (1 + 258))))
    (spells_begun 115 (codes "ymbol-equivalence") (λ rest. spelled_symbol name (32 ∷ spelled_symbol symbol rest)) (token.Symbol name ∷ token.Symbol symbol ∷ []) (258 + (1 + 258)) refl
    (spells_names_apart name symbol is own)) (omega arith) (λ special. refl)

-- The line of an entry.

-- an entry whose identifier and weights are spelled
pub record IsSpelledEntry (e : Entry) : Type 0 where
  pub id : IsId e.id
  pub weights : All IsProperWeight e.weights
  pub few : length e.weights ≤ 4

-- it begins as no directive does
entry_chooses : (id : Id) (rest : List ℕ) (special : Chars) → directive special (encode_utf8_all (spelled_id id rest)) ≡ None
unfolding directive operand_of past_blanks encode spelled_symbol spelled_code
entry_chooses (Char c) rest special = refl
entry_chooses (Named name) rest special = refl
entry_chooses Undefined rest special = refl

-- an identifier alone
pub id_is_line : (id : Id) → IsId id → IsLine (spelled_id id []) (id_token id) []
id_is_line id h = line_from (spelled_id id) (id_token id) [] 258 (spells_id id h) (omega arith) (entry_chooses id [])

-- an identifier, and the weights of an owner behind it
pub weighted_is_line : (id owner : Id) (ws : List Weight) → IsId id → IsId owner → All IsProperWeight ws → length ws ≤ 4
    → IsLine (spelled_id id (32 ∷ spelled_joined (spelled_weight owner) ws [])) (id_token id) (tokens_joined (map (weight_tokens owner) ws))
weighted_is_line id owner ws h o hs few =
    line_from (λ rest. spelled_id id (32 ∷ spelled_joined (spelled_weight owner) ws rest)) (id_token id) (tokens_joined (map (weight_tokens owner) ws)) (258 + (1 + 8259 * length ws))
    (spells_both (spelled_id id) (λ rest. 32 ∷ spelled_joined (spelled_weight owner) ws rest) (id_token id ∷ []) (tokens_joined (map (weight_tokens owner) ws)) 258 (1 + 8259 * length ws)
    (spells_id id h)
    (spells_apart (λ rest. 32 ∷ rest) (spelled_joined (spelled_weight owner) ws) [] (tokens_joined (map (weight_tokens owner) ws)) 1 (8259 * length ws) separates_space
    (spells_joined (spelled_weight owner) (weight_tokens owner) IsProperWeight (spells_weight owner o) ws hs))
    (λ rest e. space_ends (spelled_joined (spelled_weight owner) ws rest)))
    (omega arith) (entry_chooses id (32 ∷ spelled_joined (spelled_weight owner) ws []))

entry_is_line : (id : Id) (ws : List Weight) (own : Bool) → list_all is_own ws ≡ own → IsId id → All IsProperWeight ws → length ws ≤ 4
    → IsLine (spelled_id id (if own then [] else 32 ∷ spelled_joined (spelled_weight id) ws [])) (id_token id) (if own then [] else tokens_joined (map (weight_tokens id) ws))
entry_is_line id ws true e h hs few = id_is_line id h
entry_is_line id ws false e h hs few = weighted_is_line id id ws h h hs few

-- What a line says.

-- a line that is read, and that says this to a grammar
abbrev pub SaysTo : {R : Type 0} → (List Token → Result R SyntaxFault) → List ℕ → R → Type 0
SaysTo grammar line read = (t : Token) × (ts : List Token) × IsLine line t ts × (grammar (t ∷ ts) ≡ Ok read)

-- a line that says this to the grammar of tables
abbrev pub Says : List ℕ → TableLine → Type 0
Says line read = SaysTo table_line line read

-- the line of a declaration
pub declaration_says : (d : Declaration) → IsSpelledDeclaration d → Says (declaration_line d) (declaration_read d)
unfolding declaration_tokens declaration_read
declaration_says (declaration.Symbol name) h =
    (token.Word (codes "collating-symbol"), token.Symbol name ∷ [], symbol_is_line name h.name, declaration_is_read (declaration.Symbol name) h.texts)
declaration_says (declaration.Element name text) h = (
  token.Word (codes "collating-element"),
  token.Symbol name ∷ token.Word (codes "from") ∷ token.Text (map piece.Char text) ∷ [],
  element_is_line name text h.name (All-head IsElementText text [] h.texts),
  declaration_is_read (declaration.Element name text) h.texts,
)
declaration_says (declaration.Equivalence name symbol) h = (
  token.Word (codes "symbol-equivalence"),
  token.Symbol name ∷ token.Symbol symbol ∷ [],
  equivalence_is_line name symbol h.name h.own,
  declaration_is_read (declaration.Equivalence name symbol) h.texts,
)

-- the line of the rules
pub rules_say : (rules : List Rule) → 1 ≤ length rules → length rules ≤ 4 → Says (rules_line rules) (line.OrderStart None (Some rules))
unfolding rules_tokens
rules_say rules some few = (token.Word (codes "order_start"), tokens_joined (map rule_tokens rules), rules_is_line rules few, rules_line_is_read rules some few)

-- the line of an entry
pub entry_says : (e : Entry) → IsSpelledEntry e → Says (entry_line e) (line.Order (order_read e.id e.weights))
unfolding order_tokens
entry_says e h =
    let own = list_all is_own e.weights in
    (id_token e.id, (if own then [] else tokens_joined (map (weight_tokens e.id) e.weights)), entry_is_line e.id e.weights own refl h.id h.weights h.few, order_is_read e.id e.weights h.weights)

-- the line that begins a section
pub section_says : (name : List ℕ) → IsName name → Says (visited_line (VisitedSection name)) (line.Section name)
unfolding section_tokens
section_says name is = (token.Word (codes "section"), token.Symbol name ∷ [], section_is_line name is, section_is_read name)

-- the lines behind the last entry
pub order_end_says : Says (codes "order_end") line.OrderEnd
order_end_says = (token.Word (codes "order_end"), [], order_end_is_line, order_end_is_read)

pub category_end_says : Says (codes "END LC_COLLATE") line.EndCategory
category_end_says = (token.Word (codes "END"), token.Word (codes "LC_COLLATE") ∷ [], category_end_is_line, category_end_is_read)
