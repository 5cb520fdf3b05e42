-- The tokens of each canonical line, and what the grammar says of them.
use Rattle.std.proofs.Common.{◌≡◌, ℕ, ◌<◌, ◌≤◌, Bool, true, false, if◌then◌else◌, nat_le, List, [], ◌∷◌, ◌++◌, All, length}
use Rattle.std.proofs.Common.{map, drop, Some, None, Result, Ok, Err, codes, refl, ap, ◌∙◌, arith, append-nil}
use Rattle.std.specs.List.{list_all}
use Rattle.std.proofs.lemmas.Bool.{le-leb}
use Rattle.std.proofs.lemmas.List.{length-map, length-append, take_all, drop_all}
use Rattle.std.proofs.lemmas.List.Elements.{All-nil, All-cons, All-head, All-tail}
use Rattle.std.proofs.lemmas.List.Splits.{slice_split_none, slice_split_at}
use Rattle.coll_lex.specs.declared.tokens.Token.{Token}
use Rattle.coll_lex.specs.declared.tokens.Token.TheVariants as token
use Rattle.coll_lex.specs.declared.tokens.Piece.{Piece}
use Rattle.coll_lex.specs.declared.tokens.Piece.TheVariants as piece
use Rattle.coll_syntax.specs.Identifier.{id_of}
use Rattle.coll_syntax.specs.Keywords.{keyword_of}
use Rattle.coll_syntax.specs.Operands.{and_then, read_as, ended, is_semicolon, operands_of, all_read}
use Rattle.coll_syntax.specs.Elements.{characters_of, element_text}
use Rattle.coll_syntax.specs.Proper.{IsElementText, IsWeightId, IsProperWeight}
use Rattle.coll_syntax.specs.OrderLines.{weighted}
use Rattle.coll_syntax.specs.Weights.{string_weight, operand_weight, weights, piece_id, is_own}
use Rattle.coll_syntax.specs.Rules.{rule, judged_levels, rules}
use Rattle.coll_syntax.specs.TableLines.{table_line, order_start, begun_row}
use Rattle.coll_syntax.specs.declared.identifiers.Id.{Id}
use Rattle.coll_syntax.specs.declared.identifiers.Id.TheVariants.{Char, Named, Undefined}
use Rattle.coll_syntax.specs.declared.weights.Weight.{Weight}
use Rattle.coll_syntax.specs.declared.weights.Weight.TheVariants.{Ignore, Own, Names}
use Rattle.coll_syntax.specs.declared.rules.Rule.{Rule}
use Rattle.coll_syntax.specs.declared.statements.OrderLine.{OrderLine}
use Rattle.coll_syntax.specs.declared.lines.TableLine.{TableLine}
use Rattle.coll_syntax.specs.declared.lines.TableLine.TheVariants as line
use Rattle.coll_syntax.specs.declared.syntax_faults.SyntaxFault.{SyntaxFault}
use Rattle.coll_syntax.specs.declared.syntax_faults.SyntaxFault.TheVariants.{WeightTooLong, TooManyLevels}
use Rattle.coll_nodes.specs.declared.declarations.Declaration.{Declaration}
use Rattle.coll_nodes.specs.declared.declarations.Declaration.TheVariants as declaration
use Rattle.coll_nodes.specs.Table.{text_of}
use Rattle.coll_texts.specs.CanonicalText.{direction_word}

-- Operands with semicolons between them.

-- operands with a semicolon before each
unfoldable pub tokens_behind : List (List Token) → List Token
tokens_behind [] = []
tokens_behind (op ∷ ops) = token.Semicolon ∷ (op ++ tokens_behind ops)

-- operands with a semicolon between them
unfoldable pub tokens_joined : List (List Token) → List Token
tokens_joined [] = []
tokens_joined (op ∷ ops) = op ++ tokens_behind ops

-- no semicolon is in an operand
abbrev pub IsOperand : List Token → Type 0
IsOperand op = All (λ t. is_semicolon t ≡ false) op

one_operand : (t : Token) → is_semicolon t ≡ false → IsOperand (t ∷ [])
one_operand t h = All-cons (λ t. is_semicolon t ≡ false) t [] h (All-nil (λ t. is_semicolon t ≡ false))

-- cut at the semicolons, these are the operands
cut_joined : (op : List Token) (ops : List (List Token)) → IsOperand op → All IsOperand ops → operands_of (op ++ tokens_behind ops) ≡ op ∷ ops
unfolding tokens_behind
cut_joined op [] h hs = ap operands_of (append-nil op) ∙ slice_split_none is_semicolon op h
cut_joined op (next ∷ ops) h hs =
    slice_split_at is_semicolon op token.Semicolon (next ++ tokens_behind ops) h refl
    ∙ ap (λ more. op ∷ more) (cut_joined next ops (All-head IsOperand next ops hs) (All-tail IsOperand next ops hs))

-- what each operand says, all say together
read_each : {A X : Type 0} (read : List Token → Result A SyntaxFault) (tokens : X → List Token) (says : X → A) (P : X → Type 0) → ((x : X) → P x → read (tokens x) ≡ Ok (says x)) → (xs : List X)
    → All P xs → all_read (map read (map tokens xs)) ≡ Ok (map says xs)
unfolding all_read
read_each read tokens says P each [] h = refl
read_each read tokens says P each (x ∷ xs) h = rw (each x (All-head P x xs h), read_each read tokens says P each xs (All-tail P x xs h)) refl

-- Identifiers and weights.

-- the token of an identifier
unfoldable pub id_token : Id → Token
id_token (Char c) = token.Char c
id_token (Named name) = token.Symbol name
id_token Undefined = token.Word (codes "UNDEFINED")

-- the piece of an identifier in a string, where UNDEFINED can't stand
unfoldable pub id_piece : Id → Piece
id_piece (Char c) = piece.Char c
id_piece (Named name) = piece.Name name
id_piece Undefined = piece.Name []

-- the tokens of an entry's own weight
unfoldable pub own_tokens : Id → List Token
own_tokens (Char c) = token.Char c ∷ []
own_tokens (Named name) = token.Symbol name ∷ []
own_tokens Undefined = []

-- the tokens of a weight that is a list
unfoldable pub names_tokens : List Id → List Token
names_tokens [] = token.Text [] ∷ []
names_tokens (only ∷ []) = id_token only ∷ []
names_tokens (first ∷ second ∷ later) = token.Text (map id_piece (first ∷ second ∷ later)) ∷ []

-- the tokens of a weight
unfoldable pub weight_tokens : Id → Weight → List Token
weight_tokens owner Ignore = token.Word (codes "IGNORE") ∷ []
weight_tokens owner Own = own_tokens owner
weight_tokens owner (Names ids) = names_tokens ids

-- what an entry's own weight is read as
unfoldable pub own_read : Id → Weight
own_read (Char c) = Names (Char c ∷ [])
own_read (Named name) = Names (Named name ∷ [])
own_read Undefined = Own

-- what a weight is read as
unfoldable pub weight_read : Id → Weight → Weight
weight_read owner Ignore = Ignore
weight_read owner Own = own_read owner
weight_read owner (Names ids) = Names ids

-- the pieces of a string give its identifiers back
pieces_read : (ids : List Id) → All IsWeightId ids → map piece_id (map id_piece ids) ≡ ids
unfolding id_piece
pieces_read [] h = refl
pieces_read (id ∷ ids) h = let more = pieces_read ids (All-tail IsWeightId id ids h) in piece_read id (All-head IsWeightId id ids h) more where
  piece_read : (id : Id) → IsWeightId id → map piece_id (map id_piece ids) ≡ ids → map piece_id (map id_piece (id ∷ ids)) ≡ id ∷ ids
  piece_read (Char c) h more = ap (λ l. Char c ∷ l) more
  piece_read (Named name) h more = ap (λ l. Named name ∷ l) more
  piece_read Undefined h more = absurd h

-- a string gives its identifiers back
string_read : (first : Id) (later : List Id) → length (first ∷ later) ≤ 32 → All IsWeightId (first ∷ later) → string_weight (map id_piece (first ∷ later)) ≡ Ok (Names (first ∷ later))
string_read first later short h =
    let count : length (map id_piece (first ∷ later)) ≡ length (first ∷ later) = length-map (first ∷ later) id_piece in
    let few : nat_le (length (map id_piece (first ∷ later))) 32 ≡ true = ap (λ n. nat_le n 32) count ∙ le-leb (length (first ∷ later)) 32 short in
    ap (λ b. if b then Ok (Names (map piece_id (map id_piece (first ∷ later)))) else Err WeightTooLong) few ∙ ap (λ ids. Ok (Names ids)) (pieces_read (first ∷ later) h)

-- one identifier is read as a list of one
one_read : (id : Id) → IsWeightId id → operand_weight (id_token id ∷ []) ≡ Ok (Names (id ∷ []))
unfolding id_token
one_read (Char c) h = refl
one_read (Named name) h = refl
one_read Undefined h = absurd h

-- the operand of a weight is read
weight_is_read : (owner : Id) (w : Weight) → IsProperWeight w → operand_weight (weight_tokens owner w) ≡ Ok (weight_read owner w)
unfolding weight_tokens weight_read own_tokens own_read names_tokens
weight_is_read owner Ignore h = refl
weight_is_read (Char c) Own h = refl
weight_is_read (Named name) Own h = refl
weight_is_read Undefined Own h = refl
weight_is_read owner (Names []) h = absurd (omega (arith, h.0))
weight_is_read owner (Names (only ∷ [])) h = one_read only (All-head IsWeightId only [] h.2)
weight_is_read owner (Names (first ∷ second ∷ later)) h = string_read first (second ∷ later) h.1 h.2

-- a token is no semicolon
weight_is_operand : (owner : Id) (w : Weight) → IsOperand (weight_tokens owner w)
unfolding weight_tokens own_tokens names_tokens id_token
weight_is_operand owner Ignore = one_operand (token.Word (codes "IGNORE")) refl
weight_is_operand (Char c) Own = one_operand (token.Char c) refl
weight_is_operand (Named name) Own = one_operand (token.Symbol name) refl
weight_is_operand Undefined Own = All-nil (λ t. is_semicolon t ≡ false)
weight_is_operand owner (Names []) = one_operand (token.Text []) refl
weight_is_operand owner (Names (Char c ∷ [])) = one_operand (token.Char c) refl
weight_is_operand owner (Names (Named name ∷ [])) = one_operand (token.Symbol name) refl
weight_is_operand owner (Names (Undefined ∷ [])) = one_operand (token.Word (codes "UNDEFINED")) refl
weight_is_operand owner (Names (first ∷ second ∷ later)) = one_operand (token.Text (map id_piece (first ∷ second ∷ later))) refl

-- the operands of members, none of which has a semicolon
cut_members : {X : Type 0} (tokens : X → List Token) → ((x : X) → IsOperand (tokens x)) → (x : X) (xs : List X) → operands_of (tokens_joined (map tokens (x ∷ xs))) ≡ map tokens (x ∷ xs)
unfolding tokens_joined
cut_members {X = X} tokens each x xs = cut_joined (tokens x) (map tokens xs) (each x) (all_operands xs) where
  all_operands : (xs : List X) → All IsOperand (map tokens xs)
  all_operands [] = All-nil IsOperand
  all_operands (x ∷ xs) = All-cons IsOperand (tokens x) (map tokens xs) (each x) (all_operands xs)

-- the weights of a line are read
pub weights_are_read : (owner : Id) (w : Weight) (ws : List Weight) → All IsProperWeight (w ∷ ws) → weights (tokens_joined (map (weight_tokens owner) (w ∷ ws))) ≡ Ok (map (weight_read owner) (w ∷ ws))
unfolding weights
weights_are_read owner w ws h =
    ap (λ ops. all_read (map operand_weight ops)) (cut_members (weight_tokens owner) (weight_is_operand owner) w ws)
    ∙ read_each operand_weight (weight_tokens owner) (weight_read owner) IsProperWeight (weight_is_read owner) (w ∷ ws) h

-- the tokens of a line whose weights aren't all the entry's own are some
pub some_weights : (owner : Id) (ws : List Weight) → list_all is_own ws ≡ false → 0 < length (tokens_joined (map (weight_tokens owner) ws))
unfolding tokens_joined tokens_behind weight_tokens names_tokens
some_weights owner [] h = cc
some_weights owner (Ignore ∷ []) h = omega arith
some_weights owner (Own ∷ []) h = cc
some_weights owner (Names [] ∷ []) h = omega arith
some_weights owner (Names (only ∷ []) ∷ []) h = omega arith
some_weights owner (Names (first ∷ second ∷ later) ∷ []) h = omega arith
some_weights owner (w ∷ next ∷ ws) h = omega (arith, length-append (weight_tokens owner w) (tokens_behind (map (weight_tokens owner) (next ∷ ws))))

-- an identifier is read
pub id_is_read : (id : Id) → id_of (id_token id) ≡ Some id
unfolding id_token
id_is_read (Char c) = refl
id_is_read (Named name) = refl
id_is_read Undefined = refl

-- it begins no other line
pub id_begins_order : (id : Id) → keyword_of (id_token id) ≡ None
unfolding keyword_of id_token
id_begins_order (Char c) = refl
id_begins_order (Named name) = refl
id_begins_order Undefined = refl

-- some tokens behind an identifier are its weights
pub weights_behind_id : (id : Id) (given : List Weight) (ts : List Token) → 0 < length ts → weights ts ≡ Ok given → weighted (Some id) ts ≡ Ok (record { id = id; weights = Some given })
weights_behind_id id given [] some e = absurd (omega (arith, some))
weights_behind_id id given (t ∷ ts) some e = rw e refl

-- The lines.

-- the order line of an entry, as it is read
unfoldable pub order_read : Id → List Weight → OrderLine
order_read id ws = record { id = id; weights = if list_all is_own ws then None else Some (map (weight_read id) ws) }

-- the tokens of the line of an entry
unfoldable pub order_tokens : Id → List Weight → List Token
order_tokens id ws = id_token id ∷ (if list_all is_own ws then [] else tokens_joined (map (weight_tokens id) ws))

-- the line of an entry is read
pub order_is_read : (id : Id) (ws : List Weight) → All IsProperWeight ws → table_line (order_tokens id ws) ≡ Ok (line.Order (order_read id ws))
unfolding table_line order_tokens order_read
order_is_read id ws h =
    ap (λ k. begun_row k (id_token id) (behind (list_all is_own ws))) (id_begins_order id)
    ∙ ap (λ i. read_as line.Order (weighted i (behind (list_all is_own ws)))) (id_is_read id)
    ∙ both (list_all is_own ws) ws refl h where
      behind : Bool → List Token
      behind b = if b then [] else tokens_joined (map (weight_tokens id) ws)

      both : (own : Bool) (ws : List Weight) → list_all is_own ws ≡ own → All IsProperWeight ws
          → read_as line.Order (weighted (Some id) (if own then [] else tokens_joined (map (weight_tokens id) ws)))
          ≡ Ok (line.Order (record { id = id; weights = if own then None else Some (map (weight_read id) ws) }))
      both true ws e h = refl
      both false [] e h = cc
      both false (w ∷ ws) e h = ap (read_as line.Order)
          (weights_behind_id id (map (weight_read id) (w ∷ ws)) (tokens_joined (map (weight_tokens id) (w ∷ ws))) (some_weights id (w ∷ ws) e) (weights_are_read id w ws h))

-- that positions count, where they do
unfoldable pub position_tokens : Bool → List Token
position_tokens true = token.Comma ∷ token.Word (codes "position") ∷ []
position_tokens false = []

-- the tokens of a rule
unfoldable pub rule_tokens : Rule → List Token
rule_tokens rule = token.Word (direction_word rule.backward) ∷ position_tokens rule.position

-- a rule is read, and no semicolon is in it
rule_parts : (backward position : Bool) → rule (rule_tokens (record { backward = backward; position = position })) ≡ Ok (record { backward = backward; position = position })
unfolding rule_tokens position_tokens
rule_parts true true = refl
rule_parts true false = refl
rule_parts false true = refl
rule_parts false false = refl

rule_is_read : (r : Rule) → rule (rule_tokens r) ≡ Ok r
rule_is_read r = rule_parts r.backward r.position

position_is_operand : (position : Bool) → IsOperand (position_tokens position)
unfolding position_tokens
position_is_operand true = All-cons (λ t. is_semicolon t ≡ false) token.Comma (token.Word (codes "position") ∷ []) refl (one_operand (token.Word (codes "position")) refl)
position_is_operand false = All-nil (λ t. is_semicolon t ≡ false)

rule_is_operand : (r : Rule) → IsOperand (rule_tokens r)
unfolding rule_tokens
rule_is_operand r = All-cons (λ t. is_semicolon t ≡ false) (token.Word (direction_word r.backward)) (position_tokens r.position) refl (position_is_operand r.position)

-- one to four rules are read
rules_are_read : (r : Rule) (rs : List Rule) → length (r ∷ rs) ≤ 4 → rules (tokens_joined (map rule_tokens (r ∷ rs))) ≡ Ok (r ∷ rs)
unfolding rules
rules_are_read r rs short =
    let ops = map rule_tokens (r ∷ rs) in
    let count : length ops ≤ 4 = omega (arith, length-map (r ∷ rs) rule_tokens) in
    ap (λ ops. all_read (judged_levels ops)) (cut_members rule_tokens rule_is_operand r rs)
    ∙ ap (λ prefix. all_read (map rule prefix ++ map (λ _. Err TooManyLevels) (drop 4 ops))) (take_all 4 ops count)
    ∙ ap (λ back. all_read (map rule ops ++ map (λ _. Err TooManyLevels) back)) (drop_all 4 ops count)
    ∙ ap all_read (append-nil (map rule ops))
    ∙ read_each rule rule_tokens (λ r. r) (λ r. Unit {0}) (λ r _. rule_is_read r) (r ∷ rs) (λ i x within. tt)
    ∙ ap Ok (map_same (r ∷ rs)) where
      map_same : (rs : List Rule) → map (λ r. r) rs ≡ rs
      map_same [] = refl
      map_same (r ∷ rs) = ap (λ l. r ∷ l) (map_same rs)

-- the tokens of the line of the rules
unfoldable pub rules_tokens : List Rule → List Token
rules_tokens rs = token.Word (codes "order_start") ∷ tokens_joined (map rule_tokens rs)

-- operands of an `order_start` that begin with a word are rules
opened_by_rules : (r : Rule) (rs : List Rule) → order_start (tokens_joined (map rule_tokens (r ∷ rs)))
    ≡ read_as (λ given. line.OrderStart None (Some given)) (rules (tokens_joined (map rule_tokens (r ∷ rs))))
unfolding tokens_joined rule_tokens
opened_by_rules r rs = refl

-- the line of the rules is read
pub rules_line_is_read : (rs : List Rule) → 1 ≤ length rs → length rs ≤ 4 → table_line (rules_tokens rs) ≡ Ok (line.OrderStart None (Some rs))
unfolding table_line rules_tokens keyword_of
rules_line_is_read [] some short = absurd (omega (arith, some))
rules_line_is_read (r ∷ rs) some short = opened_by_rules r rs ∙ ap (read_as (λ given. line.OrderStart None (Some given))) (rules_are_read r rs short)

-- the tokens of a line that begins a section and has the rules again
unfoldable pub start_tokens : (name : List ℕ) → List Rule → List Token
start_tokens name rs = token.Word (codes "order_start") ∷ token.Symbol name ∷ token.Semicolon ∷ tokens_joined (map rule_tokens rs)

-- such a line is read
pub start_is_read : (name : List ℕ) (rs : List Rule) → 1 ≤ length rs → length rs ≤ 4 → table_line (start_tokens name rs) ≡ Ok (line.OrderStart (Some name) (Some rs))
unfolding table_line start_tokens keyword_of
start_is_read name [] some short = absurd (omega (arith, some))
start_is_read name (r ∷ rs) some short = ap (λ given. read_as (line.OrderStart (Some name)) (read_as Some given)) (rules_are_read r rs short)

-- the tokens of the line of a declaration
unfoldable pub declaration_tokens : Declaration → List Token
declaration_tokens (declaration.Symbol name) = token.Word (codes "collating-symbol") ∷ token.Symbol name ∷ []
declaration_tokens (declaration.Equivalence name symbol) = token.Word (codes "symbol-equivalence") ∷ token.Symbol name ∷ token.Symbol symbol ∷ []
declaration_tokens (declaration.Element name text) = token.Word (codes "collating-element") ∷ token.Symbol name ∷ token.Word (codes "from") ∷ token.Text (map piece.Char text) ∷ []

-- a declaration as a line of a table
unfoldable pub declaration_read : Declaration → TableLine
declaration_read (declaration.Symbol name) = line.Symbol name
declaration_read (declaration.Element name text) = line.Element name text
declaration_read (declaration.Equivalence name symbol) = line.Equivalence name symbol

-- the characters of a string give the text back
characters_read : (text : List ℕ) → characters_of (map piece.Char text) ≡ Some text
characters_read [] = refl
characters_read (c ∷ cs) = rw (characters_read cs) refl

pub element_is_read : (text : List ℕ) → IsElementText text → element_text (map piece.Char text) ≡ Ok text
element_is_read [] h = absurd (omega (arith, h.0))
element_is_read (c ∷ cs) h = rw (characters_read cs, le-leb 2 (length (c ∷ cs)) h.0, le-leb (length (c ∷ cs)) 16 h.1) refl

-- the line of a declaration is read
pub declaration_is_read : (d : Declaration) → All IsElementText (text_of d) → table_line (declaration_tokens d) ≡ Ok (declaration_read d)
unfolding table_line declaration_tokens declaration_read keyword_of
declaration_is_read (declaration.Symbol name) h = refl
declaration_is_read (declaration.Equivalence name symbol) h = refl
declaration_is_read (declaration.Element name text) h =
    ap (λ t. read_as (λ (read : List ℕ × List ℕ). line.Element read.0 read.1) (read_as (λ text. (name, text)) (and_then t (λ read. ended read []))))
    (element_is_read text (All-head IsElementText text [] h))

-- the lines of one word or two, and the one that begins a section
unfoldable pub section_tokens : List ℕ → List Token
section_tokens name = token.Word (codes "section") ∷ token.Symbol name ∷ []

pub section_is_read : (name : List ℕ) → table_line (section_tokens name) ≡ Ok (line.Section name)
unfolding table_line section_tokens keyword_of
section_is_read name = refl

-- the line that tells the name of a section has no effect
unfoldable pub script_tokens : List ℕ → List Token
script_tokens name = token.Word (codes "script") ∷ token.Symbol name ∷ []

pub script_is_read : (name : List ℕ) → table_line (script_tokens name) ≡ Ok line.Script
unfolding table_line script_tokens keyword_of
script_is_read name = refl

pub order_end_is_read : table_line (token.Word (codes "order_end") ∷ []) ≡ Ok line.OrderEnd
unfolding table_line keyword_of
order_end_is_read = refl

pub category_end_is_read : table_line (token.Word (codes "END") ∷ token.Word (codes "LC_COLLATE") ∷ []) ≡ Ok line.EndCategory
unfolding table_line keyword_of
category_end_is_read = refl
