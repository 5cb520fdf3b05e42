-- Lines that are read token by token where they stand.
use Rattle.std.proofs.Common.{◌≡◌, ℕ, ◌<◌, true, List, [], ◌∷◌, ◌++◌, length, map, chars, Result, Ok, refl, ap, sym, ◌∙◌, append_assoc, arith}
use Rattle.std.specs.Prelude.{codes, Option, Some, None}
use Rattle.std.specs.Str.{bytes_eq}
use Rattle.std.proofs.lemmas.Slice.Eq.{bytes_eq-Decides}
use Rattle.coll_lex.specs.Marked.{is_joined}
use Rattle.coll_lex.specs.PlainTexts.{IsNext, IsOver, IsReadWhole, plain_reading}
use Rattle.coll_lex.specs.Tokens.{Reading, with_token}
use Rattle.coll_lex.specs.declared.tokens.Chars.{Chars}
use Rattle.coll_lex.specs.declared.tokens.Token.{Token}
use Rattle.coll_lex.specs.declared.tokens.Token.TheVariants as token
use Rattle.coll_lex.proofs.RunLemmas.{graphic_chars}
use Rattle.coll_syntax.specs.DeltaLines.{delta_line, delta_row}
use Rattle.coll_syntax.specs.KeptLines.{kept_line, kept_operand, kept_weights}
use Rattle.coll_syntax.specs.Keywords.{keyword_of}
use Rattle.coll_syntax.specs.Operands.{all_read, and_then, id_in, only, operands_of, read_as}
use Rattle.coll_syntax.specs.OrderLines.{weighted}
use Rattle.coll_syntax.specs.PlainWeights.{operand_by, weights_by}
use Rattle.coll_syntax.specs.Weights.{operand_weight, weights}
use Rattle.coll_syntax.specs.declared.identifiers.Id.TheVariants.{Char, Named}
use Rattle.coll_syntax.specs.declared.lines.DeltaLine.TheVariants as delta
use Rattle.coll_syntax.specs.declared.lines.TableLine.TheVariants.{Order, Symbol}
use Rattle.coll_syntax.specs.declared.syntax_faults.SyntaxFault.{SyntaxFault}
use Rattle.coll_syntax.specs.declared.weights.Weight.{Weight}

-- a text whose first token is followed by what is all of a logical line is so too
whole_next : (special : Chars) (text : List ℕ) (t : Token) (rest : List ℕ) → IsNext special text t rest → IsReadWhole special rest → IsReadWhole special text
whole_next special text t rest n h = record { whole = rw (n.reads, n.ends) h.whole }

-- a text that is one token, and perhaps a comment
tokens_alone : (special : Chars) (text : List ℕ) (t : Token) (rest : List ℕ) → IsNext special text t rest → IsOver special rest → (plain_reading special text).tokens ≡ t ∷ []
tokens_alone special text t rest n over = ap (λ (r : Reading). r.tokens) n.reads ∙ ap (λ (ts : List Token). t ∷ ts) over.none

-- one operand before others, and the last one

read_first : (r : Result Weight SyntaxFault) (later : Result (List Weight) SyntaxFault) (w : Weight) (ws : List Weight) → r ≡ Ok w → later ≡ Ok ws
    → and_then r (λ read. read_as (λ more. read ∷ more) later) ≡ Ok (w ∷ ws)
read_first r later w ws e f = rw (e, f) refl

operand_before : (own : Option ℕ) (t : Token) (ts : List Token) (w : Weight) (ws : List Weight) → operand_by own (t ∷ []) ≡ Ok w → weights_by own ts ≡ Ok ws
    → weights_by own (t ∷ token.Semicolon ∷ ts) ≡ Ok (w ∷ ws)
unfolding kept_weights weights all_read
operand_before (Some own) (token.Word word) ts w ws e f = read_first (kept_operand own (token.Word word ∷ [])) (all_read (map (kept_operand own) (operands_of ts))) w ws e f
operand_before (Some own) (token.Symbol name) ts w ws e f = read_first (kept_operand own (token.Symbol name ∷ [])) (all_read (map (kept_operand own) (operands_of ts))) w ws e f
operand_before (Some own) (token.Char c) ts w ws e f = read_first (kept_operand own (token.Char c ∷ [])) (all_read (map (kept_operand own) (operands_of ts))) w ws e f
operand_before (Some own) (token.Text ps) ts w ws e f = read_first (kept_operand own (token.Text ps ∷ [])) (all_read (map (kept_operand own) (operands_of ts))) w ws e f
operand_before (Some own) token.Semicolon ts w ws e f = cc
operand_before (Some own) token.Comma ts w ws e f = cc
operand_before None (token.Word word) ts w ws e f = read_first (operand_weight (token.Word word ∷ [])) (all_read (map operand_weight (operands_of ts))) w ws e f
operand_before None (token.Symbol name) ts w ws e f = read_first (operand_weight (token.Symbol name ∷ [])) (all_read (map operand_weight (operands_of ts))) w ws e f
operand_before None (token.Char c) ts w ws e f = read_first (operand_weight (token.Char c ∷ [])) (all_read (map operand_weight (operands_of ts))) w ws e f
operand_before None (token.Text ps) ts w ws e f = read_first (operand_weight (token.Text ps ∷ [])) (all_read (map operand_weight (operands_of ts))) w ws e f
operand_before None token.Semicolon ts w ws e f = cc
operand_before None token.Comma ts w ws e f = cc

operand_alone : (own : Option ℕ) (t : Token) (w : Weight) → operand_by own (t ∷ []) ≡ Ok w → weights_by own (t ∷ []) ≡ Ok (w ∷ [])
unfolding kept_weights weights all_read
operand_alone (Some own) (token.Word word) w e = read_first (kept_operand own (token.Word word ∷ [])) (Ok []) w [] e refl
operand_alone (Some own) (token.Symbol name) w e = read_first (kept_operand own (token.Symbol name ∷ [])) (Ok []) w [] e refl
operand_alone (Some own) (token.Char c) w e = read_first (kept_operand own (token.Char c ∷ [])) (Ok []) w [] e refl
operand_alone (Some own) (token.Text ps) w e = read_first (kept_operand own (token.Text ps ∷ [])) (Ok []) w [] e refl
operand_alone (Some own) token.Semicolon w e = cc
operand_alone (Some own) token.Comma w e = cc
operand_alone None (token.Word word) w e = read_first (operand_weight (token.Word word ∷ [])) (Ok []) w [] e refl
operand_alone None (token.Symbol name) w e = read_first (operand_weight (token.Symbol name ∷ [])) (Ok []) w [] e refl
operand_alone None (token.Char c) w e = read_first (operand_weight (token.Char c ∷ [])) (Ok []) w [] e refl
operand_alone None (token.Text ps) w e = read_first (operand_weight (token.Text ps ∷ [])) (Ok []) w [] e refl
operand_alone None token.Semicolon w e = cc
operand_alone None token.Comma w e = cc

-- these weights are read of a text, and what is left says the others
pub record ReadsOn (own : Option ℕ) (special : Chars) (text : List ℕ) (ws : List Weight) (rest : List ℕ) : Type 0 where
  pub more : (us : List Weight) → weights_by own (plain_reading special rest).tokens ≡ Ok us → weights_by own (plain_reading special text).tokens ≡ Ok (ws ++ us)
  pub stop : (plain_reading special text).stop ≡ (plain_reading special rest).stop
  pub joined : is_joined special.escape (chars text) ≡ is_joined special.escape (chars rest)
  pub some : 0 < length (plain_reading special rest).tokens → 0 < length (plain_reading special text).tokens

pub reads_none : (own : Option ℕ) (special : Chars) (text : List ℕ) → ReadsOn own special text [] text
reads_none own special text = record { more = λ us e. e; stop = refl; joined = refl; some = λ h. h }

some_token : (t : Token) (ts : List Token) → 0 < length (t ∷ ts)
some_token t ts = omega arith

pub reads_more : (own : Option ℕ) (special : Chars) (text : List ℕ) (ws : List Weight) (rest behind later : List ℕ) (t : Token) (w : Weight) → ReadsOn own special text ws rest → IsNext special rest t behind
    → operand_by own (t ∷ []) ≡ Ok w → IsNext special behind token.Semicolon later → ReadsOn own special text (ws ++ w ∷ []) later
reads_more own special text ws rest behind later t w h n e s =
    let read : plain_reading special rest ≡ with_token t (with_token token.Semicolon (plain_reading special later)) = n.reads ∙ ap (with_token t) s.reads in
    record {
      more = λ us f. h.more (w ∷ us) (rw read (operand_before own t (plain_reading special later).tokens w us e f)) ∙ ap (λ (vs : List Weight). Ok vs) (sym (append_assoc ws (w ∷ []) us));
      stop = h.stop ∙ ap (λ (r : Reading). r.stop) read;
      joined = h.joined ∙ (n.ends ∙ s.ends);
      some = λ _. h.some (rw read (some_token t (token.Semicolon ∷ (plain_reading special later).tokens)));
    }

pub reads_all : (own : Option ℕ) (special : Chars) (text : List ℕ) (ws : List Weight) (rest behind : List ℕ) (t : Token) (w : Weight) → ReadsOn own special text ws rest → IsNext special rest t behind
    → operand_by own (t ∷ []) ≡ Ok w → IsOver special behind
    → (weights_by own (plain_reading special text).tokens ≡ Ok (ws ++ w ∷ [])) × (0 < length (plain_reading special text).tokens) × IsReadWhole special text
reads_all own special text ws rest behind t w h n e over =
    let tokens = tokens_alone special rest t behind n over in
    let whole = whole_next special rest t behind n over.whole in (
      h.more (w ∷ []) (rw tokens (operand_alone own t w e)),
      h.some (rw tokens (some_token t [])),
      record { whole = rw (h.stop, h.joined) whole.whole },
    )

-- a symbol alone places its entry
pub symbol_placed : (special : Chars) (text name rest : List ℕ) → IsNext special text (token.Symbol name) rest → IsOver special rest
    → (kept_line (plain_reading special text).tokens ≡ Ok (Order (record { id = Named name; weights = None }))) × IsReadWhole special text
unfolding keyword_of
symbol_placed special text name rest n over =
    (rw (tokens_alone special text (token.Symbol name) rest n over) refl, whole_next special text (token.Symbol name) rest n over.whole)

-- behind its keyword it is declared
pub symbol_declared : (special : Chars) (text behind left name rest : List ℕ) → IsNext special text (token.Word (chars (codes "collating-symbol"))) behind → plain_reading special left ≡ plain_reading special behind
    → is_joined special.escape (chars left) ≡ is_joined special.escape (chars behind) → IsNext special left (token.Symbol name) rest → IsOver special rest
    → (kept_line (plain_reading special text).tokens ≡ Ok (Symbol name)) × IsReadWhole special text
unfolding keyword_of
symbol_declared special text behind left name rest word same ends n over =
    let keyword : chars (codes "collating-symbol") ≡ codes "collating-symbol" = graphic_chars (codes "collating-symbol") refl in
    let tokens = rw same at (tokens_alone special left (token.Symbol name) rest n over) in
    let whole = whole_next special left (token.Symbol name) rest n over.whole in
    (rw (word.reads, tokens, keyword) refl, whole_next special text (token.Word (chars (codes "collating-symbol"))) behind word (record { whole = rw (← same, ← ends) whole.whole }))

-- the line of a symbol or a character, and what follows it
pub order_named : (special : Chars) (text name behind : List ℕ) → IsNext special text (token.Symbol name) behind
    → delta_line (plain_reading special text).tokens ≡ read_as delta.Order (weighted (Some (Named name)) (plain_reading special behind).tokens)
unfolding delta_line keyword_of
order_named special text name behind n = rw n.reads refl

pub order_char : (special : Chars) (text : List ℕ) (c : ℕ) (behind : List ℕ) → IsNext special text (token.Char c) behind
    → delta_line (plain_reading special text).tokens ≡ read_as delta.Order (weighted (Some (Char c)) (plain_reading special behind).tokens)
unfolding delta_line keyword_of
order_char special text c behind n = rw n.reads refl

-- what a line says that begins with a word, by that word
pub begun_by : (special : Chars) (text word behind : List ℕ) → IsNext special text (token.Word (chars word)) behind
    → delta_line (plain_reading special text).tokens ≡ delta_row (token.Word (chars word)) (plain_reading special behind).tokens
unfolding delta_line
begun_by special text word behind n = rw n.reads refl

-- what the lines say that open and end a block
pub block_started : (word : List ℕ) (ts : List Token) → bytes_eq word (codes "reorder-after") ≡ true → delta_row (token.Word (chars word)) ts ≡ read_as delta.ReorderAfter (only id_in ts)
unfolding keyword_of
block_started word ts test =
    let is : word ≡ codes "reorder-after" = (bytes_eq-Decides word (codes "reorder-after")).0 test in
    let keyword : chars word ≡ codes "reorder-after" = ap chars is ∙ graphic_chars (codes "reorder-after") refl in
    rw keyword refl

pub block_ended : (word : List ℕ) (ts : List Token) → bytes_eq word (codes "reorder-end") ≡ true → ts ≡ [] → delta_row (token.Word (chars word)) ts ≡ Ok delta.ReorderEnd
unfolding keyword_of
block_ended word ts test none =
    let is : word ≡ codes "reorder-end" = (bytes_eq-Decides word (codes "reorder-end")).0 test in
    let keyword : chars word ≡ codes "reorder-end" = ap chars is ∙ graphic_chars (codes "reorder-end") refl in
    rw (keyword, none) refl
