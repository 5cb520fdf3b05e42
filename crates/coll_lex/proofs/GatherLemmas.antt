-- Where a scan needs memory: from there on the reading has a token, or is cut short by a fault, a symbol or a string.
use Rattle.std.proofs.Common.{◌≡◌, ℕ, zero, suc, ◌<◌, ◌==◌, Bool, true, false, if◌then◌else◌, List, [], ◌∷◌, ◌++◌, length, Option, Some, None, Result, Ok, Err, IfErr, OnErr, refl, arith}
use Rattle.coll_lex.specs.Marked.{Mark, Plain, Literal}
use Rattle.coll_lex.specs.Tokens.{is_constant, symbol_of, Atom, Bracketed, Unclosed, Bare, before_close, symbol_then, atoms, AtFault, Reading}
use Rattle.coll_lex.specs.Tokens.{after_symbol, Quoted, Closed, Stops, with_piece, with_symbol, quoted, word_run, after_word, after_string, reading}
use Rattle.coll_lex.specs.Scanning.{prefixed, symbol_rest, word_rest, word_left, string_rest, reading_left, is_cut_short, gathers, Gathers}
use Rattle.coll_lex.specs.declared.tokens.Token.{Token}
use Rattle.coll_lex.specs.declared.tokens.Piece.{Piece}
use Rattle.coll_lex.specs.declared.tokens.Piece.TheVariants as piece
use Rattle.coll_lex.specs.declared.faults.LexFault.{LexFault}
use Rattle.coll_lex.specs.declared.faults.LexFault.TheVariants.{CharacterConstant, OutOfMemory}
use Rattle.coll_lex.specs.declared.scanning.Scan.{Scan}
use Rattle.coll_lex.specs.declared.scanning.Mode.TheVariants as mode
use Rattle.coll_lex.proofs.ScanRows.{IsNoSeparator}

-- what holds anyway holds where memory is refused
pub where_refused : {T : Type 0} (r : Result T LexFault) (P : Type 0) → P → IfErr r (λ fault. fault ≡ OutOfMemory → P)
where_refused (Ok x) P p = tt
where_refused (Err fault) P p = λ _. p

pub on_refusal : {T E : Type 0} (r : Result T E) (P : Type 0) → P → OnErr r P
on_refusal (Ok x) P p = tt
on_refusal (Err fault) P p = p

-- tokens before a reading
prefixed_gathers : (tokens : List Token) (r : Reading) → gathers r ≡ true → gathers (prefixed tokens r) ≡ true
prefixed_gathers [] r e = e
prefixed_gathers (t ∷ ts) r e = refl

-- symbols

after_symbol_gathers : (r : Result Piece LexFault) (rest : Reading) → gathers (after_symbol r rest) ≡ true
after_symbol_gathers (Ok p) rest = refl
after_symbol_gathers (Err fault) rest = refl

symbol_gathers : (comment : ℕ) (name : List ℕ) (o : Option (List ℕ)) (rest : ℕ → List Atom) → gathers (reading comment zero (symbol_rest name o rest)) ≡ true
unfolding reading
symbol_gathers comment name None rest = refl
symbol_gathers comment name (Some more) rest = after_symbol_gathers (symbol_of (name ++ more)) (reading comment zero (rest (suc (length more))))

symbol_begun_gathers : (comment : ℕ) (o : Option (List ℕ)) (rest : ℕ → List Atom) → gathers (reading comment zero (symbol_then o rest)) ≡ true
unfolding reading
symbol_begun_gathers comment None rest = refl
symbol_begun_gathers comment (Some name) rest = after_symbol_gathers (symbol_of name) (reading comment zero (rest (suc (length name))))

pub gathers_in_symbol : (comment : ℕ) (s : Scan) (m : Mark) → s.mode ≡ mode.Symbol → Gathers comment s m
unfolding reading_left
gathers_in_symbol comment s m e = record {
  reads = λ ms. rw e (prefixed_gathers s.tokens _ (symbol_gathers comment s.partial (before_close (m ∷ ms)) (λ skip. atoms skip (m ∷ ms))));
}

-- strings

-- a string is closed, or cut short
abbrev quoted_cut : Quoted → Bool
quoted_cut (Closed pieces) = true
quoted_cut (Stops stop) = is_cut_short stop

with_piece_cut : (p : Piece) (q : Quoted) → quoted_cut q ≡ true → quoted_cut (with_piece p q) ≡ true
with_piece_cut p (Closed ps) e = refl
with_piece_cut p (Stops stop) e = e

with_symbol_cut : (r : Result Piece LexFault) (q : Quoted) → quoted_cut q ≡ true → quoted_cut (with_symbol r q) ≡ true
with_symbol_cut (Ok p) q e = with_piece_cut p q e
with_symbol_cut (Err fault) q e = refl

one_or_other : (b : Bool) (x y : Quoted) → quoted_cut x ≡ true → quoted_cut y ≡ true → quoted_cut (if b then x else y) ≡ true
one_or_other true x y e f = e
one_or_other false x y e f = f

quoted_is_cut : (xs : List Atom) → quoted_cut (quoted xs) ≡ true
unfolding quoted
quoted_is_cut [] = refl
quoted_is_cut (Bracketed name ∷ xs) = with_symbol_cut (symbol_of name) (quoted xs) (quoted_is_cut xs)
quoted_is_cut (Unclosed ∷ xs) = refl
quoted_is_cut (Bare (Plain c) ∷ xs) = one_or_other (c == 34) (Closed []) (with_piece (piece.Char c) (quoted xs)) refl (with_piece_cut (piece.Char c) (quoted xs) (quoted_is_cut xs))
quoted_is_cut (Bare (Literal c) ∷ xs) =
    one_or_other (is_constant c) (Stops (AtFault CharacterConstant)) (with_piece (piece.Char c) (quoted xs)) refl (with_piece_cut (piece.Char c) (quoted xs) (quoted_is_cut xs))

string_gathers : (pieces : List Piece) (q : Quoted) (rest : ℕ → Reading) → quoted_cut q ≡ true → gathers (string_rest pieces q rest) ≡ true
string_gathers pieces (Closed more) rest e = refl
string_gathers pieces (Stops stop) rest e = e

string_begun_gathers : (q : Quoted) (rest : ℕ → Reading) → quoted_cut q ≡ true → gathers (after_string q rest) ≡ true
string_begun_gathers (Closed pieces) rest e = refl
string_begun_gathers (Stops stop) rest e = e

pub gathers_in_text : (comment : ℕ) (s : Scan) (m : Mark) → s.mode ≡ mode.Text → Gathers comment s m
unfolding reading_left
gathers_in_text comment s m e = record {
  reads = λ ms. rw e (prefixed_gathers s.tokens _ (string_gathers s.pieces (quoted (atoms zero (m ∷ ms))) (λ skip. reading comment skip (atoms zero (m ∷ ms))) (quoted_is_cut (atoms zero (m ∷ ms)))));
}

pub gathers_in_text_symbol : (comment : ℕ) (s : Scan) (m : Mark) → s.mode ≡ mode.SymbolInText → Gathers comment s m
unfolding reading_left
gathers_in_text_symbol comment s m e = record {
  reads = λ ms.
      let xs = symbol_rest s.partial (before_close (m ∷ ms)) (λ skip. atoms skip (m ∷ ms)) in
      rw e (prefixed_gathers s.tokens _ (string_gathers s.pieces (quoted xs) (λ skip. reading comment skip xs) (quoted_is_cut xs)));
}

-- words

word_gathers : (word : List ℕ) (r : Result (List ℕ) LexFault) (rest : ℕ → Reading) → gathers (word_rest word r rest) ≡ true
word_gathers word (Ok more) rest = refl
word_gathers word (Err fault) rest = refl

word_begun_gathers : (c : ℕ) (r : Result (List ℕ) LexFault) (rest : ℕ → Reading) → gathers (after_word c r rest) ≡ true
word_begun_gathers c (Ok more) rest = refl
word_begun_gathers c (Err fault) rest = refl

-- a word that has begun, or what gathers without one
word_left_gathers : (comment : ℕ) (word : List ℕ) (xs : List Atom) → gathers (reading comment zero xs) ≡ true → gathers (word_left comment word xs) ≡ true
word_left_gathers comment [] xs e = e
word_left_gathers comment (c ∷ cs) xs e = word_gathers (c ∷ cs) (word_run comment xs) (λ skip. reading comment skip xs)

in_word_gathers : (comment : ℕ) (word : List ℕ) (xs : List Atom) → 0 < length word → gathers (word_left comment word xs) ≡ true
in_word_gathers comment [] xs e = absurd (omega (arith, e))
in_word_gathers comment (c ∷ cs) xs e = word_gathers (c ∷ cs) (word_run comment xs) (λ skip. reading comment skip xs)

pub gathers_in_word : (comment : ℕ) (s : Scan) (m : Mark) → s.mode ≡ mode.Plain → 0 < length s.partial → Gathers comment s m
unfolding reading_left
gathers_in_word comment s m e f = record {
  reads = λ ms. rw e (prefixed_gathers s.tokens _ (in_word_gathers comment s.partial (atoms zero (m ∷ ms)) f));
}

-- what gathers outside symbols and strings, whatever stands before it
outside_gathers : (comment : ℕ) (s : Scan) (m : Mark) → s.mode ≡ mode.Plain → ((ms : List Mark) → gathers (reading comment zero (atoms zero (m ∷ ms))) ≡ true) → Gathers comment s m
unfolding reading_left
outside_gathers comment s m e f = record {
  reads = λ ms. rw e (prefixed_gathers s.tokens _ (word_left_gathers comment s.partial (atoms zero (m ∷ ms)) (f ms)));
}

pub bracket_gathers : (comment : ℕ) (s : Scan) → s.mode ≡ mode.Plain → Gathers comment s (Plain 60)
unfolding atoms
bracket_gathers comment s e = outside_gathers comment s (Plain 60) e (λ ms. symbol_begun_gathers comment (before_close ms) (λ skip. atoms skip ms))

pub semicolon_gathers : (comment : ℕ) (s : Scan) → s.mode ≡ mode.Plain → Gathers comment s (Plain 59)
unfolding atoms reading
semicolon_gathers comment s e = outside_gathers comment s (Plain 59) e (λ ms. refl)

pub comma_gathers : (comment : ℕ) (s : Scan) → s.mode ≡ mode.Plain → Gathers comment s (Plain 44)
unfolding atoms reading
comma_gathers comment s e = outside_gathers comment s (Plain 44) e (λ ms. refl)

pub quotation_gathers : (comment : ℕ) (s : Scan) → s.mode ≡ mode.Plain → (34 == comment) ≡ false → Gathers comment s (Plain 34)
unfolding atoms reading
quotation_gathers comment s e f = outside_gathers comment s (Plain 34) e (λ ms.
    rw f (string_begun_gathers (quoted (atoms zero ms)) (λ skip. reading comment skip (atoms zero ms)) (quoted_is_cut (atoms zero ms))))

pub letter_gathers : (comment : ℕ) (s : Scan) (c : ℕ) → s.mode ≡ mode.Plain → IsNoSeparator c → (c == comment) ≡ false → (c == 34) ≡ false → Gathers comment s (Plain c)
unfolding atoms reading
letter_gathers comment s c e n f g = outside_gathers comment s (Plain c) e (λ ms.
    rw (n.no_bracket, n.no_blank, n.no_semicolon, n.no_comma, f, g) (word_begun_gathers c (word_run comment (atoms zero ms)) (λ skip. reading comment skip (atoms zero ms))))

literal_begun_gathers : (comment : ℕ) (constant : Bool) (c : ℕ) (xs : List Atom) → is_constant c ≡ constant → gathers (reading comment zero (Bare (Literal c) ∷ xs)) ≡ true
unfolding reading
literal_begun_gathers comment true c xs e = rw e refl
literal_begun_gathers comment false c xs e = rw e (word_begun_gathers c (word_run comment xs) (λ skip. reading comment skip xs))

pub literal_gathers : (comment : ℕ) (s : Scan) (c : ℕ) → s.mode ≡ mode.Plain → Gathers comment s (Literal c)
unfolding atoms
literal_gathers comment s c e = outside_gathers comment s (Literal c) e (λ ms. literal_begun_gathers comment (is_constant c) c (atoms zero ms) refl)
