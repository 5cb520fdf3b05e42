-- The moves of a scan: in each mode, what one character leaves to read.
use Rattle.std.proofs.Common.{◌≡◌, ◌≢◌, ℕ, zero, suc, ◌==◌, true, false, List, [], ◌∷◌, ◌++◌, length, Option, Some, None, Result, Ok, Err, refl, ap, sym, ◌∙◌, append_assoc, arith}
use Rattle.std.proofs.lemmas.List.{append-nil}
use Rattle.std.proofs.lemmas.Bool.Decides.{nat_tests}
use Rattle.coll_lex.specs.Blanks.{is_blank}
use Rattle.coll_lex.specs.Marked.{Mark, Plain, Literal}
use Rattle.coll_lex.specs.Tokens.{is_constant, symbol_of, token_of, Atom, Bracketed, Bare, character, is_plain, with_character, before_close, symbol_then, atoms, AtFault, AtComment}
use Rattle.coll_lex.specs.Tokens.{Reading, stopped, with_token, Quoted, Closed, Stops, with_piece, quoted, with_letter, word_run, after_word, after_string, reading}
use Rattle.coll_lex.specs.Scanning.{prefixed, symbol_rest, atoms_in, word_rest, word_left, string_rest, string_left, reading_left, TakesMark, Refuses, word_token}
use Rattle.coll_lex.specs.declared.tokens.Token.{Token}
use Rattle.coll_lex.specs.declared.tokens.Token.TheVariants as token
use Rattle.coll_lex.specs.declared.tokens.Piece.{Piece}
use Rattle.coll_lex.specs.declared.tokens.Piece.TheVariants as piece
use Rattle.coll_lex.specs.declared.faults.LexFault.{LexFault}
use Rattle.coll_lex.specs.declared.faults.LexFault.TheVariants.{CharacterConstant}
use Rattle.coll_lex.specs.declared.scanning.Scan.{Scan}
use Rattle.coll_lex.specs.declared.scanning.Mode.TheVariants as mode

-- two numbers that differ
pub differs : (a b : ℕ) → a ≢ b → (a == b) ≡ false
differs a b h = grind (arith, nat_tests)

pub equals : (a b : ℕ) → a ≡ b → (a == b) ≡ true
equals a b h = grind (arith, nat_tests)

-- one more token at the end of those that are complete
prefixed_push : (tokens : List Token) (t : Token) (r : Reading) → prefixed tokens (with_token t r) ≡ prefixed (tokens ++ t ∷ []) r
prefixed_push tokens t r = ap (λ ts. record { tokens = ts; stop = r.stop }) (sym (append_assoc tokens (t ∷ []) r.tokens))

prefixed_more : (tokens more : List Token) (r : Reading) → prefixed tokens (prefixed more r) ≡ prefixed (tokens ++ more) r
prefixed_more tokens more r = ap (λ ts. record { tokens = ts; stop = r.stop }) (sym (append_assoc tokens more r.tokens))

-- inside symbols

-- a symbol whose name has not begun
symbol_begins : (o : Option (List ℕ)) (rest : ℕ → List Atom) → symbol_then o rest ≡ symbol_rest [] o rest
symbol_begins None rest = refl
symbol_begins (Some name) rest = refl

-- one more character of a name
symbol_more : (name : List ℕ) (c : ℕ) (o : Option (List ℕ)) (m : Mark) (ms : List Mark)
    → symbol_rest name (with_character c o) (λ skip. atoms skip (m ∷ ms)) ≡ symbol_rest (name ++ c ∷ []) o (λ skip. atoms skip ms)
unfolding atoms
symbol_more name c None m ms = refl
symbol_more name c (Some more) m ms = ap (λ n. Bracketed n ∷ atoms (suc (length more)) ms) (sym (append_assoc name (c ∷ []) more))

atoms_in_more : (name : List ℕ) (m : Mark) (ms : List Mark) → is_plain 62 m ≡ false → atoms_in name (m ∷ ms) ≡ atoms_in (name ++ character m ∷ []) ms
unfolding before_close
atoms_in_more name m ms e = rw e (symbol_more name (character m) (before_close ms) m ms)

-- the `>` that closes a symbol
atoms_in_close : (name : List ℕ) (ms : List Mark) → atoms_in name (Plain 62 ∷ ms) ≡ Bracketed name ∷ atoms zero ms
unfolding before_close atoms
atoms_in_close name ms = ap (λ n. Bracketed n ∷ atoms zero ms) (append-nil name)

-- one more character of a symbol
pub symbol_grows : (comment : ℕ) (s : Scan) (m : Mark) → s.mode ≡ mode.Symbol → is_plain 62 m ≡ false → TakesMark comment s m (record s { partial = s.partial ++ character m ∷ [] })
unfolding reading_left
symbol_grows comment s m e f = record {
  reads = λ ms. rw e (ap (λ xs. prefixed s.tokens (reading comment zero xs)) (atoms_in_more s.partial m ms f));
  same_escape = refl;
}

-- one more character of a symbol in a string
pub text_symbol_grows : (comment : ℕ) (s : Scan) (m : Mark) → s.mode ≡ mode.SymbolInText → is_plain 62 m ≡ false → TakesMark comment s m (record s { partial = s.partial ++ character m ∷ [] })
unfolding reading_left
text_symbol_grows comment s m e f = record {
  reads = λ ms. rw e (ap (λ xs. prefixed s.tokens (string_left comment s.pieces xs)) (atoms_in_more s.partial m ms f));
  same_escape = refl;
}

-- the end of a symbol that stands for a piece
pub symbol_ends : (comment : ℕ) (s : Scan) (p : Piece) → s.mode ≡ mode.Symbol → symbol_of s.partial ≡ Ok p
    → TakesMark comment s (Plain 62) (record s { mode = mode.Plain; partial = []; tokens = s.tokens ++ token_of p ∷ [] })
unfolding reading_left reading
symbol_ends comment s p e f = record {
  reads = λ ms. rw (e, atoms_in_close s.partial ms, f) (prefixed_push s.tokens (token_of p) (reading comment zero (atoms zero ms)));
  same_escape = refl;
}

-- the end of a symbol at fault
pub symbol_refused : (comment : ℕ) (s : Scan) (fault : LexFault) → s.mode ≡ mode.Symbol → symbol_of s.partial ≡ Err fault → Refuses comment s (Plain 62) fault
unfolding reading_left reading
symbol_refused comment s fault e f = record { stops = λ ms. rw (e, atoms_in_close s.partial ms, f) refl }

-- one more piece of a string
piece_more : (comment : ℕ) (pieces : List Piece) (p : Piece) (q : Quoted) (a : Atom) (xs : List Atom)
    → string_rest pieces (with_piece p q) (λ skip. reading comment skip (a ∷ xs)) ≡ string_rest (pieces ++ p ∷ []) q (λ skip. reading comment skip xs)
unfolding reading
piece_more comment pieces p (Closed more) a xs = ap (λ ps. with_token (token.Text ps) (reading comment (suc (length more)) xs)) (sym (append_assoc pieces (p ∷ []) more))
piece_more comment pieces p (Stops stop) a xs = refl

-- the end of a symbol in a string that stands for a piece
pub text_symbol_ends : (comment : ℕ) (s : Scan) (p : Piece) → s.mode ≡ mode.SymbolInText → symbol_of s.partial ≡ Ok p
    → TakesMark comment s (Plain 62) (record s { mode = mode.Text; partial = []; pieces = s.pieces ++ p ∷ [] })
unfolding reading_left quoted
text_symbol_ends comment s p e f = record {
  reads = λ ms. rw (e, atoms_in_close s.partial ms, f) (ap (prefixed s.tokens) (piece_more comment s.pieces p (quoted (atoms zero ms)) (Bracketed s.partial) (atoms zero ms)));
  same_escape = refl;
}

-- the end of a symbol at fault in a string
pub text_symbol_refused : (comment : ℕ) (s : Scan) (fault : LexFault) → s.mode ≡ mode.SymbolInText → symbol_of s.partial ≡ Err fault → Refuses comment s (Plain 62) fault
unfolding reading_left quoted
text_symbol_refused comment s fault e f = record { stops = λ ms. rw (e, atoms_in_close s.partial ms, f) refl }

-- inside strings

-- the `<` of a symbol in a string
pub text_symbol_begins : (comment : ℕ) (s : Scan) → s.mode ≡ mode.Text → TakesMark comment s (Plain 60) (record s { mode = mode.SymbolInText; partial = [] })
unfolding reading_left atoms
text_symbol_begins comment s e = record {
  reads = λ ms. rw e (ap (λ xs. prefixed s.tokens (string_left comment s.pieces xs)) (symbol_begins (before_close ms) (λ skip. atoms skip ms)));
  same_escape = refl;
}

-- the `"` that closes a string
pub text_ends : (comment : ℕ) (s : Scan) → s.mode ≡ mode.Text
    → TakesMark comment s (Plain 34) (record s { mode = mode.Plain; partial = []; pieces = []; tokens = s.tokens ++ token.Text s.pieces ∷ [] })
unfolding reading_left atoms quoted reading
text_ends comment s e = record {
  reads = λ ms. rw (e, append-nil s.pieces) (prefixed_push s.tokens (token.Text s.pieces) (reading comment zero (atoms zero ms)));
  same_escape = refl;
}

-- one more character of a string
pub text_grows : (comment : ℕ) (s : Scan) (c : ℕ) → s.mode ≡ mode.Text → c ≢ 60 → c ≢ 34 → TakesMark comment s (Plain c) (record s { pieces = s.pieces ++ piece.Char c ∷ [] })
unfolding reading_left atoms quoted
text_grows comment s c e f g = record {
  reads = λ ms. rw (e, differs c 60 f, differs c 34 g) (ap (prefixed s.tokens) (piece_more comment s.pieces (piece.Char c) (quoted (atoms zero ms)) (Bare (Plain c)) (atoms zero ms)));
  same_escape = refl;
}

-- one more escaped character of a string
pub text_literal : (comment : ℕ) (s : Scan) (c : ℕ) → s.mode ≡ mode.Text → is_constant c ≡ false → TakesMark comment s (Literal c) (record s { pieces = s.pieces ++ piece.Char c ∷ [] })
unfolding reading_left atoms quoted
text_literal comment s c e f = record {
  reads = λ ms. rw (e, f) (ap (prefixed s.tokens) (piece_more comment s.pieces (piece.Char c) (quoted (atoms zero ms)) (Bare (Literal c)) (atoms zero ms)));
  same_escape = refl;
}

-- a character constant in a string
pub text_constant : (comment : ℕ) (s : Scan) (c : ℕ) → s.mode ≡ mode.Text → is_constant c ≡ true → Refuses comment s (Literal c) CharacterConstant
unfolding reading_left atoms quoted
text_constant comment s c e f = record { stops = λ ms. rw (e, f) refl }

-- outside symbols and strings

-- where no more character follows, a word is complete
word_ends : (comment : ℕ) (word : List ℕ) (xs : List Atom) → word_run comment xs ≡ Ok [] → word_left comment word xs ≡ prefixed (word_token word) (reading comment zero xs)
word_ends comment [] xs e = refl
word_ends comment (c ∷ cs) xs e = rw (e, append-nil cs) refl

-- the same, with the tokens before it
word_ends_after : (comment : ℕ) (tokens : List Token) (word : List ℕ) (xs : List Atom) (r : Reading) → word_run comment xs ≡ Ok [] → reading comment zero xs ≡ r
    → prefixed tokens (word_left comment word xs) ≡ prefixed (tokens ++ word_token word) r
word_ends_after comment tokens word xs r e f =
    ap (prefixed tokens) (word_ends comment word xs e ∙ ap (prefixed (word_token word)) f) ∙ prefixed_more tokens (word_token word) r

-- a symbol ends a word
symbol_ends_word : (comment : ℕ) (o : Option (List ℕ)) (rest : ℕ → List Atom) → word_run comment (symbol_then o rest) ≡ Ok []
unfolding word_run
symbol_ends_word comment None rest = refl
symbol_ends_word comment (Some name) rest = refl

-- the `<` of a symbol
pub symbol_begins_outside : (comment : ℕ) (s : Scan) → s.mode ≡ mode.Plain → TakesMark comment s (Plain 60) (record s { mode = mode.Symbol; partial = []; tokens = s.tokens ++ word_token s.partial })
unfolding reading_left atoms
symbol_begins_outside comment s e = record {
  reads = λ ms. rw e (word_ends_after comment s.tokens s.partial (symbol_then (before_close ms) (λ skip. atoms skip ms)) (reading comment zero (atoms_in [] ms))
      (symbol_ends_word comment (before_close ms) (λ skip. atoms skip ms)) (ap (reading comment zero) (symbol_begins (before_close ms) (λ skip. atoms skip ms))));
  same_escape = refl;
}

-- a blank, which is no `<`
pub blank_outside : (comment : ℕ) (s : Scan) (c : ℕ) → s.mode ≡ mode.Plain → c ≢ 60 → is_blank c ≡ true
    → TakesMark comment s (Plain c) (record s { partial = []; tokens = s.tokens ++ word_token s.partial })
unfolding reading_left atoms word_run reading
blank_outside comment s c e f g = record {
  reads = λ ms. rw (e, differs c 60 f) (word_ends_after comment s.tokens s.partial (Bare (Plain c) ∷ atoms zero ms) (reading comment zero (atoms zero ms)) (rw g refl) (rw g refl));
  same_escape = refl;
}

pub semicolon_outside : (comment : ℕ) (s : Scan) → s.mode ≡ mode.Plain → TakesMark comment s (Plain 59) (record s { partial = []; tokens = (s.tokens ++ word_token s.partial) ++ token.Semicolon ∷ [] })
unfolding reading_left atoms word_run reading
semicolon_outside comment s e = record {
  reads = λ ms. rw e (word_ends_after comment s.tokens s.partial (Bare (Plain 59) ∷ atoms zero ms) (with_token token.Semicolon (reading comment zero (atoms zero ms))) refl refl
      ∙ prefixed_push (s.tokens ++ word_token s.partial) token.Semicolon (reading comment zero (atoms zero ms)));
  same_escape = refl;
}

pub comma_outside : (comment : ℕ) (s : Scan) → s.mode ≡ mode.Plain → TakesMark comment s (Plain 44) (record s { partial = []; tokens = (s.tokens ++ word_token s.partial) ++ token.Comma ∷ [] })
unfolding reading_left atoms word_run reading
comma_outside comment s e = record {
  reads = λ ms. rw e (word_ends_after comment s.tokens s.partial (Bare (Plain 44) ∷ atoms zero ms) (with_token token.Comma (reading comment zero (atoms zero ms))) refl refl
      ∙ prefixed_push (s.tokens ++ word_token s.partial) token.Comma (reading comment zero (atoms zero ms)));
  same_escape = refl;
}

-- the tests that a character has failed before it is compared with the comment character
pub record IsNoSeparator (c : ℕ) : Type 0 where
  pub no_bracket : (c == 60) ≡ false
  pub no_blank : is_blank c ≡ false
  pub no_semicolon : (c == 59) ≡ false
  pub no_comma : (c == 44) ≡ false

pub no_separator : (c : ℕ) → c ≢ 60 → is_blank c ≡ false → c ≢ 59 → c ≢ 44 → IsNoSeparator c
no_separator c bracket blank semicolon comma = record {
  no_bracket = differs c 60 bracket;
  no_blank = blank;
  no_semicolon = differs c 59 semicolon;
  no_comma = differs c 44 comma;
}

-- the comment character
pub comment_outside : (comment : ℕ) (s : Scan) (c : ℕ) → s.mode ≡ mode.Plain → c ≡ comment → IsNoSeparator c
    → TakesMark comment s (Plain c) (record s { mode = mode.Comment; partial = []; tokens = s.tokens ++ word_token s.partial })
unfolding reading_left atoms word_run reading
comment_outside comment s c e same n =
    let is : (c == comment) ≡ true = equals c comment same in
    record {
      reads = λ ms. rw (e, n.no_bracket) (word_ends_after comment s.tokens s.partial (Bare (Plain c) ∷ atoms zero ms) (stopped AtComment) (rw (n.no_blank, n.no_semicolon, n.no_comma, is) refl)
          (rw (n.no_blank, n.no_semicolon, n.no_comma, is) refl));
      same_escape = refl;
    }

text_starts : (q : Quoted) (rest : ℕ → Reading) → after_string q rest ≡ string_rest [] q rest
text_starts (Closed pieces) rest = refl
text_starts (Stops stop) rest = refl

-- the `"` that begins a string
pub text_begins : (comment : ℕ) (s : Scan) → s.mode ≡ mode.Plain → (34 == comment) ≡ false
    → TakesMark comment s (Plain 34) (record s { mode = mode.Text; partial = []; pieces = []; tokens = s.tokens ++ word_token s.partial })
unfolding reading_left atoms word_run reading
text_begins comment s e f = record {
  reads = λ ms. rw e (word_ends_after comment s.tokens s.partial (Bare (Plain 34) ∷ atoms zero ms) (string_left comment [] (atoms zero ms)) (rw f refl)
      (rw f (text_starts (quoted (atoms zero ms)) (λ skip. reading comment skip (atoms zero ms)))));
  same_escape = refl;
}

-- one more character of a word
word_more : (comment : ℕ) (word : List ℕ) (c : ℕ) (r : Result (List ℕ) LexFault) (a : Atom) (xs : List Atom)
    → word_rest word (with_letter c r) (λ skip. reading comment skip (a ∷ xs)) ≡ word_rest (word ++ c ∷ []) r (λ skip. reading comment skip xs)
unfolding reading
word_more comment word c (Ok more) a xs = ap (λ cs. with_token (token.Word cs) (reading comment (length more) xs)) (sym (append_assoc word (c ∷ []) more))
word_more comment word c (Err fault) a xs = refl

word_starts : (c : ℕ) (r : Result (List ℕ) LexFault) (rest : ℕ → Reading) → after_word c r rest ≡ word_rest (c ∷ []) r rest
word_starts c (Ok more) rest = refl
word_starts c (Err fault) rest = refl

word_left_more : (comment : ℕ) (word : List ℕ) (c : ℕ) (a : Atom) (xs : List Atom)
    → word_run comment (a ∷ xs) ≡ with_letter c (word_run comment xs) → reading comment zero (a ∷ xs) ≡ after_word c (word_run comment xs) (λ skip. reading comment skip xs)
    → word_left comment word (a ∷ xs) ≡ word_left comment (word ++ c ∷ []) xs
word_left_more comment [] c a xs e f = f ∙ word_starts c (word_run comment xs) (λ skip. reading comment skip xs)
word_left_more comment (d ∷ ds) c a xs e f = rw e (word_more comment (d ∷ ds) c (word_run comment xs) a xs)

-- one more character of a word
pub word_grows : (comment : ℕ) (s : Scan) (c : ℕ) → s.mode ≡ mode.Plain → IsNoSeparator c → (c == comment) ≡ false → (c == 34) ≡ false
    → TakesMark comment s (Plain c) (record s { partial = s.partial ++ c ∷ [] })
unfolding reading_left atoms word_run reading
word_grows comment s c e n f g = record {
  reads = λ ms. rw (e, n.no_bracket)
      (ap (prefixed s.tokens) (word_left_more comment s.partial c (Bare (Plain c)) (atoms zero ms) (rw (n.no_blank, n.no_semicolon, n.no_comma, f, g) refl)
      (rw (n.no_blank, n.no_semicolon, n.no_comma, f, g) refl)));
  same_escape = refl;
}

-- one more escaped character of a word
pub word_literal : (comment : ℕ) (s : Scan) (c : ℕ) → s.mode ≡ mode.Plain → is_constant c ≡ false → TakesMark comment s (Literal c) (record s { partial = s.partial ++ c ∷ [] })
unfolding reading_left atoms word_run reading
word_literal comment s c e f = record {
  reads = λ ms. rw e (ap (prefixed s.tokens) (word_left_more comment s.partial c (Bare (Literal c)) (atoms zero ms) (rw f refl) (rw f refl)));
  same_escape = refl;
}

word_left_constant : (comment : ℕ) (word : List ℕ) (c : ℕ) (xs : List Atom) → is_constant c ≡ true → (word_left comment word (Bare (Literal c) ∷ xs)).stop ≡ AtFault CharacterConstant
unfolding word_run reading
word_left_constant comment [] c xs e = rw e refl
word_left_constant comment (d ∷ ds) c xs e = rw e refl

-- a character constant outside symbols and strings
pub word_constant : (comment : ℕ) (s : Scan) (c : ℕ) → s.mode ≡ mode.Plain → is_constant c ≡ true → Refuses comment s (Literal c) CharacterConstant
unfolding reading_left atoms
word_constant comment s c e f = record { stops = λ ms. rw e (word_left_constant comment s.partial c (atoms zero ms) f) }

-- in comments

-- a comment takes any character
pub comment_takes : (comment : ℕ) (s : Scan) (m : Mark) → s.mode ≡ mode.Comment → TakesMark comment s m s
unfolding reading_left
comment_takes comment s m e = record { reads = λ ms. rw e refl; same_escape = refl }
