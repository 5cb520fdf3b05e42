-- The parts of a canonical line are read as their tokens, under the comment character `%` and the escape character `/`.
use Rattle.std.proofs.Common.{◌≡◌, ℕ, zero, suc, ◌+◌, ◌*◌, ◌<◌, ◌≤◌, ◌==◌, ◌&&◌, ◌||◌, Bool, true, false, not, if◌then◌else◌, List, [], ◌∷◌, ◌++◌, length}
use Rattle.std.proofs.Common.{map, codes, Option, Some, None, Ok, Err, ⊎_elim, sym, ap, subst, ◌∙◌, refl, arith, length-append, ltb-true}
use Rattle.std.specs.Prelude.{All, nat_le, nat_lt, encode_utf8_all}
use Rattle.std.specs.List.{list_all}
use lib.Utf8.{scalar, scalars, low_scalar, encode}
use Rattle.std.proofs.Math.Path.{fun_ext}
use Rattle.std.proofs.lemmas.Bool.{and_parts, eqb-true, le-leb, leb-true, ltb-false, lt-ltb, le-ltb, cases_lt}
use Rattle.std.proofs.lemmas.List.Sums.{list_all-from_AllPass}
use Rattle.coll_lex.specs.Names.{IsName}
use Rattle.coll_lex.specs.Blanks.{is_blank}
use Rattle.coll_lex.specs.declared.faults.LexFault.TheVariants.{BadName, BadCodePoint}
use Rattle.coll_syntax.specs.Proper.{IsId, IsWeightId}
use Rattle.coll_syntax.specs.declared.identifiers.Id.{Id}
use Rattle.coll_syntax.specs.declared.identifiers.Id.TheVariants.{Char, Named, Undefined}
use Rattle.coll_texts.specs.CanonicalText.{spelled_all, spelled_id, spelled_string}
use Rattle.coll_texts.proofs.PrintedTokens.{id_token, id_piece}
use Rattle.coll_lex.proofs.SpellingLemmas.{hex_digits-all}
use Rattle.std.proofs.lemmas.Str.{encode_ascii, length-encode, len_utf8_bounds}
use Rattle.std.proofs.lemmas.List.Elements.{All-head, All-tail}
use Rattle.coll_lex.specs.Marked.{Mark, Plain, marks, ends_escaped}
use Rattle.coll_lex.specs.Spelling.{spelled_char, spelled_name, spelled_symbol, spelled_code, hex_digit, hex_digits, digit_count}
use Rattle.coll_lex.proofs.ReadingBackLemmas.{marks-plain, reading-spelled_symbol, spelled_code-symbol, symbol_of-spelled_code, atoms-spelled_symbol, length-hex_digits}
use Rattle.coll_lex.specs.Kinds.{kind_of, ends_word}
use Rattle.coll_lex.specs.Kinds as kind
use Rattle.coll_lex.specs.Tokens.{symbol_of, symbol_by, code_point_of, is_name, is_control, Atom, Bracketed, Unclosed, Bare, atoms, Closed}
use Rattle.coll_lex.specs.Tokens.{quoted, with_piece, with_symbol, word_run, Reading, with_token, token_of, reading, reading_of}
use Rattle.coll_lex.specs.declared.tokens.Token.{Token}
use Rattle.coll_lex.specs.declared.tokens.Token.TheVariants as token
use Rattle.coll_lex.specs.declared.tokens.Piece.{Piece}
use Rattle.coll_lex.specs.declared.tokens.Piece.TheVariants as piece

-- A line that is read.

-- the tokens at the front of a reading
unfoldable pub with_tokens : List Token → Reading → Reading
with_tokens [] rest = rest
with_tokens (t ∷ ts) rest = with_token t (with_tokens ts rest)

-- a word ends here
pub record EndsWord (rest : List ℕ) : Type 0 where
  pub ends : word_run 37 (atoms zero (marks 47 false rest)) ≡ Ok []

-- a character of a canonical line is a character, and no control character
unfoldable pub is_clean : ℕ → Bool
is_clean c = nat_le 32 c && scalar c

-- a spelling leaves no escape open, is made of such characters, and has at most so many bytes
pub record Keeps (spelling : List ℕ → List ℕ) (most : ℕ) : Type 0 where
  pub stays : (rest : List ℕ) → ends_escaped 47 false (spelling rest) ≡ ends_escaped 47 false rest
  pub clean : (rest : List ℕ) → list_all is_clean rest ≡ true → list_all is_clean (spelling rest) ≡ true
  pub short : (rest : List ℕ) → length (encode_utf8_all (spelling rest)) ≤ most + length (encode_utf8_all rest)

-- a spelling is read as these tokens, and what follows it as it was
pub record Spells (spelling : List ℕ → List ℕ) (tokens : List Token) (most : ℕ) : Type 0 where
  pub keeps : Keeps spelling most
  pub reads : (rest : List ℕ) → EndsWord rest → reading_of 37 (marks 47 false (spelling rest)) ≡ with_tokens tokens (reading_of 37 (marks 47 false rest))

-- one spelling behind another
pub keeps_both : (f g : List ℕ → List ℕ) (m n : ℕ) → Keeps f m → Keeps g n → Keeps (λ rest. f (g rest)) (m + n)
keeps_both f g m n h k = record {
  stays = λ rest. h.stays (g rest) ∙ k.stays rest;
  clean = λ rest c. h.clean (g rest) (k.clean rest c);
  short = λ rest. let a = h.short (g rest) in let b = k.short rest in omega arith;
}

with_tokens-append : (ts us : List Token) (r : Reading) → with_tokens (ts ++ us) r ≡ with_tokens ts (with_tokens us r)
unfolding with_tokens
with_tokens-append [] us r = refl
with_tokens-append (t ∷ ts) us r = ap (with_token t) (with_tokens-append ts us r)

pub spells_both : (f g : List ℕ → List ℕ) (ts us : List Token) (m n : ℕ) → Spells f ts m → Spells g us n → ((rest : List ℕ) → EndsWord rest → EndsWord (g rest))
    → Spells (λ rest. f (g rest)) (ts ++ us) (m + n)
spells_both f g ts us m n h k ends = record {
  keeps = keeps_both f g m n h.keeps k.keeps;
  reads = λ rest e. h.reads (g rest) (ends rest e) ∙ ap (with_tokens ts) (k.reads rest e) ∙ sym (with_tokens-append ts us (reading_of 37 (marks 47 false rest)));
}

-- a separator is read as these tokens, whatever follows it
pub record Separates (separator : List ℕ → List ℕ) (tokens : List Token) (most : ℕ) : Type 0 where
  pub keeps : Keeps separator most
  pub reads : (rest : List ℕ) → reading_of 37 (marks 47 false (separator rest)) ≡ with_tokens tokens (reading_of 37 (marks 47 false rest))

-- a spelling behind a separator
pub spells_apart : (f g : List ℕ → List ℕ) (ts us : List Token) (m n : ℕ) → Separates f ts m → Spells g us n → Spells (λ rest. f (g rest)) (ts ++ us) (m + n)
spells_apart f g ts us m n h k = record {
  keeps = keeps_both f g m n h.keeps k.keeps;
  reads = λ rest e. h.reads (g rest) ∙ ap (with_tokens ts) (k.reads rest e) ∙ sym (with_tokens-append ts us (reading_of 37 (marks 47 false rest)));
}

-- a bound may be wider
pub keeps_wider : (f : List ℕ → List ℕ) (m n : ℕ) → m ≤ n → Keeps f m → Keeps f n
keeps_wider f m n wide h = record { stays = h.stays; clean = h.clean; short = λ rest. let a = h.short rest in omega arith }

pub spells_wider : (f : List ℕ → List ℕ) (ts : List Token) (m n : ℕ) → m ≤ n → Spells f ts m → Spells f ts n
spells_wider f ts m n wide h = record { keeps = keeps_wider f m n wide h.keeps; reads = h.reads }

-- nothing
pub keeps_nothing : Keeps (λ rest. rest) 0
keeps_nothing = record { stays = λ rest. refl; clean = λ rest c. c; short = λ rest. omega arith }

pub spells_nothing : Spells (λ rest. rest) [] 0
unfolding with_tokens
spells_nothing = record { keeps = keeps_nothing; reads = λ rest e. refl }

-- One character.

-- no character of a test that failed
is_not : (b : Bool) → not b ≡ true → b ≡ false
is_not true e = cc
is_not false e = refl

-- a character that stands for itself in a word, in one byte
unfoldable pub is_letter : ℕ → Bool
is_letter c = not (c == 47) && (not (c == 60) && (not (ends_word (kind_of 37 c)) && (is_clean c && nat_lt c 128)))

record IsLetter (c : ℕ) : Type 0 where
  pub unescaped : (c == 47) ≡ false
  pub outside : (c == 60) ≡ false
  pub stays : ends_word (kind_of 37 c) ≡ false
  pub clean : is_clean c ≡ true
  pub small : c < 128

letter : (c : ℕ) → is_letter c ≡ true → IsLetter c
unfolding is_letter
letter c e =
    let a = and_parts _ _ e in
    let b = and_parts _ _ a.1 in
    let d = and_parts _ _ b.1 in
    let f = and_parts _ _ d.1 in
    record { unescaped = is_not _ a.0; outside = is_not _ b.0; stays = is_not _ d.0; clean = f.0; small = ltb-true c 128 f.1 }

-- a plain character at the front
pub stays-plain : (c : ℕ) (rest : List ℕ) → (c == 47) ≡ false → ends_escaped 47 false (c ∷ rest) ≡ ends_escaped 47 false rest
unfolding ends_escaped
stays-plain c rest e = ap (λ b. if b then ends_escaped 47 true rest else ends_escaped 47 false rest) e

pub clean-cons : (c : ℕ) (rest : List ℕ) → is_clean c ≡ true → list_all is_clean rest ≡ true → list_all is_clean (c ∷ rest) ≡ true
clean-cons c rest e h = rw (e, h) refl

bytes-small : (c : ℕ) (rest : List ℕ) → c < 128 → length (encode_utf8_all (c ∷ rest)) ≡ 1 + length (encode_utf8_all rest)
bytes-small c rest small = ap (λ bs. length (bs ++ encode_utf8_all rest)) (encode_ascii c small) ∙ (omega arith)

pub bytes-wide : (c : ℕ) (rest : List ℕ) → length (encode_utf8_all (c ∷ rest)) ≤ 4 + length (encode_utf8_all rest)
bytes-wide c rest = omega (arith, length-append (encode c) (encode_utf8_all rest), length-encode c, (len_utf8_bounds c).1)

-- one plain character of one byte
pub keeps_char : (c : ℕ) → (c == 47) ≡ false → is_clean c ≡ true → c < 128 → Keeps (λ rest. c ∷ rest) 1
keeps_char c e clean small = record {
  stays = λ rest. stays-plain c rest e;
  clean = λ rest h. clean-cons c rest clean h;
  short = λ rest. omega (arith, bytes-small c rest small);
}

-- Words.

-- a word and what follows it
pub keeps_word : (word : List ℕ) → list_all is_letter word ≡ true → Keeps (λ rest. word ++ rest) (length word)
keeps_word [] h = keeps_nothing
keeps_word (c ∷ cs) h =
    let a = and_parts _ _ h in
    let l = letter c a.0 in
    keeps_wider (λ rest. c ∷ (cs ++ rest)) (1 + length cs) (length (c ∷ cs)) (omega arith)
    (keeps_both (λ rest. c ∷ rest) (λ rest. cs ++ rest) 1 (length cs) (keeps_char c l.unescaped l.clean l.small) (keeps_word cs a.1))

-- the atoms of a word
letter_atoms : List ℕ → List Atom
letter_atoms cs = map (λ c. Bare (Plain c)) cs

pub atoms-letter : (c : ℕ) (ms : List Mark) → (c == 60) ≡ false → atoms zero (Plain c ∷ ms) ≡ Bare (Plain c) ∷ atoms zero ms
unfolding atoms
atoms-letter c ms e = rw e refl

atoms-word : (word rest : List ℕ) → list_all is_letter word ≡ true → atoms zero (marks 47 false (word ++ rest)) ≡ letter_atoms word ++ atoms zero (marks 47 false rest)
unfolding letter_atoms
atoms-word [] rest h = refl
atoms-word (c ∷ cs) rest h =
    let a = and_parts _ _ h in
    let l = letter c a.0 in
    ap (atoms zero) (marks-plain c (cs ++ rest) l.unescaped) ∙ atoms-letter c (marks 47 false (cs ++ rest)) l.outside ∙ ap (λ xs. Bare (Plain c) ∷ xs) (atoms-word cs rest a.1)

-- the run of a word ends where the word does
run-word : (word : List ℕ) (xs : List Atom) → list_all is_letter word ≡ true → word_run 37 xs ≡ Ok [] → word_run 37 (letter_atoms word ++ xs) ≡ Ok word
unfolding word_run letter_atoms
run-word [] xs h e = e
run-word (c ∷ cs) xs h e =
    let a = and_parts _ _ h in
    let l = letter c a.0 in
    rw (l.stays, run-word cs xs a.1 e) refl

-- the characters of a word, skipped
past-word : (word : List ℕ) (xs : List Atom) → reading 37 (length word) (letter_atoms word ++ xs) ≡ reading 37 zero xs
unfolding reading letter_atoms
past-word [] xs = refl
past-word (c ∷ cs) xs = past-word cs xs

-- a character that ends no word is a letter
kind-letter : (k : kind.Kind) → ends_word k ≡ false → k ≡ kind.Letter
kind-letter kind.Blank e = cc
kind-letter kind.Semicolon e = cc
kind-letter kind.Comma e = cc
kind-letter kind.CommentCharacter e = cc
kind-letter kind.QuotationMark e = cc
kind-letter kind.Letter e = refl

reading-word : (c : ℕ) (cs : List ℕ) (xs : List Atom) → list_all is_letter (c ∷ cs) ≡ true → word_run 37 xs ≡ Ok [] → reading 37 zero (letter_atoms (c ∷ cs) ++ xs)
    ≡ with_token (token.Word (c ∷ cs)) (reading 37 zero xs)
unfolding reading letter_atoms
reading-word c cs xs h e =
    let a = and_parts _ _ h in
    let l = letter c a.0 in
    rw (kind-letter (kind_of 37 c) l.stays, run-word cs xs a.1 e) (ap (with_token (token.Word (c ∷ cs))) (past-word cs xs))

-- a word is read as a word
pub spells_word : (c : ℕ) (cs : List ℕ) → list_all is_letter (c ∷ cs) ≡ true → Spells (λ rest. (c ∷ cs) ++ rest) (token.Word (c ∷ cs) ∷ []) (length (c ∷ cs))
unfolding with_tokens
spells_word c cs h = record {
  keeps = keeps_word (c ∷ cs) h;
  reads = λ rest e. ap (reading 37 zero) (atoms-word (c ∷ cs) rest h) ∙ reading-word c cs (atoms zero (marks 47 false rest)) h e.ends;
}

-- Blanks and separators.

-- a blank is skipped
pub separates_space : Separates (λ rest. 32 ∷ rest) [] 1
unfolding with_tokens marks atoms reading is_clean
separates_space = record { keeps = keeps_char 32 refl refl (omega arith); reads = λ rest. refl }

pub separates_semicolon : Separates (λ rest. 59 ∷ rest) (token.Semicolon ∷ []) 1
unfolding with_tokens marks atoms reading is_clean
separates_semicolon = record { keeps = keeps_char 59 refl refl (omega arith); reads = λ rest. refl }

pub separates_comma : Separates (λ rest. 44 ∷ rest) (token.Comma ∷ []) 1
unfolding with_tokens marks atoms reading is_clean
separates_comma = record { keeps = keeps_char 44 refl refl (omega arith); reads = λ rest. refl }

-- each ends a word, and so does the line's end
pub end_ends : EndsWord []
unfolding marks atoms word_run
end_ends = record { ends = refl }

pub space_ends : (rest : List ℕ) → EndsWord (32 ∷ rest)
unfolding marks atoms word_run
space_ends rest = record { ends = refl }

pub semicolon_ends : (rest : List ℕ) → EndsWord (59 ∷ rest)
unfolding marks atoms word_run
semicolon_ends rest = record { ends = refl }

pub comma_ends : (rest : List ℕ) → EndsWord (44 ∷ rest)
unfolding marks atoms word_run
comma_ends rest = record { ends = refl }

-- Symbols.

-- an escaped character
stays-escaped : (c : ℕ) (rest : List ℕ) → ends_escaped 47 false (47 ∷ c ∷ rest) ≡ ends_escaped 47 false rest
unfolding ends_escaped
stays-escaped c rest = refl

slash-clean : is_clean 47 ≡ true
unfolding is_clean
slash-clean = refl

pub keeps_escaped : (c : ℕ) → is_clean c ≡ true → c < 128 → Keeps (λ rest. 47 ∷ c ∷ rest) 4
keeps_escaped c clean small = record {
  stays = λ rest. stays-escaped c rest;
  clean = λ rest h. clean-cons 47 (c ∷ rest) slash-clean (clean-cons c rest clean h);
  short = λ rest. omega (arith, bytes-small 47 (c ∷ rest) (omega arith), bytes-small c rest small);
}

-- a character of a name
keeps_name_char : (c : ℕ) → is_clean c ≡ true → Keeps (spelled_char c) 4
keeps_name_char c clean = by_kind (c == 62) (c == 47) refl refl where
  by_kind : (close slash : Bool) → (c == 62) ≡ close → (c == 47) ≡ slash → Keeps (λ rest. if close || slash then 47 ∷ c ∷ rest else c ∷ rest) 4
  by_kind true slash e f = let same : c ≡ 62 = eqb-true c 62 e in keeps_escaped c clean (omega arith)
  by_kind false true e f = let same : c ≡ 47 = eqb-true c 47 f in keeps_escaped c clean (omega arith)
  by_kind false false e f = record { stays = λ rest. stays-plain c rest f; clean = λ rest h. clean-cons c rest clean h; short = λ rest. bytes-wide c rest }

-- a name
keeps_name : (name : List ℕ) → list_all is_clean name ≡ true → Keeps (spelled_name name) (4 * length name)
unfolding spelled_name
keeps_name [] h = keeps_nothing
keeps_name (c ∷ cs) h =
    let a = and_parts _ _ h in
    keeps_wider (λ rest. spelled_char c (spelled_name cs rest)) (4 + 4 * length cs) (4 * length (c ∷ cs)) (omega arith)
    (keeps_both (spelled_char c) (spelled_name cs) 4 (4 * length cs) (keeps_name_char c a.0) (keeps_name cs a.1))

opening : Keeps (λ rest. 60 ∷ rest) 1
unfolding is_clean
opening = keeps_char 60 refl refl (omega arith)

closing : Keeps (λ rest. 62 ∷ rest) 1
unfolding is_clean
closing = keeps_char 62 refl refl (omega arith)

-- a symbol
keeps_symbol : (name : List ℕ) → list_all is_clean name ≡ true → length name ≤ 64 → Keeps (spelled_symbol name) 258
unfolding spelled_symbol
keeps_symbol name h short =
    keeps_wider (λ rest. 60 ∷ spelled_name name (62 ∷ rest)) (1 + (4 * length name + 1)) 258 (omega arith)
    (keeps_both (λ rest. 60 ∷ rest) (λ rest. spelled_name name (62 ∷ rest)) 1 (4 * length name + 1) opening
    (keeps_both (spelled_name name) (λ rest. 62 ∷ rest) (4 * length name) 1 (keeps_name name h) closing))

spells_symbol : (name : List ℕ) (p : Piece) → symbol_of name ≡ Ok p → list_all is_clean name ≡ true → length name ≤ 64 → Spells (spelled_symbol name) (token_of p ∷ []) 258
unfolding with_tokens
spells_symbol name p is h short = record { keeps = keeps_symbol name h short; reads = λ rest e. reading-spelled_symbol 37 name rest p is }

-- Identifiers.

-- what a name is made of
name_parts : (name : List ℕ) → symbol_of name ≡ Ok (piece.Name name) → is_name name ≡ true
unfolding symbol_of
name_parts name is = by_code (code_point_of name) name name is where
  by_test : (test : Bool) (cs name : List ℕ) → (if test then Ok (piece.Name cs) else Err BadName) ≡ Ok (piece.Name name) → test ≡ true
  by_test true cs name e = refl
  by_test false cs name e = cc

  by_scalar : (test : Bool) (n : ℕ) (name : List ℕ) → (if test then Ok (piece.Char n) else Err BadCodePoint) ≡ Ok (piece.Name name) → ⊥
  by_scalar true n name e = cc
  by_scalar false n name e = cc

  by_code : (code : Option ℕ) (cs name : List ℕ) → symbol_by code cs ≡ Ok (piece.Name name) → is_name cs ≡ true
  by_code None [] name e = cc
  by_code None (c ∷ cs) name e = by_test (is_name (c ∷ cs)) (c ∷ cs) name e
  by_code (Some n) cs name e = absurd (by_scalar (scalar n) n name e)

-- a character that is no blank and no control character
clean_char : (c : ℕ) → not (is_blank c || is_control c) ≡ true → scalar c ≡ true → is_clean c ≡ true
unfolding is_clean
clean_char c e s =
    let low : nat_lt c 32 ≡ false = by_tests (is_blank c) (nat_lt c 32) (c == 127) e in
    rw (le-leb 32 c (ltb-false c 32 low)) s where
      by_tests : (blank low delete : Bool) → not (blank || (low || delete)) ≡ true → low ≡ false
      by_tests true low delete e = cc
      by_tests false true delete e = cc
      by_tests false false delete e = refl

clean_chars : (cs : List ℕ) → list_all (λ c. not (is_blank c || is_control c)) cs ≡ true → scalars cs ≡ true → list_all is_clean cs ≡ true
clean_chars [] e s = refl
clean_chars (c ∷ cs) e s =
    let a = and_parts _ _ e in
    let b = and_parts _ _ s in
    clean-cons c cs (clean_char c a.0 b.0) (clean_chars cs a.1 b.1)

-- a name
pub spells_name : (name : List ℕ) → IsName name → Spells (spelled_symbol name) (token.Symbol name ∷ []) 258
spells_name name is =
    let parts = and_parts _ _ (name_parts name is.0) in
    spells_symbol name (piece.Name name) is.0 (clean_chars name parts.1 is.1) (leb-true (length name) 64 parts.0)

-- the name of a code point
capital_clean : is_clean 85 ≡ true
unfolding is_clean
capital_clean = refl

digit_cases : (d : ℕ) → d < 16 → is_clean (hex_digit d) ≡ true
unfolding is_clean
digit_cases d small =
    ⊎_elim
    (λ low. rw (lt-ltb d 10 low, le-leb 32 (48 + d) (omega arith)) (low_scalar (48 + d) (omega arith)))
    (λ high. rw (le-ltb d 10 high, le-leb 32 (55 + d) (omega arith)) (low_scalar (55 + d) (omega arith)))
    (cases_lt d 10)

short_code : (c : ℕ) → length (85 ∷ hex_digits (digit_count c) c) ≤ 64
short_code c = omega (arith, length-hex_digits (digit_count c) c, few (nat_lt c 65536)) where
  few : (b : Bool) → (if b then 4 else 8) ≤ 8
  few true = omega arith
  few false = omega arith

digits_clean : (count n : ℕ) → list_all is_clean (hex_digits count n) ≡ true
digits_clean count n = list_all-from_AllPass is_clean (hex_digits count n) (hex_digits-all (λ b. is_clean b ≡ true) digit_clean count n) where
  digit_clean : (d : ℕ) → d < 16 → is_clean (hex_digit d) ≡ true
  digit_clean d small = digit_cases d small

spells_char : (c : ℕ) → scalar c ≡ true → Spells (spelled_code c) (token.Char c ∷ []) 258
spells_char c is =
    let name = 85 ∷ hex_digits (digit_count c) c in
    subst (λ f. Spells f (token.Char c ∷ []) 258) (fun_ext (λ rest. sym (spelled_code-symbol c rest)))
    (spells_symbol name (piece.Char c) (symbol_of-spelled_code c is) (clean-cons 85 (hex_digits (digit_count c) c) capital_clean (digits_clean (digit_count c) c)) (short_code c))

-- an identifier is read as its token
pub spells_id : (id : Id) → IsId id → Spells (spelled_id id) (id_token id ∷ []) 258
unfolding id_token is_letter is_clean
spells_id (Char c) h = spells_char c h
spells_id (Named name) h = spells_name name h
spells_id Undefined h = spells_wider (λ rest. codes "UNDEFINED" ++ rest) (token.Word (codes "UNDEFINED") ∷ []) 9 258 (omega arith) (spells_word 85 (codes "NDEFINED") refl)

keeps_weight_id : (id : Id) → IsWeightId id → Keeps (spelled_id id) 258
keeps_weight_id (Char c) h = let s = spells_char c h in s.keeps
keeps_weight_id (Named name) h = let s = spells_name name h in s.keeps
keeps_weight_id Undefined h = absurd h

-- Strings.

-- the atom of an identifier in a string
id_atom : Id → Atom
id_atom (Char c) = Bracketed (85 ∷ hex_digits (digit_count c) c)
id_atom (Named name) = Bracketed name
id_atom Undefined = Unclosed

atoms-id : (id : Id) (rest : List ℕ) → IsWeightId id → atoms zero (marks 47 false (spelled_id id rest)) ≡ id_atom id ∷ atoms zero (marks 47 false rest)
unfolding id_atom
atoms-id (Char c) rest h = ap (λ cs. atoms zero (marks 47 false cs)) (spelled_code-symbol c rest) ∙ atoms-spelled_symbol (85 ∷ hex_digits (digit_count c) c) rest
atoms-id (Named name) rest h = atoms-spelled_symbol name rest
atoms-id Undefined rest h = absurd h

atoms-ids : (ids : List Id) (rest : List ℕ) → All IsWeightId ids → atoms zero (marks 47 false (spelled_all spelled_id ids rest)) ≡ map id_atom ids ++ atoms zero (marks 47 false rest)
atoms-ids [] rest h = refl
atoms-ids (id ∷ ids) rest h =
    atoms-id id (spelled_all spelled_id ids rest) (All-head IsWeightId id ids h) ∙ ap (λ xs. id_atom id ∷ xs) (atoms-ids ids rest (All-tail IsWeightId id ids h))

quoted-id : (id : Id) (xs : List Atom) → IsWeightId id → quoted (id_atom id ∷ xs) ≡ with_piece (id_piece id) (quoted xs)
unfolding quoted id_atom id_piece
quoted-id (Char c) xs h = ap (λ r. with_symbol r (quoted xs)) (symbol_of-spelled_code c h)
quoted-id (Named name) xs h = ap (λ r. with_symbol r (quoted xs)) h.0
quoted-id Undefined xs h = absurd h

quoted-ids : (ids : List Id) (xs : List Atom) → All IsWeightId ids → quoted (map id_atom ids ++ Bare (Plain 34) ∷ xs) ≡ Closed (map id_piece ids)
unfolding quoted
quoted-ids [] xs h = refl
quoted-ids (id ∷ ids) xs h =
    quoted-id id (map id_atom ids ++ Bare (Plain 34) ∷ xs) (All-head IsWeightId id ids h) ∙ ap (with_piece (id_piece id)) (quoted-ids ids xs (All-tail IsWeightId id ids h))

past-ids : (ids : List Id) (xs : List Atom) → reading 37 (suc (length (map id_piece ids))) (map id_atom ids ++ Bare (Plain 34) ∷ xs) ≡ reading 37 zero xs
unfolding reading
past-ids [] xs = refl
past-ids (id ∷ ids) xs = past-ids ids xs

reading-string : (ids : List Id) (xs : List Atom) → All IsWeightId ids → reading 37 zero (Bare (Plain 34) ∷ (map id_atom ids ++ Bare (Plain 34) ∷ xs))
    ≡ with_token (token.Text (map id_piece ids)) (reading 37 zero xs)
unfolding reading
reading-string ids xs h = rw (quoted-ids ids xs h) (ap (with_token (token.Text (map id_piece ids))) (past-ids ids xs))

-- a quotation mark at the front
pub atoms-mark : (rest : List ℕ) → atoms zero (marks 47 false (34 ∷ rest)) ≡ Bare (Plain 34) ∷ atoms zero (marks 47 false rest)
unfolding atoms marks
atoms-mark rest = refl

pub keeps_mark : Keeps (λ rest. 34 ∷ rest) 1
unfolding is_clean
keeps_mark = keeps_char 34 refl refl (omega arith)

keeps_ids : (ids : List Id) → All IsWeightId ids → Keeps (spelled_all spelled_id ids) (258 * length ids)
keeps_ids [] h = keeps_nothing
keeps_ids (id ∷ ids) h =
    keeps_wider (λ rest. spelled_id id (spelled_all spelled_id ids rest)) (258 + 258 * length ids) (258 * length (id ∷ ids)) (omega arith)
    (keeps_both (spelled_id id) (spelled_all spelled_id ids) 258 (258 * length ids) (keeps_weight_id id (All-head IsWeightId id ids h)) (keeps_ids ids (All-tail IsWeightId id ids h)))

-- a string is read as its pieces
pub spells_string : (ids : List Id) → length ids ≤ 32 → All IsWeightId ids → Spells (spelled_string ids) (token.Text (map id_piece ids) ∷ []) 8258
unfolding with_tokens
spells_string ids few h = record {
  keeps =
      keeps_wider (spelled_string ids) (1 + (258 * length ids + 1)) 8258 (omega arith)
      (keeps_both (λ rest. 34 ∷ rest) (λ rest. spelled_all spelled_id ids (34 ∷ rest)) 1 (258 * length ids + 1) keeps_mark
      (keeps_both (spelled_all spelled_id ids) (λ rest. 34 ∷ rest) (258 * length ids) 1 (keeps_ids ids h) keeps_mark));
  reads = λ rest e.
      ap (reading 37 zero) (atoms-mark (spelled_all spelled_id ids (34 ∷ rest)) ∙ ap (λ xs. Bare (Plain 34) ∷ xs) (atoms-ids ids (34 ∷ rest) h ∙ ap (λ xs. map id_atom ids ++ xs) (atoms-mark rest)))
      ∙ reading-string ids (atoms zero (marks 47 false rest)) h;
}
