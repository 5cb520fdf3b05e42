-- The tokens of a logical line: they are made of characters, names are names, no word is empty, and there is a token.
use Rattle.std.proofs.Common.{◌≡◌, ℕ, zero, suc, ◌<◌, ◌==◌, Bool, true, false, List, [], ◌∷◌, length, map, chars, IsUtf8, All, Option, Some, None, Result, Ok, Err, IfSome, IfOk, refl, subst, arith}
use Rattle.std.proofs.lemmas.Bool.{cond_both}
use Rattle.std.proofs.lemmas.List.Elements.{All-nil, All-cons}
use Rattle.std.specs.Char.{IsScalar}
use lib.Utf8.{scalar}
use Rattle.coll_lex.specs.Kinds.{Kind, kind_of}
use Rattle.coll_lex.specs.Kinds as kind
use Rattle.coll_devices.specs.PhysicalLines.{without_return}
use Rattle.coll_lex.specs.Marked.{Plain, Literal, is_joined, joined_marks}
use Rattle.coll_lex.specs.Tokens.{Atom, Bracketed, Unclosed, Bare, atoms, Stop, AtFault, AtComment, AtEnd, InSymbol, InString, Reading, Quoted, Closed, Stops, is_constant, is_name, code_point_of}
use Rattle.coll_lex.specs.Tokens.{symbol_by, symbol_of, with_token, after_symbol, with_piece, with_symbol, quoted, after_string, word_run, after_word, after_plain, reading, stopped}
use Rattle.coll_lex.specs.LogicalLines.{OpenLine, LexerState, extended, dropped, whole, answer_at, answer_in, reading_in, fed_as, fed}
use Rattle.coll_lex.specs.Names.{AreCharacters, IsPiece, IsToken, AreTokens, HoldsText}
use Rattle.coll_lex.specs.declared.tokens.Chars.{Chars}
use Rattle.coll_lex.specs.declared.tokens.Line.{Line}
use Rattle.coll_lex.specs.declared.tokens.Piece.{Piece}
use Rattle.coll_lex.specs.declared.tokens.Piece.TheVariants as piece
use Rattle.coll_lex.specs.declared.tokens.Token.{Token}
use Rattle.coll_lex.specs.declared.tokens.Token.TheVariants as token
use Rattle.coll_lex.specs.declared.faults.LexFault.{LexFault}
use Rattle.coll_lex.specs.declared.faults.LexFault.TheVariants.{BadName, BadCodePoint, CharacterConstant}
use Rattle.coll_lex.proofs.CharacterLemmas.{AreSpelled, lines_spelled, IfWord, word_run_if, characters-cons}
use Rattle.coll_lex.proofs.HeldText.{fed_by}

-- symbols

-- what a symbol's characters stand for is a character, or, if it is a name, these characters
abbrev IsItself : List ℕ → Result Piece LexFault → Type 0
IsItself cs (Ok (piece.Char c)) = IsScalar c
IsItself cs (Ok (piece.Name name)) = name ≡ cs
IsItself cs (Err fault) = Unit {0}

symbol_by_itself : (code : Option ℕ) (cs : List ℕ) → IsItself cs (symbol_by code cs)
symbol_by_itself None [] = tt
symbol_by_itself None (c ∷ cs) = cond_both (is_name (c ∷ cs)) (Ok (piece.Name (c ∷ cs))) (Err BadName) (IsItself (c ∷ cs)) (λ _. refl) (λ _. tt)
symbol_by_itself (Some n) cs = cond_both (scalar n) (Ok (piece.Char n)) (Err BadCodePoint) (IsItself cs) (λ e. e) (λ _. tt)

symbol_itself : (cs : List ℕ) → IsItself cs (symbol_of cs)
unfolding symbol_of
symbol_itself cs = symbol_by_itself (code_point_of cs) cs

-- what a symbol stands for is a piece of a string
abbrev MakesPiece : Result Piece LexFault → Type 0
MakesPiece (Ok p) = IsPiece p
MakesPiece (Err fault) = Unit {0}

itself_makes_piece : (cs : List ℕ) (r : Result Piece LexFault) → AreCharacters cs → symbol_of cs ≡ r → IsItself cs r → MakesPiece r
itself_makes_piece cs (Ok (piece.Char c)) h e is = is
itself_makes_piece cs (Ok (piece.Name name)) h e same = rw same (rw same at e, h)
itself_makes_piece cs (Err fault) h e same = tt

symbol_makes_piece : (cs : List ℕ) → AreCharacters cs → MakesPiece (symbol_of cs)
symbol_makes_piece cs h = itself_makes_piece cs (symbol_of cs) h refl (symbol_itself cs)

-- strings

-- the pieces of a string that is closed are pieces
abbrev HasPieces : Quoted → Type 0
HasPieces (Closed ps) = All IsPiece ps
HasPieces (Stops stop) = Unit {0}

with_piece_pieces : (p : Piece) (q : Quoted) → IsPiece p → HasPieces q → HasPieces (with_piece p q)
with_piece_pieces p (Closed ps) h k = All-cons IsPiece p ps h k
with_piece_pieces p (Stops stop) h k = tt

with_symbol_pieces : (r : Result Piece LexFault) (q : Quoted) → MakesPiece r → HasPieces q → HasPieces (with_symbol r q)
with_symbol_pieces (Ok p) q h k = with_piece_pieces p q h k
with_symbol_pieces (Err fault) q h k = tt

quoted_pieces : (xs : List Atom) → AreSpelled xs → HasPieces (quoted xs)
unfolding quoted
quoted_pieces [] h = tt
quoted_pieces (Bracketed name ∷ xs) h = with_symbol_pieces (symbol_of name) (quoted xs) (symbol_makes_piece name h.0) (quoted_pieces xs h.1)
quoted_pieces (Unclosed ∷ xs) h = tt
quoted_pieces (Bare (Plain c) ∷ xs) h =
    cond_both (c == 34) (Closed []) (with_piece (piece.Char c) (quoted xs)) HasPieces (λ _. All-nil IsPiece) (λ _. with_piece_pieces (piece.Char c) (quoted xs) h.0 (quoted_pieces xs h.1))
quoted_pieces (Bare (Literal c) ∷ xs) h = cond_both (is_constant c) (Stops (AtFault CharacterConstant)) (with_piece (piece.Char c) (quoted xs)) HasPieces (λ _. tt)
    (λ _. with_piece_pieces (piece.Char c) (quoted xs) h.0 (quoted_pieces xs h.1))

-- readings

-- each token of a reading is one
abbrev HasTokens : Reading → Type 0
HasTokens r = All IsToken r.tokens

with_token_tokens : (t : Token) (rest : Reading) → IsToken t → HasTokens rest → HasTokens (with_token t rest)
with_token_tokens t rest h k = All-cons IsToken t rest.tokens h k

after_symbol_tokens : (r : Result Piece LexFault) (rest : Reading) → MakesPiece r → HasTokens rest → HasTokens (after_symbol r rest)
after_symbol_tokens (Ok (piece.Char c)) rest h k = with_token_tokens (token.Char c) rest h k
after_symbol_tokens (Ok (piece.Name name)) rest h k = with_token_tokens (token.Symbol name) rest h k
after_symbol_tokens (Err fault) rest h k = All-nil IsToken

after_string_tokens : (q : Quoted) (rest : ℕ → Reading) → HasPieces q → ((skip : ℕ) → HasTokens (rest skip)) → HasTokens (after_string q rest)
after_string_tokens (Closed ps) rest h k = with_token_tokens (token.Text ps) (rest (suc (length ps))) h (k (suc (length ps)))
after_string_tokens (Stops stop) rest h k = All-nil IsToken

word_begun : (c : ℕ) (word : List ℕ) → 0 < length (c ∷ word)
word_begun c word = omega arith

after_word_tokens : (c : ℕ) (r : Result (List ℕ) LexFault) (rest : ℕ → Reading) → IsScalar c → IfWord r → ((skip : ℕ) → HasTokens (rest skip)) → HasTokens (after_word c r rest)
after_word_tokens c (Ok word) rest h w k = with_token_tokens (token.Word (c ∷ word)) (rest (length word)) (word_begun c word, characters-cons c word h w) (k (length word))
after_word_tokens c (Err fault) rest h w k = All-nil IsToken

after_plain_tokens : (k : Kind) (c : ℕ) (string : Quoted) (word : Result (List ℕ) LexFault) (rest : ℕ → Reading) → IsScalar c → HasPieces string → IfWord word → ((skip : ℕ) → HasTokens (rest skip))
    → HasTokens (after_plain k c string word rest)
after_plain_tokens kind.Blank c string word rest h p w k = k zero
after_plain_tokens kind.Semicolon c string word rest h p w k = with_token_tokens token.Semicolon (rest zero) tt (k zero)
after_plain_tokens kind.Comma c string word rest h p w k = with_token_tokens token.Comma (rest zero) tt (k zero)
after_plain_tokens kind.CommentCharacter c string word rest h p w k = All-nil IsToken
after_plain_tokens kind.QuotationMark c string word rest h p w k = after_string_tokens string rest p k
after_plain_tokens kind.Letter c string word rest h p w k = after_word_tokens c word rest h w k

reading_tokens : (comment skip : ℕ) (xs : List Atom) → AreSpelled xs → HasTokens (reading comment skip xs)
unfolding reading
reading_tokens comment zero [] h = All-nil IsToken
reading_tokens comment (suc skip) [] h = All-nil IsToken
reading_tokens comment (suc skip) (Bracketed name ∷ xs) h = reading_tokens comment skip xs h.1
reading_tokens comment (suc skip) (Unclosed ∷ xs) h = reading_tokens comment skip xs h
reading_tokens comment (suc skip) (Bare m ∷ xs) h = reading_tokens comment skip xs h.1
reading_tokens comment zero (Bracketed name ∷ xs) h = after_symbol_tokens (symbol_of name) (reading comment zero xs) (symbol_makes_piece name h.0) (reading_tokens comment zero xs h.1)
reading_tokens comment zero (Unclosed ∷ xs) h = All-nil IsToken
reading_tokens comment zero (Bare (Plain c) ∷ xs) h =
    after_plain_tokens (kind_of comment c) c (quoted xs) (word_run comment xs) (λ skip. reading comment skip xs) h.0 (quoted_pieces xs h.1) (word_run_if comment xs h.1)
    (λ skip. reading_tokens comment skip xs h.1)
reading_tokens comment zero (Bare (Literal c) ∷ xs) h =
    cond_both (is_constant c) (stopped (AtFault CharacterConstant)) (after_word c (word_run comment xs) (λ skip. reading comment skip xs)) HasTokens (λ _. All-nil IsToken)
    (λ _. after_word_tokens c (word_run comment xs) (λ skip. reading comment skip xs) h.0 (word_run_if comment xs h.1) (λ skip. reading_tokens comment skip xs h.1))

reading_in_tokens : (special : Chars) (lines : List (List ℕ)) → All IsUtf8 lines → HasTokens (reading_in special lines)
unfolding reading_in
reading_in_tokens special lines h = reading_tokens special.comment zero (atoms zero (joined_marks special.escape (map chars lines))) (lines_spelled special.escape lines h)

-- answers

-- the line that an answer gives, if it does, has tokens
abbrev GivesTokens : Result (Option Line × LexerState) LexFault → Type 0
GivesTokens (Ok (None, next)) = Unit {0}
GivesTokens (Ok (Some given, next)) = AreTokens given.tokens
GivesTokens (Err fault) = Unit {0}

whole_tokens : (next : LexerState) (number : ℕ) (tokens : List Token) → All IsToken tokens → GivesTokens (whole next number tokens)
whole_tokens next number [] h = tt
whole_tokens next number (t ∷ ts) h = record { some = omega arith; each = h }

answer_at_tokens : (next : LexerState) (o : OpenLine) (joined : Bool) (tokens : List Token) (stop : Stop) → All IsToken tokens → GivesTokens (answer_at next o joined tokens stop)
answer_at_tokens next o joined tokens (AtFault fault) h = tt
answer_at_tokens next o joined tokens AtComment h = whole_tokens next o.number tokens h
answer_at_tokens next o true tokens AtEnd h = tt
answer_at_tokens next o false tokens AtEnd h = whole_tokens next o.number tokens h
answer_at_tokens next o true tokens InSymbol h = tt
answer_at_tokens next o false tokens InSymbol h = tt
answer_at_tokens next o true tokens InString h = tt
answer_at_tokens next o false tokens InString h = tt

answer_in_tokens : (next : LexerState) (o : OpenLine) (line : List ℕ) → All IsUtf8 o.lines → GivesTokens (answer_in next o line)
answer_in_tokens next o line h =
    let r = reading_in next.special o.lines in
    answer_at_tokens next o (is_joined next.special.escape (chars line)) r.tokens r.stop (reading_in_tokens next.special o.lines h)

fed_as_tokens : (next : LexerState) (o : OpenLine) (line : List ℕ) (d : Option (Result Chars LexFault)) → All IsUtf8 o.lines → GivesTokens (fed_as next o line d)
fed_as_tokens next o line (Some (Ok special)) h = tt
fed_as_tokens next o line (Some (Err fault)) h = tt
fed_as_tokens next o line None h = answer_in_tokens next o line h

fed_tokens : (s : LexerState) (line : List ℕ) → HoldsText s → GivesTokens (fed s line)
fed_tokens s line h = fed_by GivesTokens s line h (λ fault. tt) (λ d lines. fed_as_tokens (dropped s) (extended s line) (without_return line) d lines)

-- the tokens of a line that is given
pub fed-tokens : (s after : LexerState) (line : List ℕ) (given : Line) → HoldsText s → fed s line ≡ Ok (Some given, after) → AreTokens given.tokens
fed-tokens s after line given h e = subst GivesTokens e (fed_tokens s line h)

pub given_tokens : (s after : LexerState) (line : List ℕ) (answer : Option Line) → HoldsText s → fed s line ≡ Ok (answer, after) → IfSome answer (λ given. AreTokens given.tokens)
given_tokens s after line None h e = tt
given_tokens s after line (Some given) h e = fed-tokens s after line given h e

-- the same of an answer that may be a fault
pub answered_tokens : (s after : LexerState) (line : List ℕ) (r : Result (Option Line) LexFault) → HoldsText s → IfOk r (λ answer. fed s line ≡ Ok (answer, after))
    → IfOk r (λ answer. IfSome answer (λ given. AreTokens given.tokens))
answered_tokens s after line (Ok answer) h e = given_tokens s after line answer h e
answered_tokens s after line (Err fault) h e = tt
