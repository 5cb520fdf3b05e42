-- Which faults a line can have: among its tokens only those of tokens, as a directive only that of directives, past the most
-- lines only one too many or too long, and never a dangling escape, which the end of a text has, nor lack of memory.
use Rattle.std.proofs.Common.{◌≡◌, ℕ, zero, suc, Bool, true, false, List, [], ◌∷◌, length, map, Option, Some, None, Result, Ok, Err, refl, sym, ap, ◌∙◌, inl, inr, eq-eqb}
use Rattle.std.specs.Prelude.{◌⊎◌, ◌==◌, ◌||◌, nat_lt, if◌then◌else◌, chars}
use Rattle.std.specs.Str.{is_utf8}
use Rattle.std.proofs.lemmas.Bool.{or_parts}
use Rattle.coll_lex.specs.Characters.{quotation_mark}
use Rattle.coll_lex.specs.Kinds.{Kind, kind_of, ends_word}
use Rattle.coll_lex.specs.Kinds as kind
use Rattle.coll_lex.specs.Faults.{lex_fault_number}
use Rattle.coll_devices.specs.PhysicalLines.{without_return}
use Rattle.coll_lex.specs.Marked.{Plain, Literal, is_joined, joined_marks}
use Rattle.coll_lex.specs.Tokens.{Atom, Bracketed, Unclosed, Bare, Stop, AtFault, AtComment, AtEnd, InSymbol, InString, Reading, Quoted, Closed, Stops, is_constant, is_name, code_point_of}
use Rattle.coll_lex.specs.Tokens.{symbol_by, symbol_of, after_symbol, with_piece, with_symbol, quoted, after_string, with_letter, word_run, after_word, after_plain, atoms, reading, stopped}
use Rattle.coll_lex.specs.Directives.{with_comment, with_escape, asked, directive}
use Rattle.coll_lex.specs.LogicalLines.{OpenLine, LexerState, extended, dropped, whole, answer_at, answer_in, reading_in}
use Rattle.coll_lex.specs.LogicalLines.{directive_where, fed_as, line_fault, fed_text, unless_fault, is_among_tokens, fed}
use Rattle.coll_lex.specs.declared.tokens.Chars.{Chars}
use Rattle.coll_lex.specs.declared.tokens.Line.{Line}
use Rattle.coll_lex.specs.declared.tokens.Piece.{Piece}
use Rattle.coll_lex.specs.declared.tokens.Piece.TheVariants as piece
use Rattle.coll_lex.specs.declared.tokens.Token.{Token}
use Rattle.coll_devices.specs.Limits.{most_line_bytes}
use Rattle.coll_lex.specs.Limits.{most_lines}
use Rattle.coll_lex.specs.declared.faults.LexFault.{LexFault}
use Rattle.coll_lex.specs.declared.faults.LexFault.TheVariants.{NotUtf8, OpenSymbol, EmptySymbol, BadName, BadCodePoint, OpenString, CharacterConstant}
use Rattle.coll_lex.specs.declared.faults.LexFault.TheVariants.{DanglingEscape, LineTooLong, BadCharDirective, TooManyLines, OutOfMemory}

-- an answer to some tokens has a fault that is met among tokens, or none
abbrev answer_among : {A : Type 0} → Result A LexFault → Bool
answer_among (Ok x) = true
answer_among (Err fault) = is_among_tokens fault

-- a reading that stops at a fault does so at one that is met among tokens
abbrev pub stop_among : Stop → Bool
stop_among (AtFault fault) = is_among_tokens fault
stop_among AtComment = true
stop_among AtEnd = true
stop_among InSymbol = true
stop_among InString = true

-- the same of a string
abbrev quoted_among : Quoted → Bool
quoted_among (Closed pieces) = true
quoted_among (Stops stop) = stop_among stop

chosen : {A : Type 0} (P : A → Bool) (b : Bool) (x y : A) → P x ≡ true → P y ≡ true → P (if b then x else y) ≡ true
chosen P true x y p q = p
chosen P false x y p q = q

neither : {A : Type 0} (P : A → Bool) (b : Bool) (x y : A) → P x ≡ false → P y ≡ false → P (if b then x else y) ≡ false
neither P true x y p q = p
neither P false x y p q = q

symbol_by_faults : (code : Option ℕ) (name : List ℕ) → answer_among (symbol_by code name) ≡ true
symbol_by_faults (Some n) name = chosen answer_among _ (Ok (piece.Char n)) (Err BadCodePoint) refl refl
symbol_by_faults None [] = refl
symbol_by_faults None (c ∷ cs) = chosen answer_among (is_name (c ∷ cs)) (Ok (piece.Name (c ∷ cs))) (Err BadName) refl refl

symbol_faults : (name : List ℕ) → answer_among (symbol_of name) ≡ true
unfolding symbol_of
symbol_faults name = symbol_by_faults (code_point_of name) name

with_piece_faults : (p : Piece) (q : Quoted) → quoted_among q ≡ true → quoted_among (with_piece p q) ≡ true
with_piece_faults p (Closed ps) e = refl
with_piece_faults p (Stops stop) e = e

with_symbol_faults : (r : Result Piece LexFault) (q : Quoted) → answer_among r ≡ true → quoted_among q ≡ true → quoted_among (with_symbol r q) ≡ true
with_symbol_faults (Ok p) q r_ok e = with_piece_faults p q e
with_symbol_faults (Err fault) q r_ok e = r_ok

quoted_faults : (xs : List Atom) → quoted_among (quoted xs) ≡ true
unfolding quoted
quoted_faults [] = refl
quoted_faults (Bracketed name ∷ xs) = with_symbol_faults (symbol_of name) (quoted xs) (symbol_faults name) (quoted_faults xs)
quoted_faults (Unclosed ∷ xs) = refl
quoted_faults (Bare (Plain c) ∷ xs) =
    chosen quoted_among (c == quotation_mark) (Closed []) (with_piece (piece.Char c) (quoted xs)) refl (with_piece_faults (piece.Char c) (quoted xs) (quoted_faults xs))
quoted_faults (Bare (Literal c) ∷ xs) =
    chosen quoted_among (is_constant c) (Stops (AtFault CharacterConstant)) (with_piece (piece.Char c) (quoted xs)) refl (with_piece_faults (piece.Char c) (quoted xs) (quoted_faults xs))

with_letter_faults : (c : ℕ) (r : Result (List ℕ) LexFault) → answer_among r ≡ true → answer_among (with_letter c r) ≡ true
with_letter_faults c (Ok word) e = refl
with_letter_faults c (Err fault) e = e

word_faults : (comment : ℕ) (xs : List Atom) → answer_among (word_run comment xs) ≡ true
unfolding word_run
word_faults comment [] = refl
word_faults comment (Bracketed name ∷ xs) = refl
word_faults comment (Unclosed ∷ xs) = refl
word_faults comment (Bare (Plain c) ∷ xs) =
    chosen answer_among (ends_word (kind_of comment c)) (Ok []) (with_letter c (word_run comment xs)) refl (with_letter_faults c (word_run comment xs) (word_faults comment xs))
word_faults comment (Bare (Literal c) ∷ xs) =
    chosen answer_among (is_constant c) (Err CharacterConstant) (with_letter c (word_run comment xs)) refl (with_letter_faults c (word_run comment xs) (word_faults comment xs))

-- the same of a reading
abbrev reading_among : Reading → Bool
reading_among r = stop_among r.stop

after_symbol_faults : (r : Result Piece LexFault) (rest : Reading) → answer_among r ≡ true → reading_among rest ≡ true → reading_among (after_symbol r rest) ≡ true
after_symbol_faults (Ok p) rest r_ok e = e
after_symbol_faults (Err fault) rest r_ok e = r_ok

after_string_faults : (q : Quoted) (rest : ℕ → Reading) → quoted_among q ≡ true → ((skip : ℕ) → reading_among (rest skip) ≡ true) → reading_among (after_string q rest) ≡ true
after_string_faults (Closed ps) rest q_ok e = e (suc (length ps))
after_string_faults (Stops stop) rest q_ok e = q_ok

after_word_faults : (c : ℕ) (r : Result (List ℕ) LexFault) (rest : ℕ → Reading) → answer_among r ≡ true → ((skip : ℕ) → reading_among (rest skip) ≡ true) → reading_among (after_word c r rest) ≡ true
after_word_faults c (Ok word) rest r_ok e = e (length word)
after_word_faults c (Err fault) rest r_ok e = r_ok

after_plain_faults : (k : Kind) (c : ℕ) (string : Quoted) (word : Result (List ℕ) LexFault) (rest : ℕ → Reading) → quoted_among string ≡ true → answer_among word ≡ true
    → ((skip : ℕ) → reading_among (rest skip) ≡ true) → reading_among (after_plain k c string word rest) ≡ true
after_plain_faults kind.Blank c string word rest string_ok word_ok e = e zero
after_plain_faults kind.Semicolon c string word rest string_ok word_ok e = e zero
after_plain_faults kind.Comma c string word rest string_ok word_ok e = e zero
after_plain_faults kind.CommentCharacter c string word rest string_ok word_ok e = refl
after_plain_faults kind.QuotationMark c string word rest string_ok word_ok e = after_string_faults string rest string_ok e
after_plain_faults kind.Letter c string word rest string_ok word_ok e = after_word_faults c word rest word_ok e

reading_faults : (comment skip : ℕ) (xs : List Atom) → reading_among (reading comment skip xs) ≡ true
unfolding reading
reading_faults comment zero [] = refl
reading_faults comment (suc skip) [] = refl
reading_faults comment (suc skip) (a ∷ xs) = reading_faults comment skip xs
reading_faults comment zero (Bracketed name ∷ xs) = after_symbol_faults (symbol_of name) (reading comment zero xs) (symbol_faults name) (reading_faults comment zero xs)
reading_faults comment zero (Unclosed ∷ xs) = refl
reading_faults comment zero (Bare (Plain c) ∷ xs) =
    after_plain_faults (kind_of comment c) c (quoted xs) (word_run comment xs) (λ skip. reading comment skip xs) (quoted_faults xs) (word_faults comment xs) (λ skip. reading_faults comment skip xs)
reading_faults comment zero (Bare (Literal c) ∷ xs) =
    chosen reading_among (is_constant c) (stopped (AtFault CharacterConstant)) (after_word c (word_run comment xs) (λ skip. reading comment skip xs)) refl
    (after_word_faults c (word_run comment xs) (λ skip. reading comment skip xs) (word_faults comment xs) (λ skip. reading_faults comment skip xs))

-- the fault of the end of a text, or lack of memory: no line has these by itself
abbrev pub is_no_line_fault : LexFault → Bool
is_no_line_fault fault = (lex_fault_number fault == 9) || (lex_fault_number fault == 70)

-- an answer to a line has none of these
abbrev answer_dangles : {A : Type 0} → Result A LexFault → Bool
answer_dangles (Ok x) = false
answer_dangles (Err fault) = is_no_line_fault fault

among_tokens : (fault : LexFault) → is_among_tokens fault ≡ true → is_no_line_fault fault ≡ false
among_tokens NotUtf8 e = cc
among_tokens OpenSymbol e = refl
among_tokens EmptySymbol e = refl
among_tokens BadName e = refl
among_tokens BadCodePoint e = refl
among_tokens OpenString e = refl
among_tokens CharacterConstant e = refl
among_tokens DanglingEscape e = cc
among_tokens LineTooLong e = cc
among_tokens BadCharDirective e = cc
among_tokens TooManyLines e = cc
among_tokens OutOfMemory e = cc

answer_at_faults : (next : LexerState) (o : OpenLine) (joined : Bool) (tokens : List Token) (stop : Stop) → stop_among stop ≡ true → answer_dangles (answer_at next o joined tokens stop) ≡ false
answer_at_faults next o joined tokens (AtFault fault) e = among_tokens fault e
answer_at_faults next o joined tokens AtComment e = refl
answer_at_faults next o joined tokens AtEnd e = neither answer_dangles joined _ (whole next o.number tokens) refl refl
answer_at_faults next o joined tokens InSymbol e = neither answer_dangles joined _ (Err OpenSymbol) refl refl
answer_at_faults next o joined tokens InString e = neither answer_dangles joined _ (Err OpenString) refl refl

pub reading_in_faults : (special : Chars) (lines : List (List ℕ)) → stop_among (reading_in special lines).stop ≡ true
unfolding reading_in
reading_in_faults special lines = reading_faults special.comment zero (atoms zero (joined_marks special.escape (map chars lines)))

answer_in_faults : (next : LexerState) (o : OpenLine) (line : List ℕ) → answer_dangles (answer_in next o line) ≡ false
answer_in_faults next o line =
    let r = reading_in next.special o.lines in
    answer_at_faults next o (is_joined next.special.escape (chars line)) r.tokens r.stop (reading_in_faults next.special o.lines)

abbrev asked_dangles : Option (Result Chars LexFault) → Bool
asked_dangles None = false
asked_dangles (Some answer) = answer_dangles answer

comment_faults : (special : Chars) (named : Option ℕ) → answer_dangles (with_comment special named) ≡ false
comment_faults special None = refl
comment_faults special (Some c) = neither answer_dangles (c == special.escape) (Err BadCharDirective) _ refl refl

escape_faults : (special : Chars) (named : Option ℕ) → answer_dangles (with_escape special named) ≡ false
escape_faults special None = refl
escape_faults special (Some c) = neither answer_dangles (c == special.comment) (Err BadCharDirective) _ refl refl

asked_faults : (special : Chars) (comment escape : Option (List ℕ)) → asked_dangles (asked special comment escape) ≡ false
asked_faults special (Some operand) escape = comment_faults special _
asked_faults special None (Some operand) = escape_faults special _
asked_faults special None None = refl

directive_faults : (special : Chars) (line : List ℕ) → asked_dangles (directive special line) ≡ false
unfolding directive
directive_faults special line = asked_faults special _ _

where_faults : (o : Option OpenLine) (d : Option (Result Chars LexFault)) → asked_dangles d ≡ false → asked_dangles (directive_where o d) ≡ false
where_faults None d e = e
where_faults (Some o) d e = refl

fed_as_faults : (next : LexerState) (o : OpenLine) (line : List ℕ) (d : Option (Result Chars LexFault)) → asked_dangles d ≡ false → answer_dangles (fed_as next o line d) ≡ false
fed_as_faults next o line (Some (Ok special)) e = refl
fed_as_faults next o line (Some (Err fault)) e = e
fed_as_faults next o line None e = answer_in_faults next o line

abbrev fault_dangles : Option LexFault → Bool
fault_dangles None = false
fault_dangles (Some fault) = is_no_line_fault fault

unless_faults : (fault : Option LexFault) (answer : Result (Option Line × LexerState) LexFault) → fault_dangles fault ≡ false → answer_dangles answer ≡ false
    → answer_dangles (unless_fault fault answer) ≡ false
unless_faults None answer f e = e
unless_faults (Some fault) answer f e = f

line_faults : (count bytes : ℕ) → fault_dangles (line_fault count bytes) ≡ false
line_faults count bytes =
    neither fault_dangles (nat_lt most_line_bytes bytes) (Some LineTooLong) _ refl (neither fault_dangles (count == most_lines) (Some TooManyLines) None refl refl)

fed_text_faults : (next : LexerState) (o : OpenLine) (line : List ℕ) (d : Option (Result Chars LexFault)) → asked_dangles d ≡ false → answer_dangles (fed_text next o line d) ≡ false
fed_text_faults next o line d e = neither answer_dangles (is_utf8 line) (fed_as next o line d) (Err NotUtf8) (fed_as_faults next o line d e) refl

-- a line that is handed in has neither the fault of a text's end nor, by itself, lack of memory
fed-line_fault : (s : LexerState) (line : List ℕ) (fault : LexFault) → fed s line ≡ Err fault → is_no_line_fault fault ≡ false
unfolding fed
fed-line_fault s line fault e =
    let text = without_return line in
    let d = directive_where s.line (directive s.special text) in
    sym (ap (λ (answer : Result (Option Line × LexerState) LexFault). answer_dangles answer) e)
    ∙ unless_faults (line_fault s.count (extended s line).bytes) (fed_text (dropped s) (extended s line) text d) (line_faults s.count (extended s line).bytes)
    (fed_text_faults (dropped s) (extended s line) text d (where_faults s.line (directive s.special text) (directive_faults s.special text)))

-- a line that is handed in has never the fault of a text's end
pub fed-not_dangling : (s : LexerState) (line : List ℕ) (fault : LexFault) → fed s line ≡ Err fault → (lex_fault_number fault == 9) ≡ false
fed-not_dangling s line fault e = (or_parts (lex_fault_number fault == 9) (lex_fault_number fault == 70) (fed-line_fault s line fault e)).0

-- a line that is handed in never needs memory by itself
pub fed-not_starved : (s : LexerState) (line : List ℕ) (fault : LexFault) → fed s line ≡ Err fault → (lex_fault_number fault == 70) ≡ false
fed-not_starved s line fault e = (or_parts (lex_fault_number fault == 9) (lex_fault_number fault == 70) (fed-line_fault s line fault e)).1

-- a directive is at fault as such
directive_fault : (special : Chars) (line : List ℕ) (fault : LexFault) → directive special line ≡ Some (Err fault) → is_no_line_fault fault ≡ false
directive_fault special line fault e = sym (ap (λ (d : Option (Result Chars LexFault)). asked_dangles d) e) ∙ directive_faults special line

-- a directive never needs memory by itself
pub directive-not_starved : (special : Chars) (line : List ℕ) (fault : LexFault) → directive special line ≡ Some (Err fault) → (lex_fault_number fault == 70) ≡ false
directive-not_starved special line fault e = (or_parts (lex_fault_number fault == 9) (lex_fault_number fault == 70) (directive_fault special line fault e)).1

-- so lack of memory is never its fault
pub directive_spared : (special : Chars) (line : List ℕ) (fault : LexFault) → directive special line ≡ Some (Err fault) → fault ≡ OutOfMemory → ⊥
directive_spared special line fault e lack =
    let f = rw lack at (directive-not_starved special line fault e) in cc

full_cases : (long : Bool) (answer : Result (Option Line × LexerState) LexFault) (fault : LexFault)
    → unless_fault (if long then Some LineTooLong else (if true then Some TooManyLines else None)) answer ≡ Err fault → (fault ≡ LineTooLong) ⊎ (fault ≡ TooManyLines)
full_cases true answer fault e = inl cc
full_cases false answer fault e = inr cc

-- past the most lines each line has this fault, if it isn't too long
pub fed-full : (s : LexerState) (line : List ℕ) (fault : LexFault) → fed s line ≡ Err fault → s.count ≡ most_lines → (fault ≡ LineTooLong) ⊎ (fault ≡ TooManyLines)
unfolding fed
fed-full s line fault e full =
    let test = eq-eqb s.count most_lines full in
    full_cases (nat_lt most_line_bytes (extended s line).bytes) _ fault (rw test at e)
