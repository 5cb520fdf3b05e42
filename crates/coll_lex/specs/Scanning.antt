-- What is left to read once a scan has come so far. The state of a scan is private: these words tie it to the
-- definition of tokens, and only the scan's own contracts cite them.
use Rattle.std.specs.Prelude.{◌≡◌, ℕ, zero, suc, ◌<◌, Bool, true, false, ◌&&◌, List, [], ◌∷◌}
use Rattle.std.specs.Prelude.{◌++◌, ◌⊎◌, length, chars, Option, Some, None, Result, Ok, Err}
use Rattle.std.specs.declared.alloc.Global.{Global}
use Rattle.coll_lex.specs.Marked.{Mark, marks, ends_escaped}
use Rattle.coll_lex.specs.Tokens.{Atom, Bracketed, Unclosed, before_close, atoms, Stop, AtFault, AtComment, AtEnd, InSymbol}
use Rattle.coll_lex.specs.Tokens.{InString, Reading, stopped, with_token, Quoted, Closed, Stops, quoted, word_run, reading}
use Rattle.coll_lex.specs.declared.tokens.Token.{Token}
use Rattle.coll_lex.specs.declared.tokens.Token.TheVariants as token
use Rattle.coll_lex.specs.declared.tokens.Piece.{Piece}
use Rattle.coll_lex.specs.declared.tokens.Chars.{Chars}
use Rattle.coll_lex.specs.declared.faults.LexFault.{LexFault}
use Rattle.coll_lex.specs.declared.faults.LexFault.TheVariants.{OpenSymbol, OpenString}
use Rattle.coll_lex.specs.declared.scanning.Scan.{Scan}
use Rattle.coll_lex.specs.declared.scanning.Mode.{Mode}
use Rattle.coll_lex.specs.declared.scanning.Mode.TheVariants as mode

-- the scan at the beginning of a logical line
abbrev pub fresh : Global → Scan
fresh alloc = record { mode = mode.Plain; escaped = false; partial = []; pieces = []; tokens = []; alloc = alloc }

-- the reading with these tokens before it
abbrev pub prefixed : List Token → Reading → Reading
prefixed tokens r = record { tokens = tokens ++ r.tokens; stop = r.stop }

-- the symbol whose name so far is this, with what follows it, or that nothing closes it
abbrev pub symbol_rest : List ℕ → Option (List ℕ) → (ℕ → List Atom) → List Atom
symbol_rest name None rest = Unclosed ∷ []
symbol_rest name (Some more) rest = Bracketed (name ++ more) ∷ rest (suc (length more))

-- what a text spells from inside a symbol on
abbrev pub atoms_in : List ℕ → List Mark → List Atom
atoms_in name ms = symbol_rest name (before_close ms) (λ skip. atoms skip ms)

-- the reading after a word that so far is this
abbrev pub word_rest : List ℕ → Result (List ℕ) LexFault → (ℕ → Reading) → Reading
word_rest word (Ok more) rest = with_token (token.Word (word ++ more)) (rest (length more))
word_rest word (Err fault) rest = stopped (AtFault fault)

-- the reading from inside a word on, if one has begun
abbrev pub word_left : (comment : ℕ) → List ℕ → List Atom → Reading
word_left comment [] xs = reading comment zero xs
word_left comment (c ∷ cs) xs = word_rest (c ∷ cs) (word_run comment xs) (λ skip. reading comment skip xs)

-- the reading after a string whose pieces so far are these
abbrev pub string_rest : List Piece → Quoted → (ℕ → Reading) → Reading
string_rest pieces (Closed more) rest = with_token (token.Text (pieces ++ more)) (rest (suc (length more)))
string_rest pieces (Stops stop) rest = stopped stop

-- the reading from inside a string on
abbrev pub string_left : (comment : ℕ) → List Piece → List Atom → Reading
string_left comment pieces xs = string_rest pieces (quoted xs) (λ skip. reading comment skip xs)

-- the reading that is left in a mode
abbrev pub left_in_mode : (comment : ℕ) → Mode → (partial : List ℕ) → List Piece → List Mark → Reading
left_in_mode comment mode.Plain partial pieces ms = word_left comment partial (atoms zero ms)
left_in_mode comment mode.Symbol partial pieces ms = reading comment zero (atoms_in partial ms)
left_in_mode comment mode.Text partial pieces ms = string_left comment pieces (atoms zero ms)
left_in_mode comment mode.SymbolInText partial pieces ms = string_left comment pieces (atoms_in partial ms)
left_in_mode comment mode.Comment partial pieces ms = stopped AtComment

-- the reading of a text whose prefix has been scanned
unfoldable pub reading_left : (comment : ℕ) → Scan → List Mark → Reading
reading_left comment s ms = prefixed s.tokens (left_in_mode comment s.mode s.partial s.pieces ms)

-- a scan takes one mark off the text
pub record TakesMark (comment : ℕ) (old : Scan) (m : Mark) (new : Scan) : Type 0 where
  pub reads : (ms : List Mark) → reading_left comment old (m ∷ ms) ≡ reading_left comment new ms
  pub same_escape : new.escaped ≡ old.escaped

-- the text's reading stops at this mark, which is at fault
pub record Refuses (comment : ℕ) (old : Scan) (m : Mark) (fault : LexFault) : Type 0 where
  pub stops : (ms : List Mark) → (reading_left comment old (m ∷ ms)).stop ≡ AtFault fault

-- the reading stopped at a fault, or inside a symbol or a string
abbrev pub is_cut_short : Stop → Bool
is_cut_short (AtFault fault) = true
is_cut_short AtComment = false
is_cut_short AtEnd = false
is_cut_short InSymbol = true
is_cut_short InString = true

-- the reading has a token, or is cut short
abbrev pub gathers_by : List Token → Stop → Bool
gathers_by [] stop = is_cut_short stop
gathers_by (t ∷ ts) stop = true

-- the reading has a token, or is cut short
abbrev pub gathers : Reading → Bool
gathers r = gathers_by r.tokens r.stop

-- whatever follows this mark, the text's reading has a token or is cut short
pub record Gathers (comment : ℕ) (old : Scan) (m : Mark) : Type 0 where
  pub reads : (ms : List Mark) → gathers (reading_left comment old (m ∷ ms)) ≡ true

-- a scan takes one character off the line
pub record TakesCharacter (special : Chars) (old : Scan) (c : ℕ) (new : Scan) : Type 0 where
  pub reads : (cs : List ℕ) (ms : List Mark) → reading_left special.comment old (marks special.escape old.escaped (c ∷ cs) ++ ms)
      ≡ reading_left special.comment new (marks special.escape new.escaped cs ++ ms)
  pub ends : (cs : List ℕ) → ends_escaped special.escape old.escaped (c ∷ cs) ≡ ends_escaped special.escape new.escaped cs

-- the line's reading stops at this character, which is at fault
pub record RefusesCharacter (special : Chars) (old : Scan) (c : ℕ) (fault : LexFault) : Type 0 where
  pub stops : (cs : List ℕ) (ms : List Mark) → (reading_left special.comment old (marks special.escape old.escaped (c ∷ cs) ++ ms)).stop
      ≡ AtFault fault

-- whatever follows this character, the line's reading has a token or is cut short
pub record GathersCharacter (special : Chars) (old : Scan) (c : ℕ) : Type 0 where
  pub reads : (cs : List ℕ) (ms : List Mark) → gathers (reading_left special.comment old (marks special.escape old.escaped (c ∷ cs) ++ ms))
      ≡ true

-- a comment isn't continued
abbrev pub is_continued : Mode → Bool
is_continued mode.Plain = true
is_continued mode.Symbol = true
is_continued mode.Text = true
is_continued mode.SymbolInText = true
is_continued mode.Comment = false

-- a scan takes a part off the bytes that are left of a physical line; where a comment has begun, it may take all of them
pub record TakesPart (special : Chars) (old : Scan) (text : List ℕ) (new : Scan) (rest : List ℕ) : Type 0 where
  pub reads : (ms : List Mark) → reading_left special.comment old (marks special.escape old.escaped (chars text) ++ ms)
      ≡ reading_left special.comment new (marks special.escape new.escaped (chars rest) ++ ms)
  pub ends : (ends_escaped special.escape old.escaped (chars text) ≡ ends_escaped special.escape new.escaped (chars rest))
      ⊎ ((new.mode ≡ mode.Comment) × (rest ≡ []))

-- the reading stops in these bytes
pub record RefusesPart (special : Chars) (old : Scan) (text : List ℕ) (fault : LexFault) : Type 0 where
  pub stops : (ms : List Mark) → (reading_left special.comment old (marks special.escape old.escaped (chars text) ++ ms)).stop
      ≡ AtFault fault

-- whatever follows these bytes, the reading has a token or is cut short
pub record GathersPart (special : Chars) (old : Scan) (text : List ℕ) : Type 0 where
  pub reads : (ms : List Mark) → gathers (reading_left special.comment old (marks special.escape old.escaped (chars text) ++ ms))
      ≡ true

-- a scan takes a physical line
pub record TakesLine (special : Chars) (old : Scan) (line : List ℕ) (new : Scan) : Type 0 where
  pub reads : (ms : List Mark) → reading_left special.comment old (marks special.escape false line ++ ms)
      ≡ reading_left special.comment new ms
  pub ends : is_continued new.mode ≡ true → new.escaped ≡ ends_escaped special.escape false line

-- the reading stops in this physical line
pub record RefusesLine (special : Chars) (old : Scan) (line : List ℕ) (fault : LexFault) : Type 0 where
  pub stops : (ms : List Mark) → (reading_left special.comment old (marks special.escape false line ++ ms)).stop ≡ AtFault fault

-- whatever follows this physical line, the reading has a token or is cut short
pub record GathersLine (special : Chars) (old : Scan) (line : List ℕ) : Type 0 where
  pub reads : (ms : List Mark) → gathers (reading_left special.comment old (marks special.escape false line ++ ms)) ≡ true

-- the scan is in a word
pub record IsInWord (s : Scan) : Type 0 where
  pub outside : s.mode ≡ mode.Plain
  pub begun : 0 < length s.partial

-- the physical line that was scanned last joins the next one
abbrev pub goes_on : Scan → Bool
goes_on s = s.escaped && is_continued s.mode

-- the token of a word, if one has begun
abbrev pub word_token : List ℕ → List Token
word_token [] = []
word_token (c ∷ cs) = token.Word (c ∷ cs) ∷ []

-- the tokens where a line ends in a mode, unless a symbol or a string is open
abbrev pub ending_in : Mode → (partial : List ℕ) → List Token → Result (List Token) LexFault
ending_in mode.Plain partial tokens = Ok (tokens ++ word_token partial)
ending_in mode.Symbol partial tokens = Err OpenSymbol
ending_in mode.Text partial tokens = Err OpenString
ending_in mode.SymbolInText partial tokens = Err OpenSymbol
ending_in mode.Comment partial tokens = Ok tokens

-- the tokens of a line that ends here
abbrev pub ending : Scan → Result (List Token) LexFault
ending s = ending_in s.mode s.partial s.tokens
