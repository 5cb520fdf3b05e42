-- Lines that a loader reads from their text.
use Rattle.std.proofs.Common.{◌≡◌, ◌<◌, ◌+◌, ℕ, Bool, true, false, List, [], ◌∷◌, length, chars, Some, None, Ok, refl, ap, sym, ◌∙◌, arith}
use Rattle.std.specs.Prelude.{IsUtf8}
use Rattle.std.proofs.lemmas.List.{append-nil}
use Rattle.std.proofs.lemmas.List.Elements.{All-nil}
use Rattle.coll_lex.specs.Lexer.{empty_line, added}
use Rattle.coll_lex.specs.LogicalLines.{LexerState, OpenLine, answer_at, dropped, fed, line_of, number_of, reading_in, takes_memory}
use Rattle.coll_lex.specs.Marked.{is_joined, joined_marks, marks}
use Rattle.coll_lex.specs.Names.{AreTokens, HoldsText}
use Rattle.coll_lex.specs.PlainTexts.{EndsWhole, IsPlainLine, IsReadWhole, plain_reading}
use Rattle.coll_lex.specs.Scanning.{gathers_by}
use Rattle.coll_lex.specs.Tokens.{Stop, AtFault, AtComment, AtEnd, InSymbol, InString}
use Rattle.coll_lex.specs.declared.tokens.Chars.{Chars}
use Rattle.coll_lex.specs.declared.tokens.Token.{Token}
use Rattle.coll_lex.proofs.FeedLemmas.{gathered}
use Rattle.coll_lex.proofs.LineFaults.{reading_in_faults}
use Rattle.coll_lex.proofs.NameLemmas.{fed-tokens}
use Rattle.coll_syntax.specs.KeptLines.{kept_line}
use Rattle.coll_syntax.specs.Proper.{IsProperTableLine}
use Rattle.coll_syntax.specs.declared.lines.TableLine.{TableLine}
use Rattle.coll_syntax.proofs.ProperLines.{kept_proper}
use Rattle.coll_table.proofs.KeptLines.{kept_taken}
use Rattle.coll_texts.specs.Loading.{LoaderState, by_fed, by_read}

-- the line of tokens that say something
line_there : (number : ℕ) (ts : List Token) (read : TableLine) → kept_line ts ≡ Ok read → line_of number ts ≡ Some (record { number = number; tokens = ts })
line_there number [] read e = cc
line_there number (t ∷ ts) read e = refl

-- tokens that say something say what is proper
said_proper : (ts : List Token) (read : TableLine) → AreTokens ts → kept_line ts ≡ Ok read → IsProperTableLine read
said_proper [] read a e = cc
said_proper (t ∷ ts) read a e = kept_proper (t ∷ ts) t ts (Ok read) a refl e

-- the answer to a reading that is whole
whole_answer : (next : LexerState) (o : OpenLine) (joined : Bool) (ts : List Token) (stop : Stop) (read : TableLine) → EndsWhole stop joined → kept_line ts ≡ Ok read
    → answer_at next o joined ts stop ≡ Ok (Some (record { number = o.number; tokens = ts }), next)
whole_answer next o joined ts (AtFault fault) read whole said = absurd whole
whole_answer next o joined ts AtComment read whole said = rw (line_there o.number ts read said) refl
whole_answer next o joined ts AtEnd read whole said = rw (whole, line_there o.number ts read said) refl
whole_answer next o joined ts InSymbol read whole said = absurd whole
whole_answer next o joined ts InString read whole said = absurd whole

-- the number of a line behind no open one
numbered_next : (s : LexerState) → s.line ≡ None → s.count + 1 ≡ number_of s
numbered_next s alone = rw alone refl

-- the line that is given
pub plain_fed : (s : LexerState) (line text : List ℕ) (read : TableLine) → IsPlainLine s line text → s.line ≡ None → IsReadWhole s.special text
    → kept_line (plain_reading s.special text).tokens ≡ Ok read → fed s line ≡ Ok (Some (record { number = number_of s; tokens = (plain_reading s.special text).tokens }), dropped s)
plain_fed s line text read plain alone whole said =
    let o = added (empty_line (s.count + 1)) text (length line) in
    let r = plain_reading s.special text in
    rw (← numbered_next s alone) (plain.answered ∙ whole_answer (dropped s) o (is_joined s.special.escape (chars text)) r.tokens r.stop read whole.whole said)

-- what it says is proper
none_held : (s : LexerState) → s.line ≡ None → HoldsText s
none_held s alone = rw alone (All-nil IsUtf8)

pub plain_proper : (s : LexerState) (line text : List ℕ) (read : TableLine) → IsPlainLine s line text → s.line ≡ None → IsReadWhole s.special text
    → kept_line (plain_reading s.special text).tokens ≡ Ok read → IsProperTableLine read
plain_proper s line text read plain alone whole said =
    let ts = (plain_reading s.special text).tokens in
    said_proper ts read (fed-tokens s (dropped s) line (record { number = number_of s; tokens = ts }) (none_held s alone) (plain_fed s line text read plain alone whole said)) said

-- it is taken as the tokens are
pub plain_taken : (s : LoaderState) (line text : List ℕ) (read : TableLine) → IsPlainLine s.lexer line text → s.lexer.line ≡ None → IsReadWhole s.lexer.special text
    → kept_line (plain_reading s.lexer.special text).tokens ≡ Ok read
    → by_read (record s { lexer = dropped s.lexer }) (number_of s.lexer) (Ok read) ≡ by_fed s (fed s.lexer line)
plain_taken s line text read plain alone whole said =
    let after = record s { lexer = dropped s.lexer } in
    let ts = (plain_reading s.lexer.special text).tokens in
    ap (by_read after (number_of s.lexer)) (sym said) ∙ (kept_taken after (number_of s.lexer) ts ∙ ap (by_fed s) (sym (plain_fed s.lexer line text read plain alone whole said)))

-- memory may be taken for a line whose text has a token
text_read : (special : Chars) (text : List ℕ) → reading_in special (text ∷ []) ≡ plain_reading special text
unfolding reading_in joined_marks
text_read special text = rw (append-nil (marks special.escape false (chars text))) refl

gathers : (ts : List Token) (stop : Stop) → 0 < length ts → gathers_by ts stop ≡ true
gathers [] stop some = absurd (omega (arith, some))
gathers (t ∷ ts) stop some = refl

pub plain_takes : (s : LexerState) (line text : List ℕ) → IsPlainLine s line text → 0 < length (plain_reading s.special text).tokens → takes_memory s line ≡ true
unfolding takes_memory
plain_takes s line text plain some =
    let r = plain_reading s.special text in
    let among = rw (text_read s.special text) at (reading_in_faults s.special (text ∷ [])) in
    rw plain.answered (gathered (dropped s) (added (empty_line (s.count + 1)) text (length line)) (is_joined s.special.escape (chars text)) r.tokens r.stop (gathers r.tokens r.stop some) among)
