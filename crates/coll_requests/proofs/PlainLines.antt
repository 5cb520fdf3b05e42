-- Lines that are parsed where they stand.
use Rattle.std.proofs.Common.{◌≡◌, ◌<◌, ◌+◌, ◌==◌, ℕ, Bool, true, false, List, [], ◌∷◌, length, chars, Some, None, Ok, refl, ap, sym, ◌∙◌, subst, arith}
use Rattle.std.specs.Prelude.{IsUtf8, ◌&&◌}
use Rattle.std.proofs.lemmas.Bool.Decides.{Decides-eqb}
use Rattle.std.proofs.lemmas.List.{append-nil}
use Rattle.std.proofs.lemmas.List.Elements.{All-nil}
use Rattle.coll_lex.specs.Lexer.{empty_line, added}
use Rattle.coll_lex.specs.LogicalLines.{LexerState, OpenLine, answer_at, dropped, fed, first_line, line_of, number_of, reading_in, takes_memory}
use Rattle.coll_lex.specs.Marked.{is_joined, joined_marks, marks}
use Rattle.coll_lex.specs.Names.{AreTokens, HoldsText}
use Rattle.coll_lex.specs.PlainTexts.{EndsWhole, IsPlainLine, IsReadWhole, plain_reading}
use Rattle.coll_lex.specs.Scanning.{gathers_by}
use Rattle.coll_lex.specs.Tokens.{Stop, AtFault, AtComment, AtEnd, InSymbol, InString}
use Rattle.coll_lex.specs.declared.tokens.Chars.{Chars}
use Rattle.coll_lex.specs.declared.tokens.Token.{Token}
use Rattle.coll_lex.specs.declared.tokens.Token.TheVariants as token
use Rattle.coll_lex.proofs.FeedLemmas.{gathered}
use Rattle.coll_lex.proofs.LineFaults.{reading_in_faults}
use Rattle.coll_lex.proofs.NameLemmas.{fed-tokens}
use Rattle.coll_syntax.specs.DeltaLines.{delta_line, delta_row}
use Rattle.coll_syntax.specs.Keywords.{keyword_of}
use Rattle.coll_syntax.specs.Proper.{IsProperDeltaLine}
use Rattle.coll_syntax.specs.declared.lines.DeltaLine.{DeltaLine}
use Rattle.coll_syntax.proofs.ProperLines.{delta_row-proper}
use Rattle.coll_requests.specs.Commands.{is_command, is_command_word}
use Rattle.coll_requests.specs.SessionLines.{delta_parsed, opening_of, tokens_parsed}
use Rattle.coll_requests.specs.Parsing.{Parses, no_memory}
use Rattle.coll_requests.specs.declared.session_lines.Opening.{Opening}
use Rattle.coll_requests.specs.declared.session_lines.Parsed.{Parsed}
use Rattle.coll_requests.proofs.ParsingLemmas.{numbered, parsed_starved, parses_whole}

-- the line of tokens that say something
line_there : (number : ℕ) (ts : List Token) (read : DeltaLine) → delta_line ts ≡ Ok read → line_of number ts ≡ Some (record { number = number; tokens = ts })
unfolding delta_line
line_there number [] read e = cc
line_there number (t ∷ ts) read e = refl

-- tokens that say something say what is proper
said_proper : (ts : List Token) (read : DeltaLine) → AreTokens ts → delta_line ts ≡ Ok read → IsProperDeltaLine read
unfolding delta_line
said_proper [] read a e = cc
said_proper (t ∷ ts) read a e = delta_row-proper (t ∷ ts) t ts (Ok read) a refl e

-- a line of a delta is no command
no_row : (d : ℕ) (word : List ℕ) (rest : List Token) (read : DeltaLine) → delta_row (token.Word (58 ∷ d ∷ word)) rest ≡ Ok read → is_command_word (58 ∷ d ∷ word) ≡ false
unfolding keyword_of
no_row d word rest read e = cc

no_word : (word : List ℕ) (rest : List Token) (read : DeltaLine) → delta_row (token.Word word) rest ≡ Ok read → is_command_word word ≡ false
no_word [] rest read e = refl
no_word (c ∷ []) rest read e = refl
no_word (c ∷ d ∷ word) rest read e = by_test (c == 58) refl
  where
    by_test : (t : Bool) → (c == 58) ≡ t → (c == 58) ≡ false
    by_test false is = is
    by_test true is =
        let same : c ≡ 58 = (Decides-eqb c 58).0 is in
        rw same (no_row d word rest read (subst (λ (k : ℕ). delta_row (token.Word (k ∷ d ∷ word)) rest ≡ Ok read) same e))

no_command : (first : Token) (rest : List Token) (read : DeltaLine) → delta_row first rest ≡ Ok read → is_command first ≡ false
no_command (token.Word word) rest read e = no_word word rest read e
no_command (token.Symbol name) rest read e = refl
no_command (token.Char c) rest read e = refl
no_command (token.Text pieces) rest read e = refl
no_command token.Semicolon rest read e = refl
no_command token.Comma rest read e = refl

no_and : (a b : Bool) → b ≡ false → (a && b) ≡ false
no_and true b e = e
no_and false b e = refl

parsed_so : (commands : Bool) (opening : Opening) (ts : List Token) (read : DeltaLine) → delta_line ts ≡ Ok read → tokens_parsed commands opening ts ≡ delta_parsed opening (Ok read)
unfolding tokens_parsed delta_line
parsed_so commands opening [] read e = cc
parsed_so commands opening (first ∷ rest) read e = rw (no_and commands (is_command first) (no_command first rest read e), e) refl

-- the answer to a reading that is whole
whole_answer : (next : LexerState) (o : OpenLine) (joined : Bool) (ts : List Token) (stop : Stop) (read : DeltaLine) → EndsWhole stop joined → delta_line ts ≡ Ok read
    → answer_at next o joined ts stop ≡ Ok (Some (record { number = o.number; tokens = ts }), next)
whole_answer next o joined ts (AtFault fault) read whole said = absurd whole
whole_answer next o joined ts AtComment read whole said = rw (line_there o.number ts read said) refl
whole_answer next o joined ts AtEnd read whole said = rw (whole, line_there o.number ts read said) refl
whole_answer next o joined ts InSymbol read whole said = absurd whole
whole_answer next o joined ts InString read whole said = absurd whole

-- the number of a line behind no open one
numbered_next : (s : LexerState) → s.line ≡ None → s.count + 1 ≡ number_of s
numbered_next s alone = rw alone refl

-- the line that is given
plain_fed : (s : LexerState) (line text : List ℕ) (read : DeltaLine) → IsPlainLine s line text → s.line ≡ None → IsReadWhole s.special text
    → delta_line (plain_reading s.special text).tokens ≡ Ok read → fed s line ≡ Ok (Some (record { number = number_of s; tokens = (plain_reading s.special text).tokens }), dropped s)
plain_fed s line text read plain alone whole said =
    let o = added (empty_line (s.count + 1)) text (length line) in
    let r = plain_reading s.special text in
    rw (← numbered_next s alone) (plain.answered ∙ whole_answer (dropped s) o (is_joined s.special.escape (chars text)) r.tokens r.stop read whole.whole said)

-- what it says is proper
none_held : (s : LexerState) → s.line ≡ None → HoldsText s
none_held s alone = rw alone (All-nil IsUtf8)

pub plain_proper : (s : LexerState) (line text : List ℕ) (read : DeltaLine) → IsPlainLine s line text → s.line ≡ None → IsReadWhole s.special text
    → delta_line (plain_reading s.special text).tokens ≡ Ok read → IsProperDeltaLine read
plain_proper s line text read plain alone whole said =
    let ts = (plain_reading s.special text).tokens in
    said_proper ts read (fed-tokens s (dropped s) line (record { number = number_of s; tokens = ts }) (none_held s alone) (plain_fed s line text read plain alone whole said)) said

-- memory may be taken for a line whose text has a token
text_read : (special : Chars) (text : List ℕ) → reading_in special (text ∷ []) ≡ plain_reading special text
unfolding reading_in joined_marks
text_read special text = rw (append-nil (marks special.escape false (chars text))) refl

gathers : (ts : List Token) (stop : Stop) → 0 < length ts → gathers_by ts stop ≡ true
gathers [] stop some = absurd (omega (arith, some))
gathers (t ∷ ts) stop some = refl

plain_takes : (s : LexerState) (line text : List ℕ) → IsPlainLine s line text → 0 < length (plain_reading s.special text).tokens → takes_memory s line ≡ true
unfolding takes_memory
plain_takes s line text plain some =
    let r = plain_reading s.special text in
    let among = rw (text_read s.special text) at (reading_in_faults s.special (text ∷ [])) in
    rw plain.answered (gathered (dropped s) (added (empty_line (s.count + 1)) text (length line)) (is_joined s.special.escape (chars text)) r.tokens r.stop (gathers r.tokens r.stop some) among)

-- it is parsed as its tokens are
pub plain_parses : (commands : Bool) (s : LexerState) (line text : List ℕ) (read : DeltaLine) (opening : Opening) (h : Parsed) → IsPlainLine s line text → s.line ≡ None
    → IsReadWhole s.special text → delta_line (plain_reading s.special text).tokens ≡ Ok read → opening ≡ opening_of (first_line s line) → h ≡ delta_parsed opening (Ok read)
    → (starved : Bool) × Parses commands starved s (dropped s) line (Some (numbered (number_of s) h))
plain_parses commands s line text read opening h plain alone whole said is was =
    let ts = (plain_reading s.special text).tokens in
    parses_whole commands s (dropped s) line opening (record { number = number_of s; tokens = ts }) h (number_of s) is refl (plain_fed s line text read plain alone whole said)
    (false, was ∙ sym (parsed_so commands opening ts read said))

-- memory may be refused to it
pub plain_starves : (commands : Bool) (s : LexerState) (line text : List ℕ) (opening : Opening) (h : Parsed) → IsPlainLine s line text → 0 < length (plain_reading s.special text).tokens
    → opening ≡ opening_of (first_line s line) → h ≡ no_memory opening → (starved : Bool) × Parses commands starved s (dropped s) line (Some (numbered (number_of s) h))
plain_starves commands s line text opening h plain some is was =
    (true, parsed_starved commands s (dropped s) line opening (numbered (number_of s) h) is refl (ap (numbered (number_of s)) was) (plain_takes s line text plain some))
