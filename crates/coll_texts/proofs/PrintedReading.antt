-- The lines of a canonical text decide the table that they say.
use Rattle.std.proofs.Common.{◌≡◌, ℕ, suc, ◌+◌, ◌<◌, true, false, List, [], ◌∷◌, ◌++◌, length, map, None, Result, Ok, sym, ap, subst, ◌∙◌, refl, arith, append_assoc}
use Rattle.std.specs.Prelude.{All, encode_utf8_all}
use Rattle.std.specs.List.{flat_map}
use Rattle.std.proofs.lemmas.List.Elements.{All-nil, All-cons, All-head, All-tail}
use lib.Utf8.{encode}
use Rattle.coll_lex.specs.Blanks.{past_blanks}
use Rattle.coll_lex.specs.Category.{begins_category}
use Rattle.coll_lex.specs.Directives.{operand_of, named_character, directive}
use Rattle.coll_devices.specs.PhysicalLines.{line_feed, IsInLine, lines_of, without_return}
use Rattle.coll_devices.proofs.PhysicalLinesLemmas.{lines_of-nil, lines_of-ended}
use Rattle.coll_lex.specs.Limits.{most_lines}
use Rattle.coll_lex.specs.LogicalLines.{served, outside, first_line, logical_lines}
use Rattle.coll_lex.specs.declared.tokens.Token.{Token}
use Rattle.coll_syntax.specs.TableLines.{table_line}
use Rattle.coll_syntax.specs.declared.syntax_faults.SyntaxFault.{SyntaxFault}
use Rattle.coll_syntax.specs.declared.lines.TableLine.{TableLine}
use Rattle.coll_syntax.specs.declared.lines.TableLine.TheVariants as line
use Rattle.coll_nodes.specs.Table.{Collation}
use Rattle.coll_texts.specs.BuilderStates.{Numbered, state_of, table_of, with_own_weights, line_fault, is_end}
use Rattle.coll_texts.specs.Reading.{Outcome, Decided, by_grammar, outcome_within, outcome_before, outcome_of}
use Rattle.coll_texts.specs.CanonicalText.{opening_lines, line_bytes}
use Rattle.coll_texts.proofs.StateSteps.{state_more}
use Rattle.coll_texts.proofs.PrintedStates.{Leads, EndsAs}
use Rattle.coll_texts.proofs.PrintedLines.{IsLine, SaysTo, Says}
use Rattle.coll_texts.proofs.PrintedTexts.{in_line, lexer_at, line_is_fed}

-- The bytes of lines.

-- the physical lines of canonical lines
abbrev pub bytes_of : List (List ℕ) → List (List ℕ)
bytes_of lines = map encode_utf8_all lines

-- the logical lines that begin with a canonical line
pub logical_line : (count : ℕ) (line : List ℕ) (t : Token) (ts : List Token) (more : List (List ℕ)) → IsLine line t ts → count < most_lines
    → logical_lines [] true (lexer_at count) (encode_utf8_all line ∷ more) ≡ record { number = suc count; first = first_line (lexer_at count) (encode_utf8_all line); tokens = Ok (t ∷ ts) }
    ∷ logical_lines [] true (lexer_at (suc count)) more
unfolding logical_lines served
logical_line count line t ts more h room = rw (line_is_fed count line t ts h room) refl

-- a line that is accepted: what the later ones decide is decided
line_goes_on : (before : List Numbered) (number : ℕ) (read : TableLine) (later : Numbered → Outcome) → line_fault (state_of before) (record { number = number; line = read }) ≡ None
    → is_end read ≡ false
    → by_grammar number before (Ok read) later ≡ later (record { number = number; line = read })
line_goes_on before number read later fault goes_on = rw (fault, goes_on) refl

-- a line that ends the category
line_ends : (before : List Numbered) (number : ℕ) (later : Numbered → Outcome) → line_fault (state_of before) (record { number = number; line = line.EndCategory }) ≡ None
    → by_grammar number before (Ok line.EndCategory) later ≡ Decided (Ok (table_of (with_own_weights (state_of before))))
line_ends before number later fault = rw fault refl

-- one canonical line on
one_decides : (before : List Numbered) (count : ℕ) (line : List ℕ) (read : TableLine) (more : List (List ℕ)) → Says line read → count < most_lines
    → outcome_within before (logical_lines [] true (lexer_at count) (encode_utf8_all line ∷ more))
    ≡ by_grammar (suc count) before (Ok read) (λ (n : Numbered). outcome_within (before ++ n ∷ []) (logical_lines [] true (lexer_at (suc count)) more))
unfolding outcome_within
one_decides before count line read more says room =
    ap (outcome_within before) (logical_line count line says.0 says.1 more says.2 room)
    ∙ ap (λ r. by_grammar (suc count) before r (λ (n : Numbered). outcome_within (before ++ n ∷ []) (logical_lines [] true (lexer_at (suc count)) more))) says.3

-- Lines, and what each says to a grammar.

module _ {R : Type 0} (grammar : List Token → Result R SyntaxFault) where
  -- each of these lines says what is read of it
  unfoldable pub SayAll : List (List ℕ) → List R → Type 0
  SayAll [] [] = Unit {0}
  SayAll [] (read ∷ reads) = ⊥
  SayAll (line ∷ lines) [] = ⊥
  SayAll (line ∷ lines) (read ∷ reads) = SaysTo grammar line read × SayAll lines reads

  pub say_append : (lines more : List (List ℕ)) (reads others : List R) → SayAll lines reads → SayAll more others → SayAll (lines ++ more) (reads ++ others)
  unfolding SayAll
  say_append [] more [] others h k = k
  say_append [] more (read ∷ reads) others h k = absurd h
  say_append (line ∷ lines) more [] others h k = absurd h
  say_append (line ∷ lines) more (read ∷ reads) others h k = (h.0, say_append lines more reads others h.1 k)

  pub say_members : {X : Type 0} (line : X → List ℕ) (read : X → R) (P : X → Type 0) → ((x : X) → P x → SaysTo grammar (line x) (read x)) → (xs : List X) → All P xs
      → SayAll (map line xs) (map read xs)
  unfolding SayAll
  say_members line read P each [] h = tt
  say_members line read P each (x ∷ xs) h = (each x (All-head P x xs h), say_members line read P each xs (All-tail P x xs h))

  pub say_each : {X : Type 0} (lines : X → List (List ℕ)) (read : X → List R) (P : X → Type 0) → ((x : X) → P x → SayAll (lines x) (read x)) → (xs : List X) → All P xs
      → SayAll (flat_map lines xs) (flat_map read xs)
  unfolding SayAll
  say_each lines read P each [] h = tt
  say_each lines read P each (x ∷ xs) h =
      say_append (lines x) (flat_map lines xs) (read x) (flat_map read xs) (each x (All-head P x xs h)) (say_each lines read P each xs (All-tail P x xs h))

  pub say_one : (line : List ℕ) (read : R) → SaysTo grammar line read → SayAll (line ∷ []) (read ∷ [])
  unfolding SayAll
  say_one line read h = (h, tt)

  -- a line that says something has no line feed in it
  pub says_in_line : (line : List ℕ) (read : R) → SaysTo grammar line read → IsInLine (encode_utf8_all line)
  says_in_line line read says = let l = says.2 in in_line line l.clean

  -- lines that say something have no line feed in them
  pub say_in_line : (lines : List (List ℕ)) (reads : List R) → SayAll lines reads → All IsInLine (bytes_of lines)
  unfolding SayAll
  say_in_line [] reads h = All-nil IsInLine
  say_in_line (line ∷ lines) [] h = absurd h
  say_in_line (line ∷ lines) (read ∷ reads) h = All-cons IsInLine (encode_utf8_all line) (bytes_of lines) (says_in_line line read h.0) (say_in_line lines reads h.1)

-- canonical lines and the last one decide the table
pub lines_decide : (table : Collation) (before : List Numbered) (count : ℕ) (lines : List (List ℕ)) (reads : List TableLine) (last : List ℕ)
    → SayAll table_line lines reads → Says last line.EndCategory → Leads (state_of before) (suc count) reads (EndsAs table) → count + length lines < most_lines
    → outcome_within before (logical_lines [] true (lexer_at count) (bytes_of lines ++ encode_utf8_all last ∷ [])) ≡ Decided (Ok table)
unfolding SayAll Leads
lines_decide table before count [] [] last h end leads room =
    one_decides before count last line.EndCategory [] end (omega arith)
    ∙ line_ends before (suc count) (λ (n : Numbered). outcome_within (before ++ n ∷ []) (logical_lines [] true (lexer_at (suc count)) [])) (leads.passes (suc count))
    ∙ ap (λ t. Decided (Ok t)) leads.says
lines_decide table before count [] (read ∷ reads) last h end leads room = absurd h
lines_decide table before count (line ∷ lines) [] last h end leads room = absurd h
lines_decide table before count (line ∷ lines) (read ∷ reads) last h end leads room =
    let n : Numbered = record { number = suc count; line = read } in
    let later = subst (λ d. Leads d (suc (suc count)) reads (EndsAs table)) (sym (state_more before n leads.1)) leads.2 in
    one_decides before count line read (bytes_of lines ++ encode_utf8_all last ∷ []) h.0 (omega arith)
    ∙ line_goes_on before (suc count) read (λ (n : Numbered). outcome_within (before ++ n ∷ []) (logical_lines [] true (lexer_at (suc count)) (bytes_of lines ++ encode_utf8_all last ∷ []))) leads.0
    leads.1
    ∙ lines_decide table (before ++ n ∷ []) (suc count) lines reads last h.1 end later (omega arith)

-- the lines before the declarations: the category begins behind them
pub opening_decides : (more : List (List ℕ)) → outcome_of true (bytes_of opening_lines ++ more) ≡ outcome_within [] (logical_lines [] true (lexer_at 3) more)
unfolding outcome_before outside directive operand_of named_character past_blanks begins_category without_return lexer_at encode
opening_decides more = refl

-- The bytes of a text.

-- the physical lines of lines with their line feeds
pub lines_of_feeds : (lines : List (List ℕ)) → All IsInLine (bytes_of lines) → lines_of (flat_map line_bytes lines) ≡ bytes_of lines
lines_of_feeds [] h = lines_of-nil
lines_of_feeds (line ∷ lines) h =
    ap lines_of (append_assoc (encode_utf8_all line) (line_feed ∷ []) (flat_map line_bytes lines))
    ∙ lines_of-ended (encode_utf8_all line) (flat_map line_bytes lines) (All-head IsInLine (encode_utf8_all line) (bytes_of lines) h)
    ∙ ap (λ ls. encode_utf8_all line ∷ ls) (lines_of_feeds lines (All-tail IsInLine (encode_utf8_all line) (bytes_of lines) h))
