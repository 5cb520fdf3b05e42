-- A delta file that is written is read as its statements.
use Rattle.std.proofs.Common.{◌≡◌, ℕ, suc, ◌+◌, ◌<◌, ◌≤◌, true, List, [], ◌∷◌, ◌++◌, length, map, codes, None, sym, ap, subst, ◌∙◌, refl, arith}
use Rattle.std.specs.Prelude.{All, encode_utf8_all}
use Rattle.std.specs.List.{flat_map}
use Rattle.std.proofs.lemmas.List.{map-append}
use Rattle.std.proofs.lemmas.List.Elements.{All-append}
use lib.Utf8.{encode}
use Rattle.coll_devices.specs.PhysicalLines.{IsInLine, lines_of, without_return}
use Rattle.coll_lex.specs.Blanks.{past_blanks}
use Rattle.coll_lex.specs.Category.{begins_category}
use Rattle.coll_lex.specs.Directives.{operand_of, named_character, directive}
use Rattle.coll_lex.specs.Limits.{most_lines}
use Rattle.coll_lex.specs.LogicalLines.{outside, first_line, logical_lines}
use Rattle.coll_syntax.specs.DeltaLines.{delta_line}
use Rattle.coll_syntax.specs.declared.lines.DeltaLine.{DeltaLine}
use Rattle.coll_syntax.specs.declared.lines.DeltaLine.TheVariants as line
use Rattle.coll_syntax.specs.declared.statements.Statement.{Statement}
use Rattle.coll_requests.specs.SessionLines.{opening_of, delta_parsed, tokens_parsed, delta_file_parsed}
use Rattle.coll_requests.specs.DeltaFiles.{DeltaOutcome, Ended, outcome_within, outcome_before, delta_outcome, fault_at_end, delta_requests}
use Rattle.coll_requests.specs.declared.delta_files.StatementAt.{StatementAt}
use Rattle.coll_requests.specs.declared.session_lines.ParsedLine.{ParsedLine}
use Rattle.coll_texts.specs.CanonicalText.{opening_lines}
use Rattle.coll_texts.specs.StatementText.{statement_lines}
use Rattle.coll_texts.proofs.PrintedTexts.{lexer_at}
use Rattle.coll_texts.proofs.PrintedReading.{bytes_of, logical_line, SayAll, say_append, say_one, say_in_line, lines_of_feeds}
use Rattle.coll_texts.proofs.PrintedTables.{opening_in_line}
use Rattle.coll_delta_texts.specs.DeltaText.{copy_line, delta_lines, delta_text}
use Rattle.coll_delta_texts.specs.Writable.{IsCopyName, IsWritable}
use Rattle.coll_delta_texts.specs.ReadBack.{WrittenDeltasAreReadBack}
use Rattle.coll_delta_texts.proofs.DeltaSays.{Says, copies_say, statements_say, category_end_says, statement_reads}
use Rattle.coll_delta_texts.proofs.SaidRequests.{parsed_of, any_opening, parsed_from, numbered_from, numbered_statements, statements_said, past_copies}

-- Lines as they are parsed.

-- one line
one_parsed : (count : ℕ) (text : List ℕ) (read : DeltaLine) (more : List (List ℕ)) → Says text read → count < most_lines
    → map delta_file_parsed (logical_lines [] true (lexer_at count) (encode_utf8_all text ∷ more))
    ≡ record { number = suc count; parsed = parsed_of read } ∷ map delta_file_parsed (logical_lines [] true (lexer_at (suc count)) more)
unfolding tokens_parsed
one_parsed count text read more says room =
    let opening = opening_of (first_line (lexer_at count) (encode_utf8_all text)) in
    let later : List ParsedLine = map delta_file_parsed (logical_lines [] true (lexer_at (suc count)) more) in
    ap (map delta_file_parsed) (logical_line count text says.0 says.1 more says.2 room)
    ∙ ap (λ r. record { number = suc count; parsed = delta_parsed opening r } ∷ later) says.3
    ∙ ap (λ h. record { number = suc count; parsed = h } ∷ later) (any_opening opening read)

-- where the lines end
none_parsed : (count : ℕ) → map delta_file_parsed (logical_lines [] true (lexer_at count) []) ≡ []
unfolding logical_lines lexer_at
none_parsed count = refl

lines_parsed : (count : ℕ) (texts : List (List ℕ)) (reads : List DeltaLine) → SayAll delta_line texts reads → count + length texts ≤ most_lines
    → map delta_file_parsed (logical_lines [] true (lexer_at count) (bytes_of texts)) ≡ parsed_from (suc count) reads
unfolding SayAll parsed_from
lines_parsed count [] [] h room = none_parsed count
lines_parsed count [] (read ∷ reads) h room = absurd h
lines_parsed count (text ∷ texts) [] h room = absurd h
lines_parsed count (text ∷ texts) (read ∷ reads) h room =
    one_parsed count text read (bytes_of texts) h.0 (omega (arith, room))
    ∙ ap (λ later. record { number = suc count; parsed = parsed_of read } ∷ later) (lines_parsed (suc count) texts reads h.1 (omega (arith, room)))

-- the lines before the copies: the category begins behind them
opening_decides : (more : List (List ℕ)) → delta_outcome true (bytes_of opening_lines ++ more) ≡ outcome_within None (map delta_file_parsed (logical_lines [] true (lexer_at 3) more))
unfolding outcome_before outside directive operand_of named_character past_blanks begins_category without_return lexer_at encode
opening_decides more = refl

-- The text.

-- the lines behind the opening ones
abbrev body_lines : (copies : List (List ℕ)) → List Statement → List (List ℕ)
body_lines copies statements = map copy_line copies ++ (flat_map statement_lines statements ++ codes "END LC_COLLATE" ∷ [])

abbrev body_reads : (copies : List (List ℕ)) → List Statement → List DeltaLine
body_reads copies statements = map (λ _. line.Copy) copies ++ (flat_map statement_reads statements ++ line.EndCategory ∷ [])

body_says : (copies : List (List ℕ)) (statements : List Statement) → All IsCopyName copies → All IsWritable statements → SayAll delta_line (body_lines copies statements) (body_reads copies statements)
body_says copies statements named writable =
    say_append delta_line (map copy_line copies) (flat_map statement_lines statements ++ codes "END LC_COLLATE" ∷ []) (map (λ _. line.Copy) copies)
    (flat_map statement_reads statements ++ line.EndCategory ∷ []) (copies_say copies named)
    (say_append delta_line (flat_map statement_lines statements) (codes "END LC_COLLATE" ∷ []) (flat_map statement_reads statements) (line.EndCategory ∷ []) (statements_say statements writable)
    (say_one delta_line (codes "END LC_COLLATE") line.EndCategory category_end_says))

-- the physical lines of the text
text_lines : (copies : List (List ℕ)) (statements : List Statement) → All IsCopyName copies → All IsWritable statements
    → lines_of (delta_text copies statements) ≡ bytes_of opening_lines ++ bytes_of (body_lines copies statements)
unfolding delta_text delta_lines
text_lines copies statements named writable =
    let body = body_lines copies statements in
    let parts : bytes_of (opening_lines ++ body) ≡ bytes_of opening_lines ++ bytes_of body = map-append encode_utf8_all opening_lines body in
    let in_lines : All IsInLine (bytes_of opening_lines ++ bytes_of body) =
    All-append IsInLine (bytes_of opening_lines) (bytes_of body) opening_in_line (say_in_line delta_line body (body_reads copies statements) (body_says copies statements named writable)) in
    lines_of_feeds (opening_lines ++ body) (subst (All IsInLine) (sym parts) in_lines) ∙ parts

-- what they say
text_decides : (copies : List (List ℕ)) (statements : List Statement) → All IsCopyName copies → All IsWritable statements → length (delta_lines copies statements) ≤ most_lines
    → delta_outcome true (lines_of (delta_text copies statements)) ≡ record { statements = numbered_from (4 + length copies) statements; ending = Ended }
unfolding delta_lines
text_decides copies statements named writable few =
    let body = body_lines copies statements in
    let room : 3 + length body ≤ most_lines = omega (arith, few) in
    ap (delta_outcome true) (text_lines copies statements named writable)
    ∙ opening_decides (bytes_of body)
    ∙ ap (outcome_within None) (lines_parsed 3 body (body_reads copies statements) (body_says copies statements named writable) room)
    ∙ past_copies 4 copies (flat_map statement_reads statements ++ line.EndCategory ∷ [])
    ∙ statements_said (4 + length copies) statements writable

pub written_deltas_are_read_back : WrittenDeltasAreReadBack
unfolding delta_requests
written_deltas_are_read_back copies statements named writable few =
    let lines = lines_of (delta_text copies statements) in
    let decides = text_decides copies statements named writable few in (
      ap (λ (o : DeltaOutcome). map (λ (at : StatementAt). at.statement) o.statements) decides ∙ numbered_statements (4 + length copies) statements,
      ap (λ (o : DeltaOutcome). fault_at_end (length lines) o.ending) decides,
    )
