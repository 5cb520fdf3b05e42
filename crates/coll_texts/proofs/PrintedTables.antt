-- A text of a table is read as that table: its canonical text, and whatever differs from it only in the lines that begin a section
-- and in lines without effect.
use Rattle.std.proofs.Common.{◌≡◌, ℕ, suc, ◌+◌, ◌*◌, ◌<◌, ◌≤◌, Bool, true, false, List, [], ◌∷◌, ◌++◌, length, map, codes, Some, None, Ok, sym, ap, subst, ◌∙◌, refl, arith, append_assoc}
use Rattle.std.proofs.Common.{length-append}
use Rattle.std.specs.Prelude.{All, encode_utf8_all}
use Rattle.std.specs.List.{flat_map}
use Rattle.std.proofs.lemmas.Bool.{not-false}
use Rattle.std.proofs.lemmas.List.{map-append, length-map}
use Rattle.std.proofs.lemmas.List.Elements.{All-nil, All-cons, All-head, All-tail, All-append, All-weaker}
use Rattle.coll_lex.specs.Limits.{most_lines}
use Rattle.coll_lex.specs.Names.{IsName}
use Rattle.coll_devices.specs.PhysicalLines.{IsInLine, lines_of}
use Rattle.coll_syntax.specs.Identifier.{same_name}
use Rattle.coll_syntax.specs.Proper.{IsId, IsElementText, IsProperWeight}
use Rattle.coll_syntax.specs.TableLines.{table_line}
use Rattle.coll_syntax.specs.declared.lines.TableLine.{TableLine}
use Rattle.coll_syntax.specs.declared.lines.TableLine.TheVariants as line
use Rattle.coll_nodes.specs.declared.declarations.Declaration.{Declaration}
use Rattle.coll_nodes.specs.declared.declarations.Declaration.TheVariants as declaration
use Rattle.coll_nodes.specs.declared.entries.Entry.{Entry}
use Rattle.coll_nodes.specs.OwnNames.{MeanSymbolsBehind}
use Rattle.coll_nodes.specs.Table.{Collation, name_of, names_of, texts_of, joined_entries, ids_of, section_names, is_symbol, is_symbol_name}
use Rattle.coll_nodes.specs.WellFormed.{IsKeptWeight, HasWeights, IsWeighted, IsWellFormed}
use Rattle.coll_nodes.specs.Limits.{most_entries, most_declarations, most_sections}
use Rattle.coll_nodes.specs.Walks.{Visited, VisitedSection, VisitedEntry, visited, entry_visited}
use Rattle.coll_nodes.proofs.OwnNames.{own_declared, symbol_own}
use Rattle.coll_lookups.proofs.Sameness.{same_name_decides, found_holds}
use Rattle.coll_texts.proofs.VisitedEntries.{visited_all}
use Rattle.coll_texts.specs.Reading.{answer_at_end, outcome_of, reads}
use Rattle.coll_texts.specs.CanonicalText.{declaration_line, rules_line, entry_line, visited_line, opening_lines, canonical_lines, line_bytes, text, PrintedTablesAreReadBack}
use Rattle.coll_texts.proofs.PrintedTokens.{declaration_read, order_read}
use Rattle.coll_texts.specs.ExportedParts.{lines_visited}
use Rattle.coll_texts.proofs.PrintedStates.{name_visited, visited_read, script_read, BeginSections, section_begins, names_visited, names_of_first, said, said_leads}
use Rattle.coll_texts.proofs.PrintedSpellings.{is_clean}
use Rattle.coll_texts.proofs.PrintedLines.{IsSpelledDeclaration, IsSpelledEntry, declaration_says, rules_say, entry_says, section_says, order_end_says, category_end_says}
use Rattle.coll_texts.proofs.PrintedTexts.{in_line}
use Rattle.coll_texts.proofs.PrintedReading.{bytes_of, SayAll, say_append, say_members, say_each, say_one, lines_decide, opening_decides, lines_of_feeds, says_in_line, say_in_line}

-- What a well-formed table is made of.

-- a name that is declared as a collating symbol is one
symbol_is_name : (declared : List Declaration) (symbol : List ℕ) → All IsName (names_of declared) → is_symbol_name declared symbol ≡ true → IsName symbol
symbol_is_name declared symbol names is =
    found_holds same_name same_name_decides IsName (names_of declared) symbol names (own_declared declared symbol (symbol_own declared symbol is))

-- names, and one more
one_more : (declared : List Declaration) (new : Declaration) → All IsName (names_of declared) → IsName (name_of new) → All IsName (names_of (declared ++ new ∷ []))
one_more declared new names is =
    subst (All IsName) (sym (map-append name_of declared (new ∷ []))) (All-append IsName (names_of declared) (name_of new ∷ []) names (All-cons IsName (name_of new) [] is (All-nil IsName)))

-- its declarations, behind others
declarations_spelled : (before later : List Declaration) → MeanSymbolsBehind before later → All IsName (names_of before) → All IsName (names_of later) → All IsElementText (texts_of later)
    → All IsSpelledDeclaration later
declarations_spelled before [] meant prefix names texts = All-nil IsSpelledDeclaration
declarations_spelled before (declaration.Symbol name ∷ later) meant prefix names texts =
    let is = All-head IsName name (names_of later) names in
    All-cons IsSpelledDeclaration (declaration.Symbol name) later
    (record { name = is; own = is; texts = All-nil IsElementText })
    (declarations_spelled (before ++ declaration.Symbol name ∷ []) later meant.1 (one_more before (declaration.Symbol name) prefix is) (All-tail IsName name (names_of later) names) texts)
declarations_spelled before (declaration.Element name chars ∷ later) meant prefix names texts =
    let is = All-head IsName name (names_of later) names in
    All-cons IsSpelledDeclaration (declaration.Element name chars) later
    (record { name = is; own = is; texts = All-cons IsElementText chars [] (All-head IsElementText chars (texts_of later) texts) (All-nil IsElementText) })
    (declarations_spelled (before ++ declaration.Element name chars ∷ []) later meant.1 (one_more before (declaration.Element name chars) prefix is) (All-tail IsName name (names_of later) names)
    (All-tail IsElementText chars (texts_of later) texts))
declarations_spelled before (declaration.Equivalence name symbol ∷ later) meant prefix names texts =
    let is = All-head IsName name (names_of later) names in
    All-cons IsSpelledDeclaration (declaration.Equivalence name symbol) later
    (record { name = is; own = symbol_is_name before symbol prefix (not-false (is_symbol_name before symbol) meant.0); texts = All-nil IsElementText })
    (declarations_spelled (before ++ declaration.Equivalence name symbol ∷ []) later meant.1 (one_more before (declaration.Equivalence name symbol) prefix is)
    (All-tail IsName name (names_of later) names) texts)

-- an entry
entry_spelled : (levels : ℕ) (declared : List Declaration) (e : Entry) → levels ≤ 4 → IsId e.id → IsWeighted levels declared e → IsSpelledEntry e
entry_spelled levels declared e few is h = by_kind (is_symbol declared e.id) h where
  by_kind : (symbol : Bool) → HasWeights levels symbol e → IsSpelledEntry e
  by_kind true h = record { id = is; weights = subst (All IsProperWeight) (sym h) (All-nil IsProperWeight); few = omega (arith, ap length h) }
  by_kind false h = record { id = is; weights = All-weaker (IsKeptWeight e.id) IsProperWeight (λ w kept. kept.0) e.weights h.1; few = omega (arith, h.0) }

entries_spelled : (levels : ℕ) (declared : List Declaration) (entries : List Entry) → levels ≤ 4 → All IsId (ids_of entries) → All (IsWeighted levels declared) entries → All IsSpelledEntry entries
entries_spelled levels declared [] few ids weighted = All-nil IsSpelledEntry
entries_spelled levels declared (e ∷ entries) few ids weighted =
    All-cons IsSpelledEntry e entries
    (entry_spelled levels declared e few (All-head IsId e.id (ids_of entries) ids) (All-head (IsWeighted levels declared) e entries weighted))
    (entries_spelled levels declared entries few (All-tail IsId e.id (ids_of entries) ids) (All-tail (IsWeighted levels declared) e entries weighted))

-- what is visited on a walk
abbrev IsSpelledVisited : Visited → Type 0
IsSpelledVisited (VisitedSection name) = IsName name
IsSpelledVisited (VisitedEntry e) = IsSpelledEntry e

visited_spelled : (ms : List Visited) → All IsName (flat_map name_visited ms) → All IsSpelledEntry (flat_map entry_visited ms) → All IsSpelledVisited ms
unfolding name_visited
visited_spelled [] names entries = All-nil IsSpelledVisited
visited_spelled (VisitedSection name ∷ ms) names entries =
    All-cons IsSpelledVisited (VisitedSection name) ms (All-head IsName name (flat_map name_visited ms) names)
    (visited_spelled ms (All-tail IsName name (flat_map name_visited ms) names) entries)
visited_spelled (VisitedEntry e ∷ ms) names entries =
    All-cons IsSpelledVisited (VisitedEntry e) ms (All-head IsSpelledEntry e (flat_map entry_visited ms) entries)
    (visited_spelled ms names (All-tail IsSpelledEntry e (flat_map entry_visited ms) entries))

count_visited : (ms : List Visited) → length ms ≡ length (flat_map entry_visited ms) + length (flat_map name_visited ms)
unfolding name_visited
count_visited [] = omega arith
count_visited (VisitedSection name ∷ ms) = omega (arith, count_visited ms)
count_visited (VisitedEntry e ∷ ms) = omega (arith, count_visited ms)

-- no line feed is in the opening lines
pub opening_in_line : All IsInLine (bytes_of opening_lines)
unfolding is_clean
opening_in_line =
    All-cons IsInLine (encode_utf8_all (codes "comment_char %")) (bytes_of (codes "escape_char /" ∷ codes "LC_COLLATE" ∷ [])) (in_line (codes "comment_char %") refl)
    (All-cons IsInLine (encode_utf8_all (codes "escape_char /")) (bytes_of (codes "LC_COLLATE" ∷ [])) (in_line (codes "escape_char /") refl)
    (All-cons IsInLine (encode_utf8_all (codes "LC_COLLATE")) [] (in_line (codes "LC_COLLATE") refl) (All-nil IsInLine)))

-- Forms of a text, which differ in lines without effect before the order, and in those that begin a section.

-- the lines behind the opening ones, but for the last
unfoldable pub body_lines : (notes : List (List ℕ)) → (begun : List ℕ → List (List ℕ)) → Collation → List (List ℕ)
body_lines notes begun table =
    map declaration_line table.declared
    ++ (notes ++ (rules_line table.rules ∷ (flat_map (lines_visited begun) (visited table.sections) ++ codes "order_end" ∷ [])))

-- lines without effect, and those that begin a section, which are read as these, and are few
pub record IsForm (table : Collation) (notes : List (List ℕ)) (begun : List ℕ → List (List ℕ)) (begins : List ℕ → List TableLine) : Type 1 where
  pub notes_say : SayAll table_line notes (map script_read notes)
  pub begun_say : (name : List ℕ) → IsName name → SayAll table_line (begun name) (begins name)
  pub leads : BeginSections table.rules begins
  pub few_notes : length notes ≤ length table.sections
  pub few_begun : (name : List ℕ) → length (begun name) ≤ 2

module _ (table : Collation) (w : IsWellFormed table) (notes : List (List ℕ)) (begun : List ℕ → List (List ℕ)) (begins : List ℕ → List TableLine) (form : IsForm table notes begun begins) where
  -- what is visited says what is read of it
  visited_says : (item : Visited) → IsSpelledVisited item → SayAll table_line (lines_visited begun item) (visited_read begins item)
  unfolding visited_read
  visited_says (VisitedSection name) is = form.begun_say name is
  visited_says (VisitedEntry e) is = say_one table_line (entry_line e) (line.Order (order_read e.id e.weights)) (entry_says e is)

  -- each line says what is read of it
  body_says : SayAll table_line (body_lines notes begun table) (said notes begins table)
  unfolding body_lines said
  body_says =
      let ms = visited table.sections in
      let names = subst (All IsName) (sym (names_visited table.sections)) (names_of_first table.sections w.built.first_unnamed).0 in
      let spelled = entries_spelled (length table.rules) table.declared (joined_entries table.sections) w.built.few_levels w.built.ids w.built.weighted in
      let entries = subst (All IsSpelledEntry) (sym (visited_all table.sections)) spelled in
      let back : List (List ℕ) = flat_map (lines_visited begun) ms ++ codes "order_end" ∷ [] in
      let read : List TableLine = flat_map (visited_read begins) ms ++ line.OrderEnd ∷ [] in
      say_append table_line (map declaration_line table.declared) (notes ++ (rules_line table.rules ∷ back)) (map declaration_read table.declared)
      (map script_read notes ++ (line.OrderStart None (Some table.rules) ∷ read))
      (say_members table_line declaration_line declaration_read IsSpelledDeclaration declaration_says table.declared
      (declarations_spelled [] table.declared w.built.meant (All-nil IsName) w.built.names w.built.texts))
      (say_append table_line notes (rules_line table.rules ∷ back) (map script_read notes) (line.OrderStart None (Some table.rules) ∷ read) form.notes_say
      (say_append table_line (rules_line table.rules ∷ []) back (line.OrderStart None (Some table.rules) ∷ []) read
      (say_one table_line (rules_line table.rules) (line.OrderStart None (Some table.rules)) (rules_say table.rules w.some_levels w.built.few_levels))
      (say_append table_line (flat_map (lines_visited begun) ms) (codes "order_end" ∷ []) (flat_map (visited_read begins) ms) (line.OrderEnd ∷ [])
      (say_each table_line (lines_visited begun) (visited_read begins) IsSpelledVisited visited_says ms (visited_spelled ms names entries))
      (say_one table_line (codes "order_end") line.OrderEnd order_end_says))))

  -- at most two lines for each that is visited
  count_lines : (ms : List Visited) → length (flat_map (lines_visited begun) ms) ≤ 2 * length ms
  count_lines [] = omega arith
  count_lines (VisitedSection name ∷ ms) = omega (arith, length-append (begun name) (flat_map (lines_visited begun) ms), form.few_begun name, count_lines ms)
  count_lines (VisitedEntry e ∷ ms) = omega (arith, count_lines ms)

  -- they are few
  body_is_short : 3 + length (body_lines notes begun table) < most_lines
  unfolding body_lines
  body_is_short =
      let ms = visited table.sections in
      let back = flat_map (lines_visited begun) ms ++ codes "order_end" ∷ [] in
      let entries : length (flat_map entry_visited ms) ≡ length (joined_entries table.sections) = ap length (visited_all table.sections) in
      let names : length (flat_map name_visited ms) ≡ length (section_names table.sections) = ap length (names_visited table.sections) in
      let sections : suc (length (section_names table.sections)) ≡ length table.sections = (names_of_first table.sections w.built.first_unnamed).1 in
      let few_entries : length (joined_entries table.sections) ≤ most_entries = w.built.few_entries in
      let few_declarations : length table.declared ≤ most_declarations = w.built.few_declarations in
      let few_sections : length table.sections ≤ most_sections = w.built.few_sections in
      let few_notes : length notes ≤ length table.sections = form.few_notes in
      let behind : length back ≡ length (flat_map (lines_visited begun) ms) + 1 = length-append (flat_map (lines_visited begun) ms) (codes "order_end" ∷ []) in
      let middle : length (notes ++ (rules_line table.rules ∷ back)) ≡ length notes + suc (length back) = length-append notes (rules_line table.rules ∷ back) in
      let prefix : length (map declaration_line table.declared) ≡ length table.declared = length-map table.declared declaration_line in
      omega (arith, length-append (map declaration_line table.declared) (notes ++ (rules_line table.rules ∷ back)), count_visited ms, count_lines ms)

  -- the text is read as the table
  pub text_is_read_back : reads (flat_map line_bytes (opening_lines ++ (body_lines notes begun table ++ codes "END LC_COLLATE" ∷ []))) ≡ Ok table
  unfolding reads
  text_is_read_back =
      let last : List ℕ = codes "END LC_COLLATE" in
      let body = body_lines notes begun table in
      let whole : List (List ℕ) = opening_lines ++ (body ++ last ∷ []) in
      let parts : bytes_of whole ≡ bytes_of opening_lines ++ (bytes_of body ++ encode_utf8_all last ∷ []) =
      map-append encode_utf8_all opening_lines (body ++ last ∷ []) ∙ ap (λ back. bytes_of opening_lines ++ back) (map-append encode_utf8_all body (last ∷ [])) in
      let last_in_line : All IsInLine (encode_utf8_all last ∷ []) = All-cons IsInLine (encode_utf8_all last) [] (says_in_line table_line last line.EndCategory category_end_says) (All-nil IsInLine) in
      let in_lines : All IsInLine (bytes_of opening_lines ++ (bytes_of body ++ encode_utf8_all last ∷ [])) =
      All-append IsInLine (bytes_of opening_lines) (bytes_of body ++ encode_utf8_all last ∷ []) opening_in_line
      (All-append IsInLine (bytes_of body) (encode_utf8_all last ∷ []) (say_in_line table_line body (said notes begins table) body_says) last_in_line) in
      let lines : lines_of (flat_map line_bytes whole) ≡ bytes_of opening_lines ++ (bytes_of body ++ encode_utf8_all last ∷ []) =
      lines_of_feeds whole (subst (All IsInLine) (sym parts) in_lines) ∙ parts in
      let decides = lines_decide table [] 3 body (said notes begins table) last body_says category_end_says (said_leads table w notes begins form.leads 4) body_is_short in
      ap (answer_at_end (length (lines_of (flat_map line_bytes whole)))) (ap (outcome_of true) lines ∙ opening_decides (bytes_of body ++ encode_utf8_all last ∷ []) ∙ decides)

-- The canonical text, in which one line begins a section.

abbrev begun : List ℕ → List (List ℕ)
begun name = visited_line (VisitedSection name) ∷ []

-- each that is visited has its line
one_line_each : (ms : List Visited) → flat_map (lines_visited begun) ms ≡ map visited_line ms
one_line_each [] = refl
one_line_each (VisitedSection name ∷ ms) = ap (λ ls. visited_line (VisitedSection name) ∷ ls) (one_line_each ms)
one_line_each (VisitedEntry e ∷ ms) = ap (λ ls. visited_line (VisitedEntry e) ∷ ls) (one_line_each ms)

-- the canonical lines are the opening ones, these, and the last
lines_in_parts : (table : Collation) → canonical_lines table ≡ opening_lines ++ (body_lines [] begun table ++ codes "END LC_COLLATE" ∷ [])
unfolding canonical_lines body_lines
lines_in_parts table =
    let prefix = map declaration_line table.declared in
    let middle = map visited_line (visited table.sections) in
    let last : List (List ℕ) = codes "END LC_COLLATE" ∷ [] in
    ap (λ back. opening_lines ++ back)
    (ap (λ back. prefix ++ (rules_line table.rules ∷ back)) (sym (append_assoc middle (codes "order_end" ∷ []) last))
    ∙ sym (append_assoc prefix (rules_line table.rules ∷ (middle ++ codes "order_end" ∷ [])) last)
    ∙ ap (λ ls. (prefix ++ (rules_line table.rules ∷ (ls ++ codes "order_end" ∷ []))) ++ last) (sym (one_line_each (visited table.sections))))

canonical_form : (table : Collation) → IsForm table [] begun (λ name. line.Section name ∷ [])
unfolding SayAll
canonical_form table = record {
  notes_say = tt;
  begun_say = λ name is. say_one table_line (visited_line (VisitedSection name)) (line.Section name) (section_says name is);
  leads = section_begins table.rules;
  few_notes = omega arith;
  few_begun = λ name. omega arith;
}

-- the canonical text of a well-formed table is read as that table
pub printed_tables_are_read_back : PrintedTablesAreReadBack
unfolding text
printed_tables_are_read_back table w =
    ap (λ ls. reads (flat_map line_bytes ls)) (lines_in_parts table) ∙ text_is_read_back table w [] begun (λ name. line.Section name ∷ []) (canonical_form table)
