-- The parts of an exported text that are written one behind another make up the text.
use Rattle.std.proofs.Common.{◌≡◌, ℕ, List, [], ◌∷◌, ◌++◌, map, codes, Option, Some, None, sym, ap, ◌∙◌, refl, append_assoc, append-nil}
use Rattle.std.specs.Prelude.{All, encode_utf8_all}
use Rattle.std.specs.List.{flat_map}
use lib.Utf8.{encode}
use Rattle.std.proofs.lemmas.Grind.{flat_map-append}
use Rattle.std.proofs.lemmas.List.Elements.{All-head, All-tail}
use Rattle.coll_devices.specs.PhysicalLines.{line_feed}
use Rattle.coll_syntax.specs.declared.identifiers.Id.TheVariants.{Named}
use Rattle.coll_syntax.specs.declared.rules.Rule.{Rule}
use Rattle.coll_nodes.specs.declared.entries.Entry.{Entry}
use Rattle.coll_nodes.specs.Table.{Collation, Section, section_names}
use Rattle.coll_nodes.specs.Walks.{Visited, VisitedSection, VisitedEntry, visited_name, visited}
use Rattle.coll_nodes.specs.WellFormed.{IsNamed, FirstIsUnnamed}
use Rattle.coll_texts.specs.CanonicalText.{spelled_id, spelled_joined, spelled_rule, declaration_line, entry_line, rules_line, opening_lines, line_bytes}
use Rattle.coll_texts.specs.ExportedText.{script_line, start_line, section_lines, exported_lines, exported_text}
use Rattle.coll_texts.specs.ExportedParts.{noted_bytes, lines_visited, next_lines, walked_bytes, next_bytes, exported_bytes}
use Rattle.coll_texts.specs.PrintedParts.{symbol_bytes, rules_bytes, declaration_bytes}
use Rattle.coll_texts.proofs.PrintedParts.{id_before, lines_of_members}
use Rattle.coll_texts.proofs.PrintedStates.{name_visited, names_visited}

-- The parts of a line.

-- the line that tells the name of a section
pub script_parts : (name : List ℕ) → noted_bytes (VisitedSection name) ≡ codes "script " ++ (symbol_bytes name ++ line_feed ∷ [])
unfolding encode
script_parts name = refl

-- the lines between two sections
pub next_parts : (rules : List Rule) (name : List ℕ) → walked_bytes rules (VisitedSection name) ≡ next_bytes rules name
unfolding encode
next_parts rules name =
    let given = spelled_joined spelled_rule rules [] in
    let word : List ℕ = codes "order_end\norder_start " in
    append-nil (word ++ (encode_utf8_all (start_name given) ++ line_feed ∷ []))
    ∙ ap (λ l. word ++ (l ++ line_feed ∷ [])) (id_before (Named name) (59 ∷ given))
    ∙ ap (λ l. word ++ l) (append_assoc (symbol_bytes name) (59 ∷ encode_utf8_all given) (line_feed ∷ []))
    ∙ ap (λ l. word ++ l) (sym (append_assoc (symbol_bytes name) (59 ∷ []) (rules_bytes rules))) where
      start_name : List ℕ → List ℕ
      start_name given = spelled_id (Named name) (59 ∷ given)

-- the line of an entry
pub entry_alone : (rules : List Rule) (e : Entry) → walked_bytes rules (VisitedEntry e) ≡ line_bytes (entry_line e)
entry_alone rules e = append-nil (line_bytes (entry_line e))

-- The sections.

module _ (rules : List Rule) where
  abbrev walked : List Visited → List (List ℕ)
  walked ms = flat_map (lines_visited (next_lines rules)) ms

  -- entries have their lines
  entries_walked : (entries : List Entry) (ms : List Visited) → walked (map VisitedEntry entries ++ ms) ≡ map entry_line entries ++ walked ms
  entries_walked [] ms = refl
  entries_walked (e ∷ es) ms = ap (λ ls. entry_line e ∷ ls) (entries_walked es ms)

  -- entries, and the sections behind them
  entries_then : (entries : List Entry) (others : List Section) → walked (visited others) ++ codes "order_end" ∷ [] ≡ codes "order_end" ∷ flat_map (section_lines rules) others
      → walked (map VisitedEntry entries ++ visited others) ++ codes "order_end" ∷ [] ≡ (map entry_line entries ++ codes "order_end" ∷ []) ++ flat_map (section_lines rules) others
  entries_then entries others later =
      ap (λ ls. ls ++ codes "order_end" ∷ []) (entries_walked entries (visited others))
      ∙ append_assoc (map entry_line entries) (walked (visited others)) (codes "order_end" ∷ [])
      ∙ ap (λ ls. map entry_line entries ++ ls) later
      ∙ sym (append_assoc (map entry_line entries) (codes "order_end" ∷ []) (flat_map (section_lines rules) others))

  -- sections with names, behind an order that is open
  named_walked : (others : List Section) → All IsNamed others → walked (visited others) ++ codes "order_end" ∷ [] ≡ codes "order_end" ∷ flat_map (section_lines rules) others
  named_walked [] h = refl
  named_walked (next ∷ others) h = by_name next.name next.entries (All-head IsNamed next others h) (named_walked others (All-tail IsNamed next others h)) where
    by_name : (name : Option (List ℕ)) (entries : List Entry) → IsNamed (record { name = name; entries = entries })
        → walked (visited others) ++ codes "order_end" ∷ [] ≡ codes "order_end" ∷ flat_map (section_lines rules) others
        → walked ((visited_name name ++ map VisitedEntry entries) ++ visited others) ++ codes "order_end" ∷ []
        ≡ codes "order_end" ∷ (section_lines rules (record { name = name; entries = entries }) ++ flat_map (section_lines rules) others)
    by_name None entries is later = let e = is.1 in cc
    by_name (Some name) entries is later = ap (λ ls. codes "order_end" ∷ start_line rules (Some name) ∷ ls) (entries_then entries others later)

  -- all sections
  pub all_walked : (sections : List Section) → FirstIsUnnamed sections → rules_line rules ∷ (walked (visited sections) ++ codes "order_end" ∷ []) ≡ flat_map (section_lines rules) sections
  all_walked [] h = absurd h
  all_walked (first ∷ others) h = by_name first.name first.entries h.0 where
    by_name : (name : Option (List ℕ)) (entries : List Entry) → name ≡ None
        → rules_line rules ∷ (walked ((visited_name name ++ map VisitedEntry entries) ++ visited others) ++ codes "order_end" ∷ [])
        ≡ section_lines rules (record { name = name; entries = entries }) ++ flat_map (section_lines rules) others
    by_name None entries e = ap (λ ls. rules_line rules ∷ ls) (entries_then entries others (named_walked others h.1))
    by_name (Some name) entries e = cc

-- The text.

-- the lines of a table that is exported, as a walk meets them
abbrev pub walked_body : Collation → List (List ℕ)
walked_body table =
    map declaration_line table.declared
    ++ (map script_line (section_names table.sections) ++ (rules_line table.rules ∷ (walked table.rules (visited table.sections) ++ codes "order_end" ∷ [])))

pub exported_walked : (table : Collation) → FirstIsUnnamed table.sections → exported_lines table ≡ opening_lines ++ (walked_body table ++ codes "END LC_COLLATE" ∷ [])
unfolding exported_lines
exported_walked table h =
    let prefix = map declaration_line table.declared in
    let notes = map script_line (section_names table.sections) in
    let order = rules_line table.rules ∷ (walked table.rules (visited table.sections) ++ codes "order_end" ∷ []) in
    let last : List (List ℕ) = codes "END LC_COLLATE" ∷ [] in
    ap (λ back. opening_lines ++ back)
    (ap (λ ls. prefix ++ (notes ++ (ls ++ last))) (sym (all_walked table.rules table.sections h))
    ∙ ap (λ ls. prefix ++ ls) (sym (append_assoc notes order last))
    ∙ sym (append_assoc prefix (notes ++ order) last))

-- the bytes of the lines of members, each of which has a few
lines_of_each : {X : Type 0} (lines : X → List (List ℕ)) (xs : List X) → flat_map line_bytes (flat_map lines xs) ≡ flat_map (λ x. flat_map line_bytes (lines x)) xs
lines_of_each lines [] = refl
lines_of_each lines (x ∷ xs) = flat_map-append line_bytes (lines x) (flat_map lines xs) ∙ ap (λ l. flat_map line_bytes (lines x) ++ l) (lines_of_each lines xs)

-- the names of the sections that are met
names_noted : (ms : List Visited) → flat_map line_bytes (map script_line (flat_map name_visited ms)) ≡ flat_map noted_bytes ms
unfolding name_visited
names_noted [] = refl
names_noted (VisitedSection name ∷ ms) = ap (λ l. line_bytes (script_line name) ++ l) (names_noted ms)
names_noted (VisitedEntry e ∷ ms) = names_noted ms

pub exported_parts : (table : Collation) → FirstIsUnnamed table.sections
    → exported_text table ≡ exported_bytes table.rules table.declared (visited table.sections) (visited table.sections)
unfolding exported_text encode
exported_parts table h =
    let ms = visited table.sections in
    let prefix = map declaration_line table.declared in
    let notes = map script_line (section_names table.sections) in
    let order = walked table.rules ms ++ codes "order_end" ∷ [] in
    let last : List (List ℕ) = codes "END LC_COLLATE" ∷ [] in
    let noted : flat_map line_bytes notes ≡ flat_map noted_bytes ms =
    ap (λ ns. flat_map line_bytes (map script_line ns)) (sym (names_visited table.sections)) ∙ names_noted ms in
    let closed : flat_map line_bytes (order ++ last) ≡ flat_map (walked_bytes table.rules) ms ++ codes "order_end\nEND LC_COLLATE\n" =
    ap (flat_map line_bytes) (append_assoc (walked table.rules ms) (codes "order_end" ∷ []) last)
    ∙ flat_map-append line_bytes (walked table.rules ms) (codes "order_end" ∷ last)
    ∙ ap (λ l. l ++ codes "order_end\nEND LC_COLLATE\n") (lines_of_each (lines_visited (next_lines table.rules)) ms) in
    ap (flat_map line_bytes) (exported_walked table h ∙ ap (λ ls. opening_lines ++ ls) (append_assoc prefix (notes ++ (rules_line table.rules ∷ order)) last
    ∙ ap (λ ls. prefix ++ ls) (append_assoc notes (rules_line table.rules ∷ order) last)))
    ∙ ap (λ l. codes "comment_char %\nescape_char /\nLC_COLLATE\n" ++ l)
    (flat_map-append line_bytes prefix (notes ++ (rules_line table.rules ∷ (order ++ last)))
    ∙ ap (λ l. l ++ flat_map line_bytes (notes ++ (rules_line table.rules ∷ (order ++ last)))) (lines_of_members declaration_line table.declared)
    ∙ ap (λ l. flat_map declaration_bytes table.declared ++ l)
    (flat_map-append line_bytes notes (rules_line table.rules ∷ (order ++ last))
    ∙ ap (λ l. l ++ (line_bytes (rules_line table.rules) ++ flat_map line_bytes (order ++ last))) noted
    ∙ ap (λ l. flat_map noted_bytes ms ++ (line_bytes (rules_line table.rules) ++ l)) closed))
