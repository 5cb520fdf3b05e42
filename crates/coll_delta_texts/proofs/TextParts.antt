-- The parts of a delta file that are written one behind another make up its text.
use Rattle.std.proofs.Common.{◌≡◌, ℕ, Bool, true, false, List, [], ◌∷◌, ◌++◌, codes, map, ap, ◌∙◌, refl, append_assoc}
use Rattle.std.specs.Prelude.{encode_utf8_all, if◌then◌else◌}
use Rattle.std.specs.List.{flat_map}
use Rattle.std.proofs.lemmas.Grind.{flat_map-append}
use Rattle.std.proofs.lemmas.Str.{encodes-append}
use lib.Utf8.{encode}
use Rattle.coll_lex.specs.Characters.{quotation_mark}
use Rattle.coll_devices.specs.PhysicalLines.{line_feed}
use Rattle.coll_syntax.specs.declared.statements.Statement.{Statement}
use Rattle.coll_texts.specs.CanonicalText.{line_bytes}
use Rattle.coll_texts.specs.StatementText.{statement_lines, statement_bytes}
use Rattle.coll_texts.proofs.PrintedParts.{StandsBefore, all_before, lines_of_members}
use Rattle.coll_delta_texts.specs.DeltaText.{is_escaped_in_string, spelled_in_string, copy_line, delta_lines, delta_text, string_char_bytes, copy_bytes}

-- what follows a character stands behind it
char_before : StandsBefore spelled_in_string
char_before c rest = by_kind (is_escaped_in_string c) where
  by_kind : (escaped : Bool) → encode_utf8_all (if escaped then 47 ∷ c ∷ rest else c ∷ rest) ≡ encode_utf8_all (if escaped then 47 ∷ c ∷ [] else c ∷ []) ++ encode_utf8_all rest
  by_kind true = encodes-append (47 ∷ c ∷ []) rest
  by_kind false = encodes-append (c ∷ []) rest

-- the line of a copy
pub copy_parts : (name : List ℕ) → copy_bytes name ≡ codes "copy \"" ++ (flat_map string_char_bytes name ++ codes "\"\n")
unfolding encode
copy_parts name =
    ap (λ l. codes "copy \"" ++ (l ++ line_feed ∷ [])) (all_before spelled_in_string char_before name (quotation_mark ∷ []))
    ∙ ap (λ l. codes "copy \"" ++ l) (append_assoc (flat_map string_char_bytes name) (quotation_mark ∷ []) (line_feed ∷ []))

-- the lines of members, each of which has several
lines_of_groups : {X : Type 0} (lines : X → List (List ℕ)) (xs : List X) → flat_map line_bytes (flat_map lines xs) ≡ flat_map (λ x. flat_map line_bytes (lines x)) xs
lines_of_groups lines [] = refl
lines_of_groups lines (x ∷ xs) =
    flat_map-append line_bytes (lines x) (flat_map lines xs) ∙ ap (λ l. flat_map line_bytes (lines x) ++ l) (lines_of_groups lines xs)

-- the whole text
pub delta_parts : (copies : List (List ℕ)) (statements : List Statement) → delta_text copies statements
    ≡ codes "comment_char %\nescape_char /\nLC_COLLATE\n" ++ (flat_map copy_bytes copies ++ (flat_map statement_bytes statements ++ codes "END LC_COLLATE\n"))
unfolding delta_text delta_lines encode
delta_parts copies statements =
    let last : List (List ℕ) = codes "END LC_COLLATE" ∷ [] in
    let stated : flat_map line_bytes (flat_map statement_lines statements ++ last) ≡ flat_map statement_bytes statements ++ codes "END LC_COLLATE\n" =
    flat_map-append line_bytes (flat_map statement_lines statements) last ∙ ap (λ l. l ++ flat_map line_bytes last) (lines_of_groups statement_lines statements) in
    ap (λ l. codes "comment_char %\nescape_char /\nLC_COLLATE\n" ++ l)
    (flat_map-append line_bytes (map copy_line copies) (flat_map statement_lines statements ++ last)
    ∙ ap (λ l. l ++ flat_map line_bytes (flat_map statement_lines statements ++ last)) (lines_of_members copy_line copies)
    ∙ ap (λ l. flat_map copy_bytes copies ++ l) stated)
