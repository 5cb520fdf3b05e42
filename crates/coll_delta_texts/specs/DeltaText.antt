-- The text of a delta file: its lines, as `write_delta` writes them.
--
-- It chooses the two characters, and begins the category. Then stand a line for each copy, which has no effect in a delta, the lines
-- of each statement, and the end of the category.
use Rattle.std.specs.Prelude.{ℕ, Bool, ◌==◌, ◌||◌, if◌then◌else◌, List, [], ◌∷◌, ◌++◌, map, codes, encode_utf8_all}
use Rattle.std.specs.List.{flat_map}
use Rattle.coll_lex.specs.Characters.{quotation_mark, slash, less_than}
use Rattle.coll_syntax.specs.declared.statements.Statement.{Statement}
use Rattle.coll_texts.specs.CanonicalText.{spelled_all, opening_lines, line_bytes}
use Rattle.coll_texts.specs.StatementText.{statement_lines}

-- the characters that a string writes with an escape before them: `"`, `<` and `/`
abbrev pub is_escaped_in_string : ℕ → Bool
is_escaped_in_string c = (c == quotation_mark) || (c == less_than) || (c == slash)

-- a character of a string that stands as it is
abbrev pub spelled_in_string : ℕ → List ℕ → List ℕ
spelled_in_string c rest = if is_escaped_in_string c then slash ∷ c ∷ rest else c ∷ rest

-- a string whose characters stand as they are
abbrev pub spelled_literally : List ℕ → List ℕ → List ℕ
spelled_literally name rest = quotation_mark ∷ spelled_all spelled_in_string name (quotation_mark ∷ rest)

-- the line of a copy
abbrev pub copy_line : List ℕ → List ℕ
copy_line name = codes "copy " ++ spelled_literally name []

-- the lines of a delta file
unfoldable pub delta_lines : (copies : List (List ℕ)) → List Statement → List (List ℕ)
delta_lines copies statements =
    opening_lines ++ (map copy_line copies ++ (flat_map statement_lines statements ++ codes "END LC_COLLATE" ∷ []))

-- the text of a delta file: the bytes of its lines
unfoldable pub delta_text : (copies : List (List ℕ)) → List Statement → List ℕ
delta_text copies statements = flat_map line_bytes (delta_lines copies statements)

-- the bytes of a character of a string
abbrev pub string_char_bytes : ℕ → List ℕ
string_char_bytes c = encode_utf8_all (spelled_in_string c [])

-- the bytes of the line of a copy
abbrev pub copy_bytes : List ℕ → List ℕ
copy_bytes name = line_bytes (copy_line name)
