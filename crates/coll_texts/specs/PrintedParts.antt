-- The parts of the canonical text that are written one behind another, as bytes.
use Rattle.std.specs.Prelude.{ℕ, List, [], ◌∷◌, ◌++◌, codes, encode_utf8_all}
use Rattle.std.specs.List.{flat_map}
use Rattle.coll_lex.specs.Characters.{semicolon, quotation_mark}
use Rattle.coll_devices.specs.PhysicalLines.{line_feed}
use Rattle.coll_lex.specs.Spelling.{spelled_symbol, spelled_code}
use Rattle.coll_syntax.specs.declared.identifiers.Id.{Id}
use Rattle.coll_syntax.specs.declared.rules.Rule.{Rule}
use Rattle.coll_nodes.specs.declared.declarations.Declaration.{Declaration}
use Rattle.coll_nodes.specs.Walks.{Visited}
use Rattle.coll_texts.specs.CanonicalText.{spelled_id, spelled_rule, spelled_joined, declaration_line, visited_line, rules_line, line_bytes}

-- an identifier
abbrev pub id_bytes : Id → List ℕ
id_bytes id = encode_utf8_all (spelled_id id [])

-- a character by its code point
abbrev pub char_bytes : ℕ → List ℕ
char_bytes c = encode_utf8_all (spelled_code c [])

-- a semicolon and a member behind it
abbrev pub behind_bytes : {X : Type 0} → (X → List ℕ → List ℕ) → X → List ℕ
behind_bytes spelled x = encode_utf8_all (semicolon ∷ spelled x [])

-- the line of a declaration
abbrev pub declaration_bytes : Declaration → List ℕ
declaration_bytes declaration = line_bytes (declaration_line declaration)

-- the line of what a walk visits
abbrev pub visited_bytes : Visited → List ℕ
visited_bytes item = line_bytes (visited_line item)

-- a name between its brackets
abbrev pub symbol_bytes : List ℕ → List ℕ
symbol_bytes name = encode_utf8_all (spelled_symbol name [])

-- the characters of a string, the mark that closes it, and the line's end
abbrev pub text_bytes : List ℕ → List ℕ
text_bytes chars = flat_map char_bytes chars ++ (quotation_mark ∷ line_feed ∷ [])

-- the name of a collating element, its string, and the line's end
abbrev pub element_bytes : (name chars : List ℕ) → List ℕ
element_bytes name chars = symbol_bytes name ++ (codes " from \"" ++ text_bytes chars)

-- two names with a space between them, and the line's end
abbrev pub names_bytes : (first second : List ℕ) → List ℕ
names_bytes first second = symbol_bytes first ++ (codes " " ++ (symbol_bytes second ++ line_feed ∷ []))

-- the rules, and the line's end
abbrev pub rules_bytes : List Rule → List ℕ
rules_bytes rules = encode_utf8_all (spelled_joined spelled_rule rules []) ++ line_feed ∷ []

-- the lines before the order of a table that declares this
abbrev pub opening_bytes : List Declaration → List ℕ
opening_bytes declared = codes "comment_char %\nescape_char /\nLC_COLLATE\n" ++ flat_map declaration_bytes declared

-- the text of a table with these rules, that declares this, and of which a walk visits this
abbrev pub table_bytes : List Rule → List Declaration → List Visited → List ℕ
table_bytes rules declared items =
    opening_bytes declared
    ++ (line_bytes (rules_line rules) ++ (flat_map visited_bytes items ++ codes "order_end\nEND LC_COLLATE\n"))
