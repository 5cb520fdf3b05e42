-- The canonical text of a table, as `Table::print` writes it: the one that `reads` gives the table back from.
--
-- Each spelling takes what follows it, so that a whole line is spelled by putting one spelling into the next. The lines are
-- characters, and their bytes are the text. A form of a line that is not spelled here is read all the same, and is never written.
use Rattle.std.specs.Prelude.{◌≡◌, Ok, ℕ, Bool, true, false, if◌then◌else◌, List, [], ◌∷◌, ◌++◌, map, codes, encode_utf8_all}
use Rattle.std.specs.List.{flat_map, list_all}
use Rattle.coll_lex.specs.Characters.{space, quotation_mark, semicolon}
use Rattle.coll_devices.specs.PhysicalLines.{line_feed}
use Rattle.coll_lex.specs.Spelling.{spelled_symbol, spelled_code}
use Rattle.coll_syntax.specs.declared.identifiers.Id.{Id}
use Rattle.coll_syntax.specs.declared.identifiers.Id.TheVariants.{Char, Named, Undefined}
use Rattle.coll_syntax.specs.Weights.{is_own}
use Rattle.coll_syntax.specs.declared.weights.Weight.{Weight}
use Rattle.coll_syntax.specs.declared.weights.Weight.TheVariants.{Ignore, Own, Names}
use Rattle.coll_syntax.specs.declared.rules.Rule.{Rule}
use Rattle.coll_nodes.specs.declared.declarations.Declaration.{Declaration}
use Rattle.coll_nodes.specs.declared.declarations.Declaration.TheVariants.{Symbol, Element, Equivalence}
use Rattle.coll_nodes.specs.declared.entries.Entry.{Entry}
use Rattle.coll_nodes.specs.Table.{Collation}
use Rattle.coll_nodes.specs.Walks.{Visited, VisitedSection, VisitedEntry, visited}
use Rattle.coll_texts.specs.Reading.{reads}
use Rattle.coll_nodes.specs.WellFormed.{IsWellFormed}

-- A list of spellings.

-- members spelled one behind another
abbrev pub spelled_all : {X : Type 0} → (X → List ℕ → List ℕ) → List X → List ℕ → List ℕ
spelled_all spelled [] rest = rest
spelled_all spelled (x ∷ xs) rest = spelled x (spelled_all spelled xs rest)

-- members with a semicolon before each
abbrev pub spelled_behind : {X : Type 0} → (X → List ℕ → List ℕ) → List X → List ℕ → List ℕ
spelled_behind spelled [] rest = rest
spelled_behind spelled (x ∷ xs) rest = semicolon ∷ spelled x (spelled_behind spelled xs rest)

-- members with a semicolon between them
abbrev pub spelled_joined : {X : Type 0} → (X → List ℕ → List ℕ) → List X → List ℕ → List ℕ
spelled_joined spelled [] rest = rest
spelled_joined spelled (x ∷ xs) rest = spelled x (spelled_behind spelled xs rest)

-- The parts of a line.

-- an identifier: a character by its code point, a name between `<` and `>`, or the word UNDEFINED
abbrev pub spelled_id : Id → List ℕ → List ℕ
spelled_id (Char c) rest = spelled_code c rest
spelled_id (Named name) rest = spelled_symbol name rest
spelled_id Undefined rest = codes "UNDEFINED" ++ rest

-- a string of identifiers
abbrev pub spelled_string : List Id → List ℕ → List ℕ
spelled_string ids rest = quotation_mark ∷ spelled_all spelled_id ids (quotation_mark ∷ rest)

-- an entry's own weight: the identifier itself, for UNDEFINED nothing
abbrev pub spelled_own : Id → List ℕ → List ℕ
spelled_own (Char c) rest = spelled_id (Char c) rest
spelled_own (Named name) rest = spelled_id (Named name) rest
spelled_own Undefined rest = rest

-- a weight that is a list: the identifier where there is one, and else a string
abbrev pub spelled_names : List Id → List ℕ → List ℕ
spelled_names [] rest = spelled_string [] rest
spelled_names (only ∷ []) rest = spelled_id only rest
spelled_names (first ∷ second ∷ later) rest = spelled_string (first ∷ second ∷ later) rest

-- a weight of the entry of this identifier
abbrev pub spelled_weight : Id → Weight → List ℕ → List ℕ
spelled_weight owner Ignore rest = codes "IGNORE" ++ rest
spelled_weight owner Own rest = spelled_own owner rest
spelled_weight owner (Names ids) rest = spelled_names ids rest

-- the direction of a rule
abbrev pub direction_word : (backward : Bool) → List ℕ
direction_word true = codes "backward"
direction_word false = codes "forward"

-- that positions count, where they do
abbrev pub spelled_position : (position : Bool) → List ℕ → List ℕ
spelled_position true rest = codes ",position" ++ rest
spelled_position false rest = rest

-- a rule
abbrev pub spelled_rule : Rule → List ℕ → List ℕ
spelled_rule rule rest = direction_word rule.backward ++ spelled_position rule.position rest

-- The lines, each without its line feed.

-- the line of a declaration; that of a second name has the own name of its symbol
abbrev pub declaration_line : Declaration → List ℕ
declaration_line (Symbol name) = codes "collating-symbol " ++ spelled_symbol name []
declaration_line (Element name text) =
    codes "collating-element " ++ spelled_symbol name (codes " from " ++ spelled_string (map Char text) [])
declaration_line (Equivalence name symbol) = codes "symbol-equivalence " ++ spelled_symbol name (space ∷ spelled_symbol symbol [])

-- the line of the rules
abbrev pub rules_line : List Rule → List ℕ
rules_line rules = codes "order_start " ++ spelled_joined spelled_rule rules []

-- the weights behind an identifier, unless there are none but its own
abbrev pub weights_behind : Id → List Weight → List ℕ
weights_behind id weights = if list_all is_own weights then [] else space ∷ spelled_joined (spelled_weight id) weights []

-- the line of an entry
abbrev pub entry_line : Entry → List ℕ
entry_line entry = spelled_id entry.id (weights_behind entry.id entry.weights)

-- the line of what a walk visits: that which begins a section, or that of an entry
abbrev pub visited_line : Visited → List ℕ
visited_line (VisitedSection name) = codes "section " ++ spelled_symbol name []
visited_line (VisitedEntry entry) = entry_line entry

-- the lines before the declarations: the comment character, the escape character, and the line that begins the category
abbrev pub opening_lines : List (List ℕ)
opening_lines = codes "comment_char %" ∷ codes "escape_char /" ∷ codes "LC_COLLATE" ∷ []

-- the lines behind the last entry
abbrev pub closing_lines : List (List ℕ)
closing_lines = codes "order_end" ∷ codes "END LC_COLLATE" ∷ []

-- the canonical lines of a table
unfoldable pub canonical_lines : Collation → List (List ℕ)
canonical_lines table =
    opening_lines ++ (map declaration_line table.declared
    ++ (rules_line table.rules ∷ (map visited_line (visited table.sections) ++ closing_lines)))

-- the bytes of a line, with its line feed
abbrev pub line_bytes : List ℕ → List ℕ
line_bytes line = encode_utf8_all line ++ line_feed ∷ []

-- the canonical text of a table: the bytes of its lines
unfoldable pub text : Collation → List ℕ
text table = flat_map line_bytes (canonical_lines table)

-- the canonical text of a well-formed table is read as that table
abbrev pub PrintedTablesAreReadBack : Type 0
PrintedTablesAreReadBack = (table : Collation) → IsWellFormed table → reads (text table) ≡ Ok table
