-- What is told of a table that is exported: the collating symbols that stand behind a character (the project's own).
use Rattle.std.specs.Prelude.{ℕ, Bool, true, false, if◌then◌else◌, List, [], ◌∷◌, ◌++◌, codes}
use Rattle.std.specs.List.{flat_map}
use Rattle.coll_devices.specs.PhysicalLines.{line_feed}
use Rattle.coll_syntax.specs.declared.identifiers.Id.{Id}
use Rattle.coll_syntax.specs.declared.identifiers.Id.TheVariants.{Char, Named, Undefined}
use Rattle.coll_nodes.specs.declared.declarations.Declaration.{Declaration}
use Rattle.coll_nodes.specs.Table.{Collation, is_symbol}
use Rattle.coll_nodes.specs.Walks.{Visited, VisitedSection, VisitedEntry, visited}
use Rattle.coll_texts.specs.PrintedParts.{id_bytes}

-- an identifier is a character
abbrev pub is_character : Id → Bool
is_character (Char c) = true
is_character (Named name) = false
is_character Undefined = false

-- a walk visits the entry of a character
abbrev pub visits_character : Visited → Bool
visits_character (VisitedSection name) = false
visits_character (VisitedEntry entry) = is_character entry.id

-- what a walk visits behind the first character
abbrev pub behind_character : List Visited → List Visited
behind_character [] = []
behind_character (item ∷ later) = if visits_character item then later else behind_character later

-- an identifier, if it is a collating symbol
abbrev pub if_symbol : List Declaration → Id → List Id
if_symbol declared id = if is_symbol declared id then id ∷ [] else []

-- the collating symbol that a walk visits, if it visits one
abbrev pub symbol_visited : List Declaration → Visited → List Id
symbol_visited declared (VisitedSection name) = []
symbol_visited declared (VisitedEntry entry) = if_symbol declared entry.id

-- the collating symbols that stand behind a character, in order
unfoldable pub symbols_behind : Collation → List Id
symbols_behind table = flat_map (symbol_visited table.declared) (behind_character (visited table.sections))

-- the line of such a symbol: the name of the table's file, the line 0, which is none, and the symbol
abbrev pub behind_line : (file : List ℕ) → Id → List ℕ
behind_line file id = file ++ (codes ":0: behind " ++ (id_bytes id ++ line_feed ∷ []))

-- all that is told of a table that is exported: a line for each of them
unfoldable pub export_told : (file : List ℕ) → Collation → List ℕ
export_told file table = flat_map (behind_line file) (symbols_behind table)

-- the lines of those among what a walk visits
abbrev pub visited_told : (file : List ℕ) → List Declaration → Visited → List ℕ
visited_told file declared item = flat_map (behind_line file) (symbol_visited declared item)
