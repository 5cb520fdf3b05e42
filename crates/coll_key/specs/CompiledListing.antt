-- The compiled listing of a table (the project's own): the ranks of its weights, for people to read and to compare.
use Rattle.std.specs.Prelude.{ℕ, suc, if◌then◌else◌, List, [], ◌∷◌, ◌++◌, length, map, codes, decimal, encode_utf8_all}
use Rattle.std.specs.List.{flat_map}
use Rattle.coll_devices.specs.PhysicalLines.{line_feed}
use Rattle.coll_syntax.specs.Identifier.{same_name}
use Rattle.coll_syntax.specs.declared.identifiers.Id.{Id}
use Rattle.coll_syntax.specs.declared.identifiers.Id.TheVariants.{Char, Named, Undefined}
use Rattle.coll_syntax.specs.declared.rules.Rule.{Rule}
use Rattle.coll_syntax.specs.declared.weights.Weight.{Weight}
use Rattle.coll_syntax.specs.declared.weights.Weight.TheVariants.{Ignore, Own, Names}
use Rattle.coll_texts.specs.CanonicalText.{spelled_rule}
use Rattle.coll_texts.specs.Pieces.{words_line}
use Rattle.coll_texts.specs.PrintedParts.{char_bytes}
use Rattle.coll_nodes.specs.Table.{Collation, entries_of, is_symbol, is_placed}
use Rattle.coll_nodes.specs.declared.declarations.Declaration.{Declaration}
use Rattle.coll_nodes.specs.declared.declarations.Declaration.TheVariants as declaration
use Rattle.coll_nodes.specs.declared.entries.Entry.{Entry}
use Rattle.coll_ranks.specs.WeightNumbers.{undefined_weights}
use Rattle.coll_elements.specs.Rank.{known_rank}
use Rattle.coll_key.specs.WrittenKey.{level_end}

-- the string of the collating element of a name
abbrev pub string_named : List Declaration → List ℕ → List ℕ
string_named [] name = []
string_named (declaration.Symbol declared ∷ declarations) name = string_named declarations name
string_named (declaration.Equivalence declared symbol ∷ declarations) name = string_named declarations name
string_named (declaration.Element declared text ∷ declarations) name =
    if same_name name declared then text else string_named declarations name

-- the spelling of an identifier in a listing: a character by its code point, an element by those of its string, or UNDEFINED
abbrev pub listed_id : List Declaration → Id → List ℕ
listed_id declared (Char c) = char_bytes c
listed_id declared (Named name) = flat_map char_bytes (string_named declared name)
listed_id declared Undefined = codes "UNDEFINED"

-- the word of a weight that stands for its entry: the entry's rank, for UNDEFINED an asterisk
abbrev pub own_word : Collation → Id → List ℕ
own_word table (Char c) = decimal (known_rank table (Char c))
own_word table (Named name) = decimal (known_rank table (Named name))
own_word table Undefined = codes "*"

-- the words of a weight: the ranks of what it names; an ignored one has none
abbrev pub weight_words : Collation → Id → Weight → List (List ℕ)
weight_words table id Ignore = []
weight_words table id Own = own_word table id ∷ []
weight_words table id (Names ids) = map (λ named. decimal (known_rank table named)) ids

-- the words of a level: those of its weight, and its end
abbrev pub listed_level : Collation → Id → Weight → List (List ℕ)
listed_level table id weight = weight_words table id weight ++ level_end ∷ []

-- the line of an identifier with this rank and these weights
abbrev pub listed_line : Collation → (rank : ℕ) → Id → List Weight → List ℕ
listed_line table rank id weights = words_line (decimal rank ∷ listed_id table.declared id ∷ flat_map (listed_level table id) weights)

-- the line of an entry; a collating symbol has none
abbrev pub listed_entry : Collation → (rank : ℕ) → Entry → List ℕ
listed_entry table rank entry = if is_symbol table.declared entry.id then [] else listed_line table rank entry.id entry.weights

-- the lines of entries, from a rank on
abbrev pub listed_entries : Collation → (rank : ℕ) → List Entry → List ℕ
listed_entries table rank [] = []
listed_entries table rank (entry ∷ entries) = listed_entry table rank entry ++ listed_entries table (suc rank) entries

-- the line of UNDEFINED where it isn't placed
abbrev pub listed_undefined : Collation → List ℕ
listed_undefined table =
    if is_placed table Undefined then [] else listed_line table (known_rank table Undefined) Undefined (undefined_weights table)

-- the line of a rule
abbrev pub listed_rule : Rule → List ℕ
listed_rule rule = codes "rule " ++ (encode_utf8_all (spelled_rule rule []) ++ line_feed ∷ [])

-- the first line: the version of the form, the number of levels, and that of entries
abbrev pub listing_head : Collation → List ℕ
listing_head table = words_line (codes "compiled" ∷ codes "1" ∷ decimal (length table.rules) ∷ decimal (length (entries_of table)) ∷ [])

-- the compiled listing of a table
unfoldable pub compiled_listing : Collation → List ℕ
compiled_listing table =
    listing_head table ++ (flat_map listed_rule table.rules
    ++ (listed_entries table 1 (entries_of table) ++ (listed_undefined table ++ codes "end\n")))
