-- The parts of the compiled listing that are written one behind another, as bytes.
use Rattle.std.specs.Prelude.{◌≤◌, ℕ, suc, Bool, true, false, List, [], ◌∷◌, ◌++◌, length, codes, decimal}
use Rattle.std.specs.List.{flat_map}
use Rattle.std.specs.Option.{unwrap_or}
use Rattle.coll_devices.specs.PhysicalLines.{line_feed}
use Rattle.coll_syntax.specs.declared.identifiers.Id.{Id}
use Rattle.coll_syntax.specs.declared.identifiers.Id.TheVariants.{Char, Named, Undefined}
use Rattle.coll_syntax.specs.declared.weights.Weight.{Weight}
use Rattle.coll_syntax.specs.declared.weights.Weight.TheVariants.{Ignore, Own, Names}
use Rattle.coll_texts.specs.PrintedParts.{char_bytes}
use Rattle.coll_nodes.specs.Table.{Collation, entries_of}
use Rattle.coll_nodes.specs.Walks.{Visited, VisitedSection, VisitedEntry}
use Rattle.coll_nodes.specs.declared.entries.Entry.{Entry}
use Rattle.coll_key.specs.CompiledListing.{listed_entries, listed_undefined}
use Rattle.coll_elements.specs.RankedElements.{last_string}
use Rattle.coll_ranks.specs.Ranks.{RanksValue, compiled_weight}
use Rattle.coll_key.specs.WrittenKey.{level_end}

-- a space and a word
abbrev pub spaced : List ℕ → List ℕ
spaced word = codes " " ++ word

-- a space and a number
abbrev pub spaced_number : ℕ → List ℕ
spaced_number n = spaced (decimal n)

-- a weight is that of UNDEFINED, which stands for itself
abbrev pub is_star : Id → Weight → Bool
is_star (Char c) weight = false
is_star (Named name) weight = false
is_star Undefined Ignore = false
is_star Undefined Own = true
is_star Undefined (Names ids) = false

-- the ranks of a weight, of which these are compiled
abbrev pub weight_bytes : (star : Bool) → (compiled : List ℕ) → List ℕ
weight_bytes true compiled = spaced (codes "*")
weight_bytes false compiled = flat_map spaced_number compiled

-- the words of a level, and its end
abbrev pub level_bytes : (star : Bool) → (compiled : List ℕ) → List ℕ
level_bytes star compiled = weight_bytes star compiled ++ spaced level_end

-- the spelling of an identifier, where the string of an element is that of the ranks
abbrev pub spelled_with : RanksValue → Id → List ℕ
spelled_with ranks (Char c) = char_bytes c
spelled_with ranks (Named name) = flat_map char_bytes (unwrap_or (last_string ranks.elements name) [])
spelled_with ranks Undefined = codes "UNDEFINED"

-- the words of weights from a level on, where the compiled ones are those of a rank
abbrev pub levels_bytes : RanksValue → (rank : ℕ) → Id → (level : ℕ) → List Weight → List ℕ
levels_bytes ranks rank id level [] = []
levels_bytes ranks rank id level (weight ∷ weights) =
    level_bytes (is_star id weight) (compiled_weight ranks.compiled rank level) ++ levels_bytes ranks rank id (suc level) weights

-- the words of all weights, and the line's end
abbrev pub levels_ended : RanksValue → (rank : ℕ) → Id → List Weight → List ℕ
levels_ended ranks rank id weights = levels_bytes ranks rank id 0 weights ++ line_feed ∷ []

-- a rank, and the spelling behind it
abbrev pub ranked_id : RanksValue → (rank : ℕ) → Id → List ℕ
ranked_id ranks rank id = decimal rank ++ spaced (spelled_with ranks id)

-- a line
abbrev pub ranked_line : RanksValue → (rank : ℕ) → Id → List Weight → List ℕ
ranked_line ranks rank id weights = ranked_id ranks rank id ++ levels_ended ranks rank id weights

-- the line of what has weights; a collating symbol has none
abbrev pub line_if_weighted : RanksValue → (rank : ℕ) → Id → List Weight → List ℕ
line_if_weighted ranks rank id [] = []
line_if_weighted ranks rank id (weight ∷ weights) = ranked_line ranks rank id (weight ∷ weights)

-- the line of what a walk visits, if it is an entry with weights
abbrev pub visited_line : RanksValue → (rank : ℕ) → Visited → List ℕ
visited_line ranks rank (VisitedSection name) = []
visited_line ranks rank (VisitedEntry entry) = line_if_weighted ranks rank entry.id entry.weights

-- the lines of entries, from a rank on
abbrev pub ranked_lines : RanksValue → (rank : ℕ) → List Entry → List ℕ
ranked_lines ranks rank [] = []
ranked_lines ranks rank (entry ∷ entries) = line_if_weighted ranks rank entry.id entry.weights ++ ranked_lines ranks (suc rank) entries

-- an entry has no more weights than there are levels
abbrev pub HasFewWeights : (levels : ℕ) → Entry → Type 0
HasFewWeights levels entry = length entry.weights ≤ levels

-- the lines behind the rules
abbrev pub entries_part : Collation → List ℕ
entries_part table = listed_entries table 1 (entries_of table) ++ (listed_undefined table ++ codes "end\n")
