-- What is written for `:show` (the project's own): an entry, the three before it and the three behind it, each with its place in the
-- order of the table, and last what was shown, with its rank and the name of its section.
use Rattle.std.specs.Prelude.{◌≡◌, ◌≤◌, ℕ, zero, suc, ◌+◌, ◌-◌, List, [], ◌∷◌, ◌++◌, length, drop, chars, codes, decimal, Option, Some, None, option_copied, option_map}
use Rattle.std.specs.List.{flat_map}
use Rattle.std.specs.Option.{unwrap_or}
use Rattle.coll_syntax.specs.declared.identifiers.Id.{Id}
use Rattle.coll_syntax.specs.declared.identifiers.Id.TheVariants.{Char, Named, Undefined}
use Rattle.coll_nodes.specs.Beside.{first_of, section_name}
use Rattle.coll_nodes.specs.OwnNames.{own_name}
use Rattle.coll_nodes.specs.Placement.{entry_at, place_among}
use Rattle.coll_nodes.specs.Table.{Collation, entries_of}
use Rattle.coll_nodes.specs.declared.entries.Entry.{Entry}
use Rattle.coll_texts.specs.Pieces.{words_line}
use Rattle.coll_texts.specs.PrintedParts.{id_bytes, symbol_bytes}
use Rattle.coll_texts.specs.WeighedEntries.{weighed_line}
use Rattle.coll_table.specs.declared.refusals.Refusal.TheVariants.{NotDeclared, NotPlaced}
use Rattle.coll_bench.specs.Replies.{told_line}
use Rattle.coll_faults.specs.declared.faults.Fault.{Fault}
use Rattle.coll_faults.specs.declared.faults.Fault.TheVariants as fault
use Rattle.coll_edit_replies.specs.declared.showing.MarkedLine.{MarkedLine}
use Rattle.coll_edit_replies.specs.declared.showing.Spot.{Spot}

-- Places.

-- the entry at a place, counted from 1, if one stands there
abbrev pub entry_in : List Entry → (place : ℕ) → Option Entry
entry_in entries zero = None
entry_in entries (suc before) = first_of (drop before entries)

-- the line of an entry: a mark, its place, its identifier and its weights; no line where there is no entry
abbrev pub line_if : (mark : List ℕ) → (place : ℕ) → Option Entry → List ℕ
line_if mark place None = []
line_if mark place (Some entry) = mark ++ (decimal place ++ (codes " " ++ weighed_line entry))

-- the line of what stands at a place
abbrev pub line_in : (mark : List ℕ) → List Entry → (place : ℕ) → List ℕ
line_in mark entries place = line_if mark place (entry_in entries place)

-- the lines around a place: those of the three places before it, its own behind its mark, and those of the three behind it. No entry
-- stands at place 0, to which a place before the first one comes
unfoldable pub around : List Entry → (place : ℕ) → List ℕ
around entries place =
    flat_map (line_in (codes "  ") entries) ((place - 3) ∷ (place - 2) ∷ (place - 1) ∷ [])
    ++ (line_in (codes "> ") entries place ++ flat_map (line_in (codes "  ") entries) ((place + 1) ∷ (place + 2) ∷ (place + 3) ∷ []))

-- a place among all entries, and the name of the section that it is in, if that has one
pub record Place : Type 0 where
  pub rank : ℕ
  pub section : Option (List ℕ)

-- the place of an entry, or, where there is none, the one behind all entries
abbrev pub place_of : Collation → Option Entry → Place
place_of table None = record { rank = suc (length (entries_of table)); section = None }
place_of table (Some entry) = record {
  rank = unwrap_or (place_among (entries_of table) entry.id) 0;
  section = section_name table.sections entry.id;
}

-- The reply.

-- a rank, and the name of a section, if there is one
abbrev pub rank_line : ℕ → Option (List ℕ) → List ℕ
rank_line rank None = words_line (decimal rank ∷ [])
rank_line rank (Some name) = words_line (decimal rank ∷ symbol_bytes name ∷ [])

-- the lines around a place, and last these words, its rank and its section
abbrev pub place_told : Collation → (words : List ℕ) → Place → List ℕ
place_told table words place = around (entries_of table) place.rank ++ (words ++ rank_line place.rank place.section)

-- the reply to what is refused
abbrev pub refusal_told : Fault → List ℕ
refusal_told f = told_line (codes "refused ") f

-- the reply for an entry
abbrev pub entry_told : Collation → Entry → List ℕ
entry_told table entry = place_told table (codes "shown ") (place_of table (Some entry))

-- the reply for what has to have an entry
abbrev pub placed_told : Collation → Option Entry → List ℕ
placed_told table None = refusal_told (fault.Table NotPlaced)
placed_told table (Some entry) = entry_told table entry

-- the reply for a character without an entry, which comes where `UNDEFINED` stands, or behind all entries
abbrev pub absent_told : Collation → Id → List ℕ
absent_told table id = place_told table (codes "absent " ++ (id_bytes id ++ codes " ")) (place_of table (entry_at (entries_of table) Undefined))

-- the reply for a character, by its entry, if it has one
abbrev pub character_told : Collation → Id → Option Entry → List ℕ
character_told table id None = absent_told table id
character_told table id (Some entry) = entry_told table entry

-- the reply for a name, by the own name that it stands for, if it is declared
abbrev pub name_told : Collation → (own : Option (List ℕ)) → List ℕ
name_told table None = refusal_told (fault.Table NotDeclared)
name_told table (Some own) = placed_told table (entry_at (entries_of table) (Named own))

-- the reply to `:show` of an identifier
abbrev pub shown : Collation → Id → List ℕ
shown table (Char c) = character_told table (Char c) (entry_at (entries_of table) (Char c))
shown table (Named name) = name_told table (own_name table.declared name)
shown table Undefined = placed_told table (entry_at (entries_of table) Undefined)

-- What the code hands on.

-- a line that is marked
abbrev pub marked_bytes : MarkedLine → List ℕ
marked_bytes line = line_if line.mark.now line.rank (option_copied line.entry)

-- an entry is that of an identifier
abbrev pub IsEntryIn : List Entry → Entry → Type 0
IsEntryIn entries entry = (id : Id) × (Some entry ≡ entry_at entries id)

-- these stand before a place, at it and behind it; the place is one of entries, or the one behind them
pub record IsAround (entries : List Entry) (place : ℕ) (before here behind : Option Entry) : Type 0 where
  pub before_is : before ≡ entry_in entries (place - 1)
  pub here_is : here ≡ entry_in entries place
  pub behind_is : behind ≡ entry_in entries (place + 1)
  pub some : 1 ≤ place
  pub within : place ≤ length entries + 1

abbrev pub IsSpot : List Entry → Spot → Type 0
IsSpot entries spot = IsAround entries spot.rank (option_copied spot.before) (option_copied spot.here) (option_copied spot.behind)

abbrev pub spot_place : Spot → Place
spot_place spot = record { rank = spot.rank; section = option_map (λ name. chars name.now) spot.section }
