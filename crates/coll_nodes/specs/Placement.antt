-- Finding an entry in a table's sections, taking it out, and putting one in; the same for sections.
use Rattle.std.specs.Prelude.{ℕ, suc, Bool, false, if◌then◌else◌, not, List, [], ◌∷◌, Option, Some, None, filter, map}
use Rattle.std.specs.List.{flat_map}
use Rattle.std.specs.Option.{option_map}
use Rattle.coll_syntax.specs.Identifier.{same_id, same_name}
use Rattle.coll_nodes.specs.Table.{Section}
use Rattle.coll_syntax.specs.declared.identifiers.Id.{Id}
use Rattle.coll_nodes.specs.declared.entries.Entry.{Entry}

-- the entry of an identifier, if it has one
abbrev pub entry_at : List Entry → Id → Option Entry
entry_at [] id = None
entry_at (entry ∷ entries) id = if same_id id entry.id then Some entry else entry_at entries id

-- the place of an identifier among entries, from 1
abbrev pub place_among : List Entry → Id → Option ℕ
place_among [] id = None
place_among (entry ∷ entries) id = if same_id id entry.id then Some 1 else option_map (λ place. suc place) (place_among entries id)

-- the entries without that of an identifier
abbrev pub entries_without : List Entry → Id → List Entry
entries_without entries id = filter (λ (entry : Entry). not (same_id id entry.id)) entries

-- each section without the entry of an identifier
abbrev pub without : List Section → Id → List Section
without sections id = map (λ (section : Section). record section { entries = entries_without section.entries id }) sections

-- the entries with one more, directly after that of the target
abbrev pub entries_after : List Entry → Id → Entry → List Entry
entries_after [] target entry = []
entries_after (first ∷ entries) target entry =
    if same_id target first.id then first ∷ entry ∷ entries
    else first ∷ entries_after entries target entry

-- an entry directly after that of the target, in the section that has the target
abbrev pub placed_after : List Section → Id → Entry → List Section
placed_after sections target entry =
    map (λ (section : Section). record section { entries = entries_after section.entries target entry }) sections

-- the sections with the entry of an identifier replaced, where it stands
abbrev pub with_entry : List Section → Entry → List Section
with_entry sections entry = map (λ (section : Section).
    record section { entries = map (λ (old : Entry). if same_id entry.id old.id then entry else old) section.entries }) sections

-- a section has this name
abbrev pub has_section_name : List ℕ → Option (List ℕ) → Bool
has_section_name name None = false
has_section_name name (Some own) = same_name name own

-- the sections with a name; in a well-formed table at most one
abbrev pub sections_named : List Section → List ℕ → List Section
sections_named sections name = filter (λ (section : Section). has_section_name name section.name) sections

-- the sections without that of a name
abbrev pub sections_without : List Section → List ℕ → List Section
sections_without sections name = filter (λ (section : Section). not (has_section_name name section.name)) sections

-- the sections with some more directly after that of a name
abbrev pub sections_after : List Section → List ℕ → List Section → List Section
sections_after sections after more =
    flat_map (λ (section : Section). section ∷ (if has_section_name after section.name then more else [])) sections

-- the sections with that of a name taken out, whole, and put directly after another
abbrev pub section_moved : List Section → (name after : List ℕ) → List Section
section_moved sections name after = sections_after (sections_without sections name) after (sections_named sections name)
