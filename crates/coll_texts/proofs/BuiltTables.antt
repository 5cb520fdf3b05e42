-- A table stays whole where a declaration, a section or an entry is put behind all others.
use Rattle.std.proofs.Common.{◌≡◌, ℕ, suc, ◌<◌, ◌≤◌, Bool, true, false, ◌||◌, List, [], ◌∷◌, ◌++◌, length, Some, sym, ap, subst, ◌∙◌, refl, arith, length-append, append_assoc, append-nil}
use Rattle.std.specs.Prelude.{All}
use Rattle.std.specs.List.{list_any}
use Rattle.std.proofs.lemmas.Bool.{false≢true}
use Rattle.std.proofs.lemmas.List.{map-append}
use Rattle.std.proofs.lemmas.Grind.{flat_map-append}
use Rattle.std.proofs.lemmas.List.Elements.{All-nil, All-cons, All-head, All-tail, All-push, All-append, All-weaker}
use Rattle.std.proofs.lemmas.List.Folds.{list_any-append}
use Rattle.coll_lex.specs.Names.{IsName}
use Rattle.coll_syntax.specs.Identifier.{same_name, same_id, has_name}
use Rattle.coll_syntax.specs.Proper.{IsElementText, IsId}
use Rattle.coll_syntax.specs.declared.identifiers.Id.{Id}
use Rattle.coll_syntax.specs.declared.identifiers.Id.TheVariants.{Char, Named, Undefined}
use Rattle.coll_nodes.proofs.OwnNames.{own_declared, meant_all}
use Rattle.coll_lookups.proofs.Sameness.{same_name_decides, same_name_symmetric, same_id_symmetric, neither}
use Rattle.coll_nodes.proofs.DistinctLists.{distinct_push}
use Rattle.coll_nodes.specs.Table.{Collation, Section, name_of, text_of, names_of, texts_of, joined_entries, ids_of, named}
use Rattle.coll_nodes.specs.Table.{section_names, is_placed_in, is_declared, declares_own, declares_symbol, is_symbol}
use Rattle.coll_nodes.specs.Table.{has_text}
use Rattle.coll_nodes.specs.OwnNames.{means_no_symbol}
use Rattle.coll_nodes.specs.Limits.{most_entries, most_declarations, most_sections}
use Rattle.coll_texts.specs.Loading.{with_last, with_section}
use Rattle.coll_texts.specs.SoundStates.{IsProperDeclaration}
use Rattle.coll_nodes.specs.WellFormed.{AreDistinct, IsNamed, FirstIsUnnamed, HasWeights, IsWeighted, IsKnown, IsBuilt}
use Rattle.coll_nodes.specs.declared.declarations.Declaration.{Declaration}
use Rattle.coll_nodes.specs.declared.declarations.Declaration.TheVariants.{Symbol, Element, Equivalence}
use Rattle.coll_nodes.specs.declared.entries.Entry.{Entry}

-- A declaration.

-- the names declared with one more
pub names_push : (declared : List Declaration) (new : Declaration) → names_of (declared ++ new ∷ []) ≡ names_of declared ++ name_of new ∷ []
names_push declared new = map-append name_of declared (new ∷ [])

-- the strings declared with those of one more
pub texts_push : (declared : List Declaration) (new : Declaration) → texts_of (declared ++ new ∷ []) ≡ texts_of declared ++ text_of new
texts_push declared (Symbol name) = flat_map-append text_of declared (Symbol name ∷ [])
texts_push declared (Equivalence name symbol) = flat_map-append text_of declared (Equivalence name symbol ∷ [])
texts_push declared (Element name text) = flat_map-append text_of declared (Element name text ∷ [])

-- the name of a proper declaration is a name
proper_name : (new : Declaration) → IsProperDeclaration new → IsName (name_of new)
proper_name (Symbol name) h = h
proper_name (Element name text) h = h.0
proper_name (Equivalence name symbol) h = h

-- its string may be that of an element
proper_text : (new : Declaration) → IsProperDeclaration new → All IsElementText (text_of new)
proper_text (Symbol name) h = All-nil IsElementText
proper_text (Equivalence name symbol) h = All-nil IsElementText
proper_text (Element name text) h = All-cons IsElementText text [] h.1 (All-nil IsElementText)

-- strings stay distinct where one more is none of them
distinct_texts_push : (texts : List (List ℕ)) (new : Declaration) → AreDistinct same_name texts → list_any (has_name texts) (text_of new) ≡ false → AreDistinct same_name (texts ++ text_of new)
distinct_texts_push texts (Symbol name) d absent = subst (AreDistinct same_name) (sym (append-nil texts)) d
distinct_texts_push texts (Equivalence name symbol) d absent = subst (AreDistinct same_name) (sym (append-nil texts)) d
distinct_texts_push texts (Element name text) d absent = distinct_push same_name same_name_symmetric texts text d (neither (has_name texts text) false absent).0

-- a test with one that is false behind it
or_false : (a b : Bool) → b ≡ false → (a || (b || false)) ≡ a
or_false a b e = rw e (or_none a) where
  or_none : (a : Bool) → (a || (false || false)) ≡ a
  or_none true = refl
  or_none false = refl

-- what may stand in a table may still stand there where more is declared
known_wider : (declared : List Declaration) (new : Declaration) (id : Id) → IsKnown declared id → IsKnown (declared ++ new ∷ []) id
known_wider declared new (Char c) h = refl
known_wider declared new (Named name) h =
    list_any-append (declares_own name) declared (new ∷ []) ∙ ap (λ b. b || (declares_own name new || false)) h
known_wider declared new Undefined h = refl

-- a name that is declared is none that isn't
other_name : (names : List (List ℕ)) (old new : List ℕ) → has_name names old ≡ true → has_name names new ≡ false → same_name old new ≡ false
other_name names old new here absent = by_answer (same_name old new) refl where
  by_answer : (b : Bool) → same_name old new ≡ b → b ≡ false
  by_answer true e = absurd (false≢true (sym absent ∙ (ap (has_name names) (sym ((same_name_decides old new).0 e)) ∙ here)))
  by_answer false e = refl

-- what is a symbol stays one, and what is none stays none
symbol_wider : (declared : List Declaration) (new : Declaration) (id : Id) → IsKnown declared id → is_declared declared (name_of new) ≡ false
    → is_symbol (declared ++ new ∷ []) id ≡ is_symbol declared id
symbol_wider declared new (Char c) known absent = refl
symbol_wider declared new (Named name) known absent =
    list_any-append (declares_symbol name) declared (new ∷ []) ∙ or_false (list_any (declares_symbol name) declared) (declares_symbol name new) (by_kind new absent) where
      by_kind : (new : Declaration) → is_declared declared (name_of new) ≡ false → declares_symbol name new ≡ false
      by_kind (Symbol other) absent = other_name (names_of declared) name other (own_declared declared name known) absent
      by_kind (Element other text) absent = refl
      by_kind (Equivalence other symbol) absent = refl
symbol_wider declared new Undefined known absent = refl

-- entries that have their weights still have them
weighted_wider : (levels : ℕ) (declared : List Declaration) (new : Declaration) (entries : List Entry) → is_declared declared (name_of new) ≡ false → All (IsKnown declared) (ids_of entries)
    → All (IsWeighted levels declared) entries → All (IsWeighted levels (declared ++ new ∷ [])) entries
weighted_wider levels declared new [] absent known weighted = All-nil (IsWeighted levels (declared ++ new ∷ []))
weighted_wider levels declared new (entry ∷ entries) absent known weighted =
    All-cons (IsWeighted levels (declared ++ new ∷ [])) entry entries
    (subst (λ symbol. HasWeights levels symbol entry) (sym (symbol_wider declared new entry.id (All-head (IsKnown declared) entry.id (ids_of entries) known) absent))
    (All-head (IsWeighted levels declared) entry entries weighted))
    (weighted_wider levels declared new entries absent (All-tail (IsKnown declared) entry.id (ids_of entries) known) (All-tail (IsWeighted levels declared) entry entries weighted))

-- a table with one more declaration
pub built_declared : (table : Collation) (new : Declaration) → IsBuilt table → IsProperDeclaration new → is_declared table.declared (name_of new) ≡ false → means_no_symbol table.declared new ≡ false
    → has_text table.declared (text_of new) ≡ false → length table.declared < most_declarations → IsBuilt (record table { declared = table.declared ++ new ∷ [] })
built_declared table new built proper absent means no_text room = record {
  few_levels = built.few_levels;
  names = subst (All IsName) (sym (names_push table.declared new)) (All-push IsName (names_of table.declared) (name_of new) built.names (proper_name new proper));
  texts = subst (All IsElementText) (sym (texts_push table.declared new)) (All-append IsElementText (texts_of table.declared) (text_of new) built.texts (proper_text new proper));
  distinct_names = subst (AreDistinct same_name) (sym (names_push table.declared new))
      (distinct_push same_name same_name_symmetric (names_of table.declared) (name_of new) built.distinct_names absent);
  distinct_texts = subst (AreDistinct same_name) (sym (texts_push table.declared new)) (distinct_texts_push (texts_of table.declared) new built.distinct_texts no_text);
  meant = meant_all table.declared new built.meant means;
  first_unnamed = built.first_unnamed;
  ids = built.ids;
  distinct_sections = built.distinct_sections;
  distinct_entries = built.distinct_entries;
  known = All-weaker (IsKnown table.declared) (IsKnown (table.declared ++ new ∷ [])) (known_wider table.declared new) (ids_of (joined_entries table.sections)) built.known;
  weighted = weighted_wider (length table.rules) table.declared new (joined_entries table.sections) absent built.known built.weighted;
  few_entries = built.few_entries;
  few_declarations = omega (arith, length-append table.declared (new ∷ []));
  few_sections = built.few_sections;
}

-- Other sections.

-- what has to hold of sections, so that a table holds together with them
pub record MayHave (table : Collation) (sections : List Section) : Type 0 where
  pub first_unnamed : FirstIsUnnamed sections
  pub ids : All IsId (ids_of (joined_entries sections))
  pub distinct_sections : AreDistinct same_name (section_names sections)
  pub distinct_entries : AreDistinct same_id (ids_of (joined_entries sections))
  pub known : All (IsKnown table.declared) (ids_of (joined_entries sections))
  pub weighted : All (IsWeighted (length table.rules) table.declared) (joined_entries sections)
  pub few_entries : length (joined_entries sections) ≤ most_entries
  pub few_sections : length sections ≤ most_sections

-- a table with other sections
pub built_with : (table : Collation) (sections : List Section) → IsBuilt table → MayHave table sections → IsBuilt (record table { sections = sections })
built_with table sections built may = record {
  few_levels = built.few_levels;
  names = built.names;
  texts = built.texts;
  distinct_names = built.distinct_names;
  distinct_texts = built.distinct_texts;
  meant = built.meant;
  first_unnamed = may.first_unnamed;
  ids = may.ids;
  distinct_sections = may.distinct_sections;
  distinct_entries = may.distinct_entries;
  known = may.known;
  weighted = may.weighted;
  few_entries = may.few_entries;
  few_declarations = built.few_declarations;
  few_sections = may.few_sections;
}

-- A section.

-- a section without entries
abbrev empty_section : List ℕ → Section
empty_section name = record { name = Some name; entries = [] }

-- it adds no entries
pub entries_with_section : (sections : List Section) (name : List ℕ) → joined_entries (with_section sections name) ≡ joined_entries sections
entries_with_section sections name = flat_map-append (λ (section : Section). section.entries) sections (empty_section name ∷ []) ∙ append-nil (joined_entries sections)

-- it adds its name
pub names_with_section : (sections : List Section) (name : List ℕ) → section_names (with_section sections name) ≡ section_names sections ++ name ∷ []
names_with_section sections name = flat_map-append (λ (section : Section). named section.name) sections (empty_section name ∷ [])

-- the first section still has no name, and it alone
pub unnamed_with_section : (sections : List Section) (name : List ℕ) → IsName name → FirstIsUnnamed sections → FirstIsUnnamed (with_section sections name)
unnamed_with_section [] name is h = absurd h
unnamed_with_section (first ∷ others) name is h = (h.0, All-push IsNamed others (empty_section name) h.1 (name, refl, is))

-- a table with one more section
pub built_section : (table : Collation) (name : List ℕ) → IsBuilt table → IsName name → has_name (section_names table.sections) name ≡ false → length table.sections < most_sections
    → IsBuilt (record table { sections = with_section table.sections name })
built_section table name built is absent room =
    let same = sym (entries_with_section table.sections name) in
    built_with table (with_section table.sections name) built (record {
      first_unnamed = unnamed_with_section table.sections name is built.first_unnamed;
      ids = subst (λ entries. All IsId (ids_of entries)) same built.ids;
      distinct_sections = subst (AreDistinct same_name) (sym (names_with_section table.sections name))
          (distinct_push same_name same_name_symmetric (section_names table.sections) name built.distinct_sections absent);
      distinct_entries = subst (λ entries. AreDistinct same_id (ids_of entries)) same built.distinct_entries;
      known = subst (λ entries. All (IsKnown table.declared) (ids_of entries)) same built.known;
      weighted = subst (All (IsWeighted (length table.rules) table.declared)) same built.weighted;
      few_entries = subst (λ (entries : List Entry). length entries ≤ most_entries) same built.few_entries;
      few_sections = omega (arith, length-append table.sections (empty_section name ∷ []));
    })

-- An entry.

-- a section with one more entry
abbrev longer : Section → Entry → Section
longer section entry = record section { entries = section.entries ++ entry ∷ [] }

-- an entry in the last section is the last of all
pub entries_with_last : (sections : List Section) (entry : Entry) → FirstIsUnnamed sections → joined_entries (with_last sections entry) ≡ joined_entries sections ++ entry ∷ []
entries_with_last [] entry h = absurd h
entries_with_last (first ∷ others) entry h = behind first others where
  behind : (first : Section) (others : List Section) → joined_entries (with_last (first ∷ others) entry) ≡ joined_entries (first ∷ others) ++ entry ∷ []
  behind first [] = append-nil (first.entries ++ entry ∷ []) ∙ ap (λ entries. entries ++ entry ∷ []) (sym (append-nil first.entries))
  behind first (second ∷ later) = ap (λ entries. first.entries ++ entries) (behind second later) ∙ sym (append_assoc first.entries (joined_entries (second ∷ later)) (entry ∷ []))

-- the names of the sections stay
pub names_with_last : (sections : List Section) (entry : Entry) → section_names (with_last sections entry) ≡ section_names sections
names_with_last [] entry = refl
names_with_last (last ∷ []) entry = refl
names_with_last (first ∷ second ∷ later) entry = ap (λ names. named first.name ++ names) (names_with_last (second ∷ later) entry)

-- their number stays
pub length_with_last : (sections : List Section) (entry : Entry) → length (with_last sections entry) ≡ length sections
length_with_last [] entry = refl
length_with_last (last ∷ []) entry = refl
length_with_last (first ∷ second ∷ later) entry = ap suc (length_with_last (second ∷ later) entry)

-- sections that have names still have them
named_with_last : (sections : List Section) (entry : Entry) → All IsNamed sections → All IsNamed (with_last sections entry)
named_with_last [] entry h = h
named_with_last (last ∷ []) entry h = All-cons IsNamed (longer last entry) [] (All-head IsNamed last [] h) (All-nil IsNamed)
named_with_last (first ∷ second ∷ later) entry h =
    All-cons IsNamed first (with_last (second ∷ later) entry) (All-head IsNamed first (second ∷ later) h) (named_with_last (second ∷ later) entry (All-tail IsNamed first (second ∷ later) h))

-- the first still has none
pub unnamed_with_last : (sections : List Section) (entry : Entry) → FirstIsUnnamed sections → FirstIsUnnamed (with_last sections entry)
unnamed_with_last [] entry h = absurd h
unnamed_with_last (first ∷ []) entry h = h
unnamed_with_last (first ∷ second ∷ later) entry h = (h.0, named_with_last (second ∷ later) entry h.1)

-- the identifiers with one more
pub ids_push : (entries : List Entry) (entry : Entry) → ids_of (entries ++ entry ∷ []) ≡ ids_of entries ++ entry.id ∷ []
ids_push entries entry = map-append (λ (e : Entry). e.id) entries (entry ∷ [])

-- a table with one more entry in its last section
pub built_entry : (table : Collation) (entry : Entry) → IsBuilt table → IsId entry.id → is_placed_in table.sections entry.id ≡ false → IsKnown table.declared entry.id
    → IsWeighted (length table.rules) table.declared entry → length (joined_entries table.sections) < most_entries → IsBuilt (record table { sections = with_last table.sections entry })
built_entry table entry built is absent known weighted room =
    let entries = joined_entries table.sections in
    let more = sym (entries_with_last table.sections entry built.first_unnamed) in
    built_with table (with_last table.sections entry) built (record {
      first_unnamed = unnamed_with_last table.sections entry built.first_unnamed;
      ids = subst (λ es. All IsId (ids_of es)) more (subst (All IsId) (sym (ids_push entries entry)) (All-push IsId (ids_of entries) entry.id built.ids is));
      distinct_sections = subst (AreDistinct same_name) (sym (names_with_last table.sections entry)) built.distinct_sections;
      distinct_entries = subst (λ es. AreDistinct same_id (ids_of es)) more
          (subst (AreDistinct same_id) (sym (ids_push entries entry)) (distinct_push same_id same_id_symmetric (ids_of entries) entry.id built.distinct_entries absent));
      known = subst (λ es. All (IsKnown table.declared) (ids_of es)) more
          (subst (All (IsKnown table.declared)) (sym (ids_push entries entry)) (All-push (IsKnown table.declared) (ids_of entries) entry.id built.known known));
      weighted = subst (All (IsWeighted (length table.rules) table.declared)) more (All-push (IsWeighted (length table.rules) table.declared) entries entry built.weighted weighted);
      few_entries = subst (λ (es : List Entry). length es ≤ most_entries) more (omega (arith, length-append (joined_entries table.sections) (entry ∷ [])));
      few_sections = subst (λ n. n ≤ most_sections) (sym (length_with_last table.sections entry)) built.few_sections;
    })
