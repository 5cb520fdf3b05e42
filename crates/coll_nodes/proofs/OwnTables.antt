-- A table in which the weights name identifiers by their own names: what it keeps of the table as it was read.
use Rattle.std.proofs.Common.{◌≡◌, false, List, [], ◌∷◌, ◌++◌, All, map, length, sym, ap, subst, ◌∙◌, refl, arith}
use Rattle.std.specs.List.{list_any}
use Rattle.std.proofs.lemmas.List.{length-map, map-append}
use Rattle.std.proofs.lemmas.List.Elements.{All-map, All-weaker}
use Rattle.coll_syntax.specs.Identifier.{same_name, same_id, has_id}
use Rattle.coll_syntax.specs.Proper.{IsId}
use Rattle.coll_syntax.specs.declared.identifiers.Id.{Id}
use Rattle.coll_syntax.specs.declared.weights.Weight.{Weight}
use Rattle.coll_syntax.specs.declared.weights.Weight.TheVariants.{Ignore, Own, Names}
use Rattle.coll_nodes.specs.OwnNames.{own_entry, own_section, own_sections, is_second, names_second}
use Rattle.coll_nodes.specs.Table.{Collation, Section, named, entries_of, ids_of, joined_entries, section_names, is_placed_in}
use Rattle.coll_nodes.specs.WellFormed.{AreDistinct, IsKnown, IsNamed, FirstIsUnnamed, IsWeighted, IsBuilt}
use Rattle.coll_nodes.specs.declared.declarations.Declaration.{Declaration}
use Rattle.coll_nodes.specs.declared.entries.Entry.{Entry}
use Rattle.coll_nodes.proofs.OwnNames.{own_weights_same, own_entry_weighted}
use Rattle.coll_lookups.proofs.Sameness.{nor}

-- the entries of sections by own names are the entries of the sections by own names
pub own_joined : (declared : List Declaration) (sections : List Section) → joined_entries (own_sections declared sections) ≡ map (own_entry declared) (joined_entries sections)
own_joined declared [] = refl
own_joined declared (section ∷ sections) =
    ap (λ later. map (own_entry declared) section.entries ++ later) (own_joined declared sections) ∙ sym (map-append (own_entry declared) section.entries (joined_entries sections))

-- entries by own names stand under the identifiers under which they stood
pub own_ids_of : (declared : List Declaration) (entries : List Entry) → ids_of (map (own_entry declared) entries) ≡ ids_of entries
own_ids_of declared [] = refl
own_ids_of declared (entry ∷ entries) = ap (λ later. entry.id ∷ later) (own_ids_of declared entries)

-- and so do those of sections
pub own_placed : (declared : List Declaration) (sections : List Section) → ids_of (joined_entries (own_sections declared sections)) ≡ ids_of (joined_entries sections)
own_placed declared sections = ap ids_of (own_joined declared sections) ∙ own_ids_of declared (joined_entries sections)

-- what is placed in sections is placed in them by own names, and nothing else
pub own_is_placed : (declared : List Declaration) (sections : List Section) (id : Id) → is_placed_in (own_sections declared sections) id ≡ is_placed_in sections id
own_is_placed declared sections id = ap (λ ids. has_id ids id) (own_placed declared sections)

-- sections by own names have their names
pub own_section_names : (declared : List Declaration) (sections : List Section) → section_names (own_sections declared sections) ≡ section_names sections
own_section_names declared [] = refl
own_section_names declared (section ∷ sections) = ap (λ later. named section.name ++ later) (own_section_names declared sections)

-- the first of them alone has none
own_unnamed : (declared : List Declaration) (sections : List Section) → FirstIsUnnamed sections → FirstIsUnnamed (own_sections declared sections)
own_unnamed declared [] h = h
own_unnamed declared (first ∷ others) h = (h.0, All-map IsNamed (own_section declared) others (All-weaker IsNamed (λ section. IsNamed (own_section declared section)) (λ section is. is) others h.1))

-- what is whole while it is read is so with its weights by own names
pub own_built : (table : Collation) → IsBuilt table → IsBuilt (record table { sections = own_sections table.declared table.sections })
own_built table built = record {
  few_levels = built.few_levels;
  names = built.names;
  texts = built.texts;
  distinct_names = built.distinct_names;
  distinct_texts = built.distinct_texts;
  meant = built.meant;
  first_unnamed = own_unnamed table.declared table.sections built.first_unnamed;
  ids = subst (All IsId) (sym (own_placed table.declared table.sections)) built.ids;
  distinct_sections = subst (AreDistinct same_name) (sym (own_section_names table.declared table.sections)) built.distinct_sections;
  distinct_entries = subst (AreDistinct same_id) (sym (own_placed table.declared table.sections)) built.distinct_entries;
  known = subst (All (IsKnown table.declared)) (sym (own_placed table.declared table.sections)) built.known;
  weighted = subst (All (IsWeighted (length table.rules) table.declared)) (sym (own_joined table.declared table.sections))
      (All-map (IsWeighted (length table.rules) table.declared) (own_entry table.declared) (entries_of table)
      (All-weaker (IsWeighted (length table.rules) table.declared) (λ entry. IsWeighted (length table.rules) table.declared (own_entry table.declared entry))
      (λ entry weighted. own_entry_weighted (length table.rules) table.declared entry built.meant built.distinct_names built.names weighted) (entries_of table) built.weighted));
  few_entries = omega (arith, ap length (own_joined table.declared table.sections) ∙ length-map (entries_of table) (own_entry table.declared), built.few_entries);
  few_declarations = built.few_declarations;
  few_sections = omega (arith, length-map table.sections (own_section table.declared), built.few_sections);
}

module _ (declared : List Declaration) (none : (id : Id) → is_second declared id ≡ false) where
  -- where there is no second name, no weight names something by one
  no_names : (ids : List Id) → list_any (is_second declared) ids ≡ false
  no_names [] = refl
  no_names (id ∷ ids) = nor _ _ (none id) (no_names ids)

  plain_weight : (weight : Weight) → names_second declared weight ≡ false
  plain_weight Ignore = refl
  plain_weight Own = refl
  plain_weight (Names ids) = no_names ids

  plain_weights : (weights : List Weight) → list_any (names_second declared) weights ≡ false
  plain_weights [] = refl
  plain_weights (weight ∷ weights) = nor _ _ (plain_weight weight) (plain_weights weights)

  plain_entries : (entries : List Entry) → map (own_entry declared) entries ≡ entries
  plain_entries [] = refl
  plain_entries (entry ∷ entries) = λ i. record entry { weights = own_weights_same declared entry.weights (plain_weights entry.weights) i } ∷ plain_entries entries i

  -- where there is no second name, sections stay
  pub own_sections_plain : (sections : List Section) → own_sections declared sections ≡ sections
  own_sections_plain [] = refl
  own_sections_plain (section ∷ sections) = λ i. record section { entries = plain_entries section.entries i } ∷ own_sections_plain sections i
