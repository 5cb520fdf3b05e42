-- The name that stands at the place of the text, or none.
use Rattle.std.proofs.Common.{◌≡◌, ℕ, List, length, codes, Option, Some, slice_get, unwrap_or, string_bytes, refl, sym, ap, ◌∙◌}
use Rattle.std.specs.Option.{option_map}
use Rattle.std.proofs.lemmas.Option.{slice_get-map, slice_get_read, slice_get_past}
use Rattle.coll_import.proofs.reports.name_of.Goals as goal

-- what is told of a name, if there is one
abbrev told : Option (List ℕ) → List ℕ
told name = unwrap_or name (codes "-")

pub returns-in-Some : goal.returns-in-Some
returns-in-Some c =
    let names = c.args.names.now in
    let there : slice_get names c.args.text ≡ Some c.in-Some.name.now = slice_get_read names (length names) c.args.text c.in-Some.name.now
    refl c.in-Some.ensures.lookup.3.0 c.in-Some.ensures.lookup.1 in
    c.as_str.ensures.value ∙ sym (ap told (slice_get-map string_bytes names c.args.text ∙ ap (option_map string_bytes) there))

pub returns-in-None : goal.returns-in-None
returns-in-None c =
    let names = c.args.names.now in
    sym (ap told (slice_get-map string_bytes names c.args.text ∙ ap (option_map string_bytes) (slice_get_past names c.args.text c.in-None.ensures.lookup.3)))
