-- A name is found by its bytes in the map, which tells its place.
use Rattle.std.proofs.Common.{is_some, sym, ap, ◌∙◌}
use Rattle.std.proofs.lemmas.Str.{encodes-chars}
use Rattle.std.specs.Option.{option_copied}
use Rattle.std.specs.Str.{bytes_eq}
use Rattle.coll_lookups.specs.NameKeys.{bytes_of}
use Rattle.coll_lookups.specs.declared.name_keys.NameKey.{NameKey}
use Rattle.coll_lookups.proofs.ListedNames.{found_place, position_found}
use Rattle.coll_lookups.proofs.listed_names.ListedNames.place.Goals as goal

pub returns-in-Some-clause-index : goal.returns-in-Some-clause-index
returns-in-Some-clause-index c =
    rw (← c.self.view_is)
    (ap option_copied (sym c.in-Some.is) ∙ (c.get.ensures.value ∙ found_place _ (encodes-chars _ c.utf8.name) c.self.inside.keys.items c.self.inside.places c.self.invariant.1))

pub returns-in-Some-clause-found : goal.returns-in-Some-clause-found
returns-in-Some-clause-found c = ap is_some (returns-in-Some-clause-index c) ∙ position_found (λ (key : NameKey). bytes_eq c.args.name.now (bytes_of key)) c.args.self.now

pub returns-in-None-clause-index : goal.returns-in-None-clause-index
returns-in-None-clause-index c =
    rw (← c.self.view_is)
    (ap option_copied (sym c.in-None.is) ∙ (c.get.ensures.value ∙ found_place _ (encodes-chars _ c.utf8.name) c.self.inside.keys.items c.self.inside.places c.self.invariant.1))

pub returns-in-None-clause-found : goal.returns-in-None-clause-found
returns-in-None-clause-found c = ap is_some (returns-in-None-clause-index c) ∙ position_found (λ (key : NameKey). bytes_eq c.args.name.now (bytes_of key)) c.args.self.now
