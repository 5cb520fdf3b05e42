-- An identifier is found by its kind.
use Rattle.std.proofs.Common.{sym, ◌∙◌}
use Rattle.coll_syntax.specs.declared.identifiers.Id.TheVariants.{Char, Named, Undefined}
use Rattle.coll_lookups.proofs.IdSets.{found_place}
use Rattle.coll_lookups.proofs.id_sets.IdSet.contains.Goals as goal

pub returns-in-Char : goal.returns-in-Char
returns-in-Char c =
    let p = c.self.inside in
    rw (← c.self.view_is, c.in-Char.is) (c.contains.ensures ∙ sym (found_place p.names p.chars p.undefined (Char c.in-Char.c)))

pub returns-in-Named : goal.returns-in-Named
returns-in-Named c =
    let p = c.self.inside in
    rw (← c.self.view_is, c.in-Named.is) (c.contains-in-Named.ensures ∙ sym (found_place p.names p.chars p.undefined (Named c.in-Named.name)))

pub returns-in-Undefined : goal.returns-in-Undefined
returns-in-Undefined c =
    let p = c.self.inside in
    rw (← c.self.view_is, c.in-Undefined.is) (sym (found_place p.names p.chars p.undefined Undefined))
