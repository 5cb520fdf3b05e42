-- One character more is found.
use Rattle.std.proofs.Common.{not, sym, ap, ◌∙◌}
use Rattle.coll_syntax.specs.declared.identifiers.Id.TheVariants.{Char}
use Rattle.coll_lookups.proofs.IdSets.{adds_char, found_place}
use Rattle.coll_lookups.proofs.id_sets.IdSet.put_char.Goals as goal

pub returns-clause-free : goal.returns-clause-free
returns-clause-free c =
    let p = c.self.inside in
    rw (← c.self.view_is) (c.in_ok-free.ensures.free ∙ ap not (sym (found_place p.names p.chars p.undefined (Char c.args.c))))

pub returns-clause-ok : goal.returns-clause-ok
returns-clause-ok c =
    let p = c.self.inside in
    rw (← c.self.view_is) (adds_char p.names p.chars c.put.new.self p.undefined c.args.c c.in_ok-free.ensures.ok)
