-- One name more is found.
use Rattle.std.proofs.Common.{not, sym, ap, ◌∙◌}
use Rattle.coll_syntax.specs.Identifier.{has_name}
use Rattle.coll_syntax.specs.declared.identifiers.Id.TheVariants.{Named}
use Rattle.coll_lookups.proofs.IdSets.{adds_name, found_place}
use Rattle.coll_lookups.proofs.id_sets.IdSet.put_name.Goals as goal

pub returns-clause-free : goal.returns-clause-free
returns-clause-free c =
    let p = c.self.inside in
    rw (← c.self.view_is)
    (c.in_ok-free.ensures.free ∙ (ap (λ name. not (has_name p.names name)) c.get.ensures.characters ∙ ap not (sym (found_place p.names p.chars p.undefined (Named c.args.name.now)))))

pub returns-clause-ok : goal.returns-clause-ok
returns-clause-ok c =
    let p = c.self.inside in
    rw (← c.self.view_is)
    (adds_name p.names c.put_free.new.self p.chars p.undefined c.args.name.now (rw c.get.ensures.characters at c.in_ok-free.ensures.ok))
