-- Whether the word is there is kept.
use Rattle.std.proofs.Common.{not, sym, ap}
use Rattle.coll_syntax.specs.declared.identifiers.Id.TheVariants.{Undefined}
use Rattle.coll_lookups.proofs.IdSets.{found_place}
use Rattle.coll_lookups.proofs.id_sets.IdSet.put_undefined.Goals as goal

pub returns-clause-free : goal.returns-clause-free
returns-clause-free c =
    let p = c.self.inside in
    rw (← c.self.view_is) (ap not (sym (found_place p.names p.chars p.undefined Undefined)))
