-- A name is found by its bytes.
use Rattle.std.proofs.Common.{◌∙◌}
use Rattle.coll_lookups.proofs.NameSets.{found_name}
use Rattle.coll_lookups.proofs.names.Names.contains.Goals as goal

pub returns : goal.returns
returns c =
    rw (← c.self.view_is) (c.contains.ensures ∙ found_name c.self.inside.names.keys _ _ c.get.ensures.bytes c.get.ensures.characters c.self.invariant)
