-- One more name is defined.
use Rattle.std.proofs.Common.{refl}
use Rattle.coll_sources.proofs.DefinedNames.{defined_more}
use Rattle.coll_sources.proofs.names.put_names.Goals as goal

pub loop-name-preserved : goal.loop-name-preserved
loop-name-preserved c = λ name.
    defined_more c.args.names.now c.loop-name.name-index _ name _ _ _ c.loop-name-test.true refl (c.in_ok-put_name.ensures name) (c.loop-name.invariant name)
