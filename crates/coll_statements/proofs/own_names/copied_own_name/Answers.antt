-- The own name is that of the symbol that is meant; a name that means none is its own.
use Rattle.std.proofs.Common.{ap, ◌∙◌}
use Rattle.std.specs.Prelude.{option_copied}
use Rattle.coll_nodes.specs.TableLayout.{declared_at}
use Rattle.coll_statements.proofs.SecondNames.{told, not_meant_own}
use Rattle.coll_statements.proofs.own_names.copied_own_name.Goals as goal

pub returns-in-None : goal.returns-in-None
returns-in-None c =
    let declared = declared_at c.args.body.now.layout in
    rw (not_meant_own declared c.args.name.now (told declared c.args.name.now _ _ c.get.ensures.characters c.symbol_meant.ensures ∙ ap option_copied c.in-None.is)) c.try_copy-in-None.ensures
