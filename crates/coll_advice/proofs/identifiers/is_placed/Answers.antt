-- What has an entry stands there.
use Rattle.std.proofs.Common.{◌∙◌}
use Rattle.coll_nodes.specs.TableLayout.{collation}
use Rattle.coll_advice.proofs.LookUps.{placed_if_lent}
use Rattle.coll_advice.proofs.identifiers.is_placed.Goals as goal

pub returns : goal.returns
returns c = c.is_some.ensures ∙ placed_if_lent (collation c.args.table.now) c.args.id.now c.entry.result c.entry.ensures
