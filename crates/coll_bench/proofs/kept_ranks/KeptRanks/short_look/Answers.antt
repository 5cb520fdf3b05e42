-- A look is short where its characters are few beside the entries.
use Rattle.std.proofs.Common.{refl}
use Rattle.coll_nodes.specs.TableLayout.{collation}
use Rattle.coll_bench.proofs.ShortLooks.{few_enough}
use Rattle.coll_bench.proofs.kept_ranks.KeptRanks.short_look.Goals as goal

pub returns : goal.returns
returns c = rw (← c.self.view_is)
    (few_enough (collation c.args.table.now) _ _ c.self.inside.looked c.args.characters c.args.others c.len.result _ c.saturating_add.ensures c.saturating_add-looked.ensures c.len.ensures refl
    c.len.type_inv c.if-looked-len.false)
