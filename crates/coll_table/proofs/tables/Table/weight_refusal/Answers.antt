-- Nothing refuses a weight that names the entry alone.
use Rattle.std.proofs.Common.{sym, ◌∙◌}
use Rattle.coll_nodes.specs.TableLayout.{collation}
use Rattle.coll_table.proofs.DeltaJudged.{own_unrefused}
use Rattle.coll_table.proofs.tables.Table.weight_refusal.Goals as goal

pub returns-then-names_only : goal.returns-then-names_only
returns-then-names_only c =
    sym (own_unrefused (collation c.args.self.now) c.args.more.now c.args.own.now c.args.weight.now c.requires (sym c.names_only.ensures ∙ c.if-names_only.true))
