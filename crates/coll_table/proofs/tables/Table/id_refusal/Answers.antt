-- What is placed was declared.
use Rattle.std.proofs.Common.{sym, ◌∙◌}
use Rattle.coll_nodes.specs.TableLayout.{collation}
use Rattle.coll_table.proofs.DeltaJudged.{placed_unrefused}
use Rattle.coll_table.proofs.tables.Table.id_refusal.Goals as goal

pub returns-then-is_placed : goal.returns-then-is_placed
returns-then-is_placed c =
    sym (placed_unrefused (collation c.args.self.now) c.args.more.now c.args.id.now c.lemma_well_formed.ensures.well_formed (sym c.is_placed.ensures ∙ c.if-is_placed.true))
