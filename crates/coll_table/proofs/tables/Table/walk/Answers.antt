-- A table's sections are those of its body.
use Rattle.std.proofs.Common.{ap, ◌∙◌}
use Rattle.coll_nodes.specs.TableLayout.{TableValue, collation, sections_at}
use Rattle.coll_nodes.specs.Walks.{visited}
use Rattle.coll_nodes.proofs.WalkShapes.{first_alone}
use Rattle.coll_table.proofs.tables.Table.walk.Goals as goal

pub walk-requires : goal.walk-requires
unfolding collation
walk-requires c = first_alone (sections_at c.self.inside.body.layout) c.self.invariant.built.first_unnamed

pub returns : goal.returns
unfolding collation
returns c = c.walk.ensures ∙ ap (λ (table : TableValue). visited (collation table).sections) c.self.view_is
