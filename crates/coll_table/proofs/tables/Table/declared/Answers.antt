-- What a table declares is what its body does.
use Rattle.std.proofs.Common.{ap, ◌∙◌}
use Rattle.coll_nodes.specs.TableLayout.{TableValue, collation}
use Rattle.coll_table.proofs.tables.Table.declared.Goals as goal

pub returns : goal.returns
unfolding collation
returns c = c.declared.ensures ∙ ap (λ (table : TableValue). (collation table).declared) c.self.view_is
