-- The cell of an empty list stands behind the others.
use Rattle.std.proofs.Common.{◌∙◌, length, map, ap}
use Rattle.coll_ranks.specs.WeightCells.{cell_list}
use Rattle.coll_ranks.specs.declared.weight_cells.WeightCell.TheVariants.{Empty}
use Rattle.coll_ranks.proofs.CellLemmas.{cell_put, list_more}
use Rattle.coll_ranks.proofs.weight_cells.WeightCells.push_empty.Goals as goal

pub invariant_of-self-2 : goal.invariant_of-self-2
invariant_of-self-2 c = cell_put (length c.self.inside.long) Empty c.self.inside.cells.items c.push.new.self.items c.self.invariant tt c.in_ok-push.ensures.items

pub returns : goal.returns
returns c = rw (← c.self.view_is) (ap (map (cell_list c.self.inside.long)) c.in_ok-push.ensures.items ∙ list_more c.self.inside.long Empty c.self.inside.cells.items)
