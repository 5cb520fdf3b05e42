-- A list stands behind the long ones, and its cell behind the others.
use Rattle.std.proofs.Common.{◌≡◌, ◌∙◌, ◌++◌, ◌∷◌, [], ap}
use Rattle.coll_ranks.specs.declared.weight_cells.WeightCell.TheVariants.{Long}
use Rattle.coll_ranks.proofs.CellLemmas.{long_cell_put, long_more}
use Rattle.coll_ranks.proofs.weight_cells.WeightCells.push_long.Goals as goal

pub invariant_of-self-2 : goal.invariant_of-self-2
invariant_of-self-2 c =
    let put : c.push_reserved.new.self.items ≡ c.self.inside.cells.items ++ Long c.len-place.result ∷ [] =
    c.push_reserved.ensures.items ∙ ap (λ cells. cells ++ Long c.len-place.result ∷ []) c.in_ok-reserve.ensures.items in
    long_cell_put c.self.inside.long c.push.new.self _ c.len-place.result c.self.inside.cells.items c.push_reserved.new.self.items c.self.invariant c.in_ok-push.ensures.ok c.len-place.ensures put

pub returns-clause-list : goal.returns-clause-list
returns-clause-list c =
    let put : c.push_reserved.new.self.items ≡ c.self.inside.cells.items ++ Long c.len-place.result ∷ [] =
    c.push_reserved.ensures.items ∙ ap (λ cells. cells ++ Long c.len-place.result ∷ []) c.in_ok-reserve.ensures.items in
    rw (← c.self.view_is) (long_more c.self.inside.long c.push.new.self _ c.len-place.result c.self.inside.cells.items c.push_reserved.new.self.items c.self.invariant c.in_ok-push.ensures.ok
    c.len-place.ensures put)
