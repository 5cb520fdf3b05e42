-- The cells from a level on, and what is added there, give the numbers of rows.
use Rattle.std.proofs.Common.{◌∙◌, map, drop, ap}
use Rattle.coll_ranks.specs.WeightCells.{cell_list}
use Rattle.coll_ranks.proofs.LevelRows.{level_of_weights}
use Rattle.coll_ranks.proofs.compiled_weights.CompiledWeights.at_level.Goals as goal

pub returns : goal.returns
returns c =
    let lists = map (cell_list c.from_place.result.1.now) c.from_place.result.0.now in
    level_of_weights c.args.self.now c.args.level lists c.times.result (c.from_place.ensures ∙ ap (λ w. drop c.args.level w.lists) c.self.view_is) c.times.ensures.count
