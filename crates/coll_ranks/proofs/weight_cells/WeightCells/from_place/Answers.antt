-- The lists of later cells are the later lists.
use Rattle.std.proofs.Common.{◌∙◌, map, drop, sym, ap}
use Rattle.std.proofs.lemmas.List.{drop-map}
use Rattle.coll_ranks.specs.WeightCells.{cell_list}
use Rattle.coll_ranks.proofs.weight_cells.WeightCells.from_place.Goals as goal

pub returns-in-Some : goal.returns-in-Some
returns-in-Some c =
    let lists = cell_list c.self.inside.long in
    ap (map lists) (c.in-Some.ensures.cases.2 ∙ ap (drop c.args.place) c.deref.ensures.value)
    ∙ sym (drop-map lists c.args.place c.self.inside.cells.items)
    ∙ ap (drop c.args.place) c.self.view_is
