-- The number of the node that is found is the place of its identifier.
use Rattle.std.proofs.Common.{Some, sym, ap, ◌∙◌}
use Rattle.std.specs.Option.{option_map}
use Rattle.coll_lookups.specs.NodeLookUps.{node_with}
use Rattle.coll_lookups.specs.EntryNumbers.{number_at}
use Rattle.coll_nodes.proofs.NumberedNodes.{found_place}
use Rattle.coll_nodes.proofs.bodies.Body.entry_number.Goals as goal

pub returns-in-Some : goal.returns-in-Some
returns-in-Some c =
    let place = found_place c.self.inside.nodes.layout c.args.numbers.now (node_with c.self.inside.keys.placed) c.args.id.now c.self.invariant.shaped c.self.invariant.found.ids
    (rw c.self.view_is c.requires) in
    rw (← c.self.view_is) (ap Some c.get.ensures ∙ (ap (option_map (number_at c.args.numbers.now)) (sym c.in-Some.is ∙ c.find.ensures) ∙ place))

pub returns-in-None : goal.returns-in-None
returns-in-None c =
    let place = found_place c.self.inside.nodes.layout c.args.numbers.now (node_with c.self.inside.keys.placed) c.args.id.now c.self.invariant.shaped c.self.invariant.found.ids
    (rw c.self.view_is c.requires) in
    rw (← c.self.view_is) (ap (option_map (number_at c.args.numbers.now)) (sym c.in-None.is ∙ c.find.ensures) ∙ place)
