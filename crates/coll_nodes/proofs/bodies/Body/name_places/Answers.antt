-- The copied names lead to the nodes of their entries, and these have their numbers.
use Rattle.std.proofs.Common.{ap, ◌∙◌}
use Rattle.std.specs.Option.{option_map}
use Rattle.coll_syntax.specs.declared.identifiers.Id.TheVariants.{Named}
use Rattle.coll_lookups.specs.NamePlaces.{NamePlacesValue, place_named}
use Rattle.coll_lookups.specs.NodeLookUps.{node_named, node_with}
use Rattle.coll_lookups.specs.EntryNumbers.{number_at}
use Rattle.coll_nodes.proofs.NumberedNodes.{found_place}
use Rattle.coll_nodes.proofs.bodies.Body.name_places.Goals as goal

pub returns : goal.returns
returns c = λ name.
    let place = found_place c.self.inside.nodes.layout c.args.numbers (node_with c.self.inside.keys.placed) (Named name) c.self.invariant.shaped c.self.invariant.found.ids
    (rw c.self.view_is c.requires) in
    rw (← c.self.view_is) (ap (λ (places : NamePlacesValue). place_named places name) c.new.ensures
    ∙ (ap (λ names. option_map (number_at c.args.numbers) (node_named names name)) c.in_ok-names.ensures ∙ place))
