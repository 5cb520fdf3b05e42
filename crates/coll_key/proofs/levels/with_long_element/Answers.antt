-- An element that has numbers has its first one first, and then the others.
use Rattle.std.proofs.Common.{◌≡◌, ◌∙◌, ℕ, List, ◌∷◌, ◌++◌, map, sym, ap}
use Rattle.coll_key.specs.LevelList.{position_of, items_of, directed, listed}
use Rattle.coll_ranks.specs.Ranks.{added_to}
use Rattle.coll_key.proofs.PushingSteps.{element_begins}
use Rattle.coll_key.proofs.levels.with_long_element.Goals as goal

pub returns-clause-numbers : goal.returns-clause-numbers
returns-clause-numbers c =
    let weight = c.args.weight in
    let pushed : (list : List ℕ) → c.in_ok-key.key.items ++ position_of c.args.position c.args.gaps ++ added_to weight.added c.in-Some.first ∷ list ≡ c.with_number-with.result.items ++ list =
    rw (← c.number_of.ensures) c.with_number-with.ensures.numbers in
    λ later.
    ap (λ items. items ++ listed c.args.position c.args.gaps (items_of (directed c.args.backward (map (added_to weight.added) weight.ranks.now)) ++ later)) (sym c.in_ok-key.ensures.same)
    ∙ element_begins c.args.position c.args.backward c.args.gaps (added_to weight.added) weight.ranks.now c.in-Some.others.now c.in_ok-key.key.items c.with_number-with.result.items c.in-Some.first
    c.in-Some.ensures pushed later
    ∙ c.with_others-whole.ensures.numbers later
