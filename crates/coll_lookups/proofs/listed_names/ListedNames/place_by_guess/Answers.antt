-- A name that is found at a guess stands at its place.
use Rattle.std.proofs.Common.{◌∙◌, ltb-true, sym}
use Rattle.coll_lookups.proofs.NameNodes.{guessed_place}
use Rattle.coll_lookups.proofs.listed_names.ListedNames.place_by_guess.Goals as goal

pub returns-then-eq-clause-index : goal.returns-then-eq-clause-index
returns-then-eq-clause-index c =
    rw (← c.self.view_is)
    (guessed_place c.args.name.now c.self.inside.keys.items c.args.guess c.in-Some.key.now c.self.invariant.0
    (ltb-true _ _ (sym (rw c.as_slice.ensures.value at c.in-Some.ensures.lookup.0)))
    (rw c.as_slice.ensures.value at c.in-Some.ensures.lookup.1)
    (sym (rw c.text.ensures at c.eq.ensures) ∙ c.if-eq.true))
