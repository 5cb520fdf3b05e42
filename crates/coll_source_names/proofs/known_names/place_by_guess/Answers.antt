-- A name that is found at a guess stands at its place.
use Rattle.std.proofs.Common.{◌∙◌, ltb-true, sym}
use Rattle.indexmap.specs.IndexMap.{keys}
use Rattle.coll_lookups.proofs.NameNodes.{guessed_place}
use Rattle.coll_source_names.proofs.known_names.place_by_guess.Goals as goal

pub returns-then-equivalent : goal.returns-then-equivalent
returns-then-equivalent c =
    guessed_place c.args.name.now (keys c.args.names.now) c.args.guess c.in-Some.key.now c.keys.ensures.unique
    (ltb-true _ _ (sym (rw (c.as_slice.ensures ∙ c.keys.ensures.rest) at c.in-Some.ensures.lookup.0)))
    (rw (c.as_slice.ensures ∙ c.keys.ensures.rest) at c.in-Some.ensures.lookup.1)
    (sym c.equivalent.ensures ∙ c.if-equivalent.true)
