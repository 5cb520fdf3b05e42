-- One element more is found by its name.
use Rattle.std.proofs.Common.{◌∙◌}
use Rattle.coll_elements.proofs.NamedElements.{named_put}
use Rattle.coll_elements.proofs.named_elements.put.Goals as goal

pub returns-clause-named : goal.returns-clause-named
returns-clause-named c = λ named.
    named_put c.args.elements.now.items _ c.args.places.now _ c.in_ok-element.element _ _ c.args.rank c.len-place.result
    named c.in_ok-element.ensures c.requires.some (c.len-place.ensures ∙ c.args.elements.now.ok.0) c.in_ok-set.ensures c.in_ok-push.ensures.items
