-- A builder's sections are those of its body.
use Rattle.std.proofs.Common.{ap, ◌∙◌}
use Rattle.coll_texts.specs.Building.{Parts}
use Rattle.coll_nodes.specs.Walks.{visited}
use Rattle.coll_texts.proofs.body_builder.BodyBuilder.walk.Goals as goal

pub walk-requires : goal.walk-requires
walk-requires c = c.self.invariant.unnamed

pub returns : goal.returns
returns c = c.walk.ensures ∙ ap (λ (parts : Parts). visited parts.sections) c.self.view_is
