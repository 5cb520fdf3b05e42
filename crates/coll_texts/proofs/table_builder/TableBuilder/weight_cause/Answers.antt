-- What is placed was declared, so nothing refuses it.
use Rattle.std.proofs.Common.{sym, ap, ◌∙◌}
use Rattle.coll_texts.specs.BuilderStates.{BuilderState, weight_cause}
use Rattle.coll_texts.proofs.WeightCauses.{placed_unrefused}
use Rattle.coll_texts.proofs.table_builder.TableBuilder.weight_cause.Goals as goal

pub returns-then-is_placed_behind-clause-cause : goal.returns-then-is_placed_behind-clause-cause
returns-then-is_placed_behind-clause-cause c =
    sym (ap (λ (d : BuilderState). weight_cause d.declared d.sections c.args.id.now) (sym c.self.view_is) ∙ placed_unrefused _ c.args.id.now c.self.invariant (sym c.if-is_placed_behind.ensures))
