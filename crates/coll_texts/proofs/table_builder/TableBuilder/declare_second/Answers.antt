-- What is declared is the second name with the own name of its symbol, or else what that name means refuses it.
use Rattle.std.proofs.Common.{◌≡◌, ◌≢◌, Some, IfErr, ap, sym, subst, ◌∙◌}
use Rattle.coll_texts.specs.BuilderStates.{BuilderState, declaration_cause, second_name}
use Rattle.coll_nodes.specs.Table.{is_declared}
use Rattle.coll_texts.specs.declared.load_faults.LoadCause.TheVariants.{OutOfMemory}
use Rattle.coll_nodes.specs.declared.declarations.Declaration.TheVariants.{Equivalence}
use Rattle.coll_texts.proofs.SoundLines.{declaration_means}
use Rattle.coll_texts.proofs.table_builder.TableBuilder.declare_second.Goals as goal

pub returns-in-Ok-clause-err : goal.returns-in-Ok-clause-err
returns-in-Ok-clause-err c =
    subst (λ own. IfErr c.declare.result (λ cause. cause ≢ OutOfMemory → declaration_cause c.args.self.now.declared (Equivalence c.args.name own) ≡ Some cause)) c.in-Ok.ensures.own
    c.declare.ensures.err

pub returns-in-Err-clause-err : goal.returns-in-Err-clause-err
returns-in-Err-clause-err c =
    let d = c.args.self.now in
    λ spared. declaration_means d.declared (second_name d.declared c.args.name c.args.symbol) c.in-Err.cause
    (ap (λ (it : BuilderState). is_declared it.declared c.args.name) (sym c.self.view_is) ∙ (sym c.declares.ensures ∙ c.if-declares.false)) (c.in-Err.ensures.err spared c.args.name)
