-- What a batch answers to the delta file decides.
use Rattle.std.proofs.Common.{[], ◌∷◌, ◌∙◌, ap}
use Rattle.coll_nodes.specs.TableLayout.{collation}
use Rattle.coll_lint.specs.Lints.{given_faults}
use Rattle.coll_surveys.specs.DeltaSurveys.{delta_faults}
use Rattle.coll_lint.proofs.LintCases.{accepted, behind_table, refused}
use Rattle.coll_lint.proofs.linting.lint_over.Goals as goal

pub returns-in-Ok : goal.returns-in-Ok
returns-in-Ok c =
    let texts = c.args.delta.now ∷ [] in
    accepted c.args.table.now texts c.lint_if_accepted.result c.in-Ok.ensures.0 (behind_table c.args.table.now (collation c.args.read) texts c.requires ∙ c.in-Ok.ensures.1)
    c.lint_if_accepted.ensures.none c.lint_if_accepted.ensures.memory

pub returns-in-Err : goal.returns-in-Err
returns-in-Err c =
    let texts = c.args.delta.now ∷ [] in
    refused c.args.table.now texts c.in-Err.first (delta_faults (collation c.args.read) c.args.delta.now) c.lint_faulty_delta.result
    (λ none. behind_table c.args.table.now (collation c.args.read) texts c.requires ∙ c.in-Err.ensures none) (λ none. ap (λ o. given_faults o c.args.table.now texts) c.requires)
    c.lint_faulty_delta.ensures.text c.lint_faulty_delta.ensures.begins c.lint_faulty_delta.ensures.once c.lint_faulty_delta.ensures.given c.lint_faulty_delta.ensures.memory
