-- What a batch answers to the table decides, where it is at fault.
use Rattle.std.proofs.Common.{ap}
use Rattle.std.specs.Option.{option_map}
use Rattle.std.specs.Prelude.{option_to_list}
use Rattle.coll_lint.specs.Lints.{given_faults}
use Rattle.coll_surveys.specs.TableWeights.{table_faults}
use Rattle.coll_lint.proofs.LintCases.{behind_fault, refused}
use Rattle.coll_lint.proofs.linting.linted.Goals as goal

pub returns-in-Err : goal.returns-in-Err
returns-in-Err g c =
    let texts = option_to_list (option_map (λ text. text.now) c.args.delta) in
    refused c.args.table.now texts c.in-Err.first (table_faults c.args.table.now) c.lint_faulty.result
    (λ none. behind_fault c.args.table.now c.in-Err.first texts (c.in-Err.ensures none)) (λ none. ap (λ o. given_faults o c.args.table.now texts) (c.in-Err.ensures none))
    c.lint_faulty.ensures.text c.lint_faulty.ensures.begins c.lint_faulty.ensures.once c.lint_faulty.ensures.given c.lint_faulty.ensures.memory
