-- The table is without fault, and there is no delta file.
use Rattle.std.proofs.Common.{[], sym, subst}
use Rattle.std.specs.Borrow.{Bor}
use Rattle.std.specs.Option.{option_map}
use Rattle.std.specs.Prelude.{List, ℕ, Option, option_to_list}
use Rattle.coll_nodes.specs.TableLayout.{collation}
use Rattle.coll_lint.specs.Lints.{LintsTexts}
use Rattle.coll_lint.proofs.LintCases.{accepted}
use Rattle.coll_lint.proofs.linting.lint_read.Goals as goal

pub returns-in-None : goal.returns-in-None
returns-in-None c =
    subst (λ (o : Option (Bor (List ℕ))). LintsTexts c.args.table.now (option_to_list (option_map (λ (text : Bor (List ℕ)). text.now) o)) c.lint_if_accepted.result) (sym c.in-None.is)
    (accepted c.args.table.now [] c.lint_if_accepted.result (collation c.args.read) c.requires c.lint_if_accepted.ensures.none c.lint_if_accepted.ensures.memory)
