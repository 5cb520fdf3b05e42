-- The lines of the delta file are counted by what is kept.
use Rattle.std.proofs.Common.{◌+◌, ◌≤◌, sym, subst, ◌∙◌}
use Rattle.coll_lex.specs.Limits.{most_lines}
use Rattle.coll_tailorings.specs.LineCounts.{line_count}
use Rattle.coll_tailorings.proofs.LineCountLemmas.{delta_length}
use Rattle.coll_tailorings.proofs.tailoring.import_delta.Goals as goal

pub returns-clause-few : goal.returns-clause-few
returns-clause-few c =
    let copies = c.in_ok-copies-2.copies.items in
    let statements = c.in_ok-statements.statements.items in
    subst (λ n. n ≤ most_lines) (sym (delta_length copies statements))
    (subst (λ n. (n + 4) + line_count statements ≤ most_lines) (c.len.ensures ∙ c.in_ok-copies-2.copies.ok.0) c.in_ok-statements.ensures.few)
