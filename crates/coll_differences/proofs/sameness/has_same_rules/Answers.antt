-- The rules that are lent are those of the tables.
use Rattle.std.proofs.Common.{sym, ◌∙◌}
use Rattle.coll_nodes.specs.TableLayout.{collation}
use Rattle.coll_differences.specs.Sameness.{same_rule}
use Rattle.coll_differences.proofs.SamenessLemmas.{same_list_decides, same_rule_decides}
use Rattle.coll_differences.proofs.sameness.has_same_rules.Goals as goal

pub returns : goal.returns
returns c =
    let told = rw (c.rules.ensures, c.rules-2.ensures) at c.are_same_rules.ensures in
    let decides = same_list_decides same_rule same_rule_decides (collation c.args.first.now).rules (collation c.args.second.now).rules in
    (λ h. decides.0 (sym told ∙ h), λ h. told ∙ decides.1 h)
