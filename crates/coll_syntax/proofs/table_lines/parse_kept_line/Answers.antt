use Rattle.std.proofs.Common.{sym, ◌∙◌}
use Rattle.coll_syntax.proofs.ProperLines.{kept_proper}
use Rattle.coll_syntax.proofs.table_lines.parse_kept_line.Goals as goal

pub returns-clause-proper : goal.returns-clause-proper
returns-clause-proper c =
    kept_proper c.args.line.now.tokens c.in-Some.first.now c.in-Some.rest.now c.kept_row.result c.requires (sym c.get.ensures ∙ c.in-Some.ensures.cases.0) c.kept_row.ensures.ok
