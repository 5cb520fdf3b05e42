use Rattle.std.proofs.Common.{sym, ◌∙◌}
use Rattle.coll_syntax.proofs.ProperLines.{table_row-proper}
use Rattle.coll_syntax.proofs.table_lines.parse_table_line.Goals as goal

pub returns-clause-proper : goal.returns-clause-proper
returns-clause-proper c =
    table_row-proper c.args.line.now.tokens c.in-Some.first.now c.in-Some.rest.now c.row.result c.requires (sym c.get.ensures ∙ c.in-Some.ensures.cases.0) c.row.ensures.ok
