use Rattle.std.proofs.Common.{sym, ◌∙◌}
use Rattle.coll_syntax.proofs.ProperLines.{delta_row-proper}
use Rattle.coll_syntax.proofs.delta_lines.parse_delta_line.Goals as goal

pub returns-clause-proper : goal.returns-clause-proper
returns-clause-proper c =
    delta_row-proper c.args.line.now.tokens c.in-Some.first.now c.in-Some.rest.now c.row.result c.requires (sym c.get.ensures ∙ c.in-Some.ensures.cases.0) c.row.ensures.ok
