-- A line that the grammar accepts is parsed as what it says.
use Rattle.std.proofs.Common.{false, Result, sym, ap, ◌∙◌}
use Rattle.coll_syntax.specs.declared.lines.DeltaLine.{DeltaLine}
use Rattle.coll_syntax.specs.declared.syntax_faults.SyntaxFault.{SyntaxFault}
use Rattle.coll_requests.specs.SessionLines.{delta_parsed}
use Rattle.coll_requests.proofs.parsing.delta_parsed.Goals as goal

pub returns-in-Ok-clause-parsed : goal.returns-in-Ok-clause-parsed
returns-in-Ok-clause-parsed c = (false, c.accepted.ensures.parsed c.args.opening ∙ ap (λ (r : Result DeltaLine SyntaxFault). delta_parsed c.args.opening r) (sym c.in-Ok.ensures.ok))
