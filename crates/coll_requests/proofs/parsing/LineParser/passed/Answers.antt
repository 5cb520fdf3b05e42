-- A line that is counted leaves none open.
use Rattle.std.proofs.Common.{ap}
use Rattle.coll_lex.specs.LogicalLines.{LexerState}
use Rattle.coll_requests.proofs.ParsingLemmas.{opens_as_none}
use Rattle.coll_requests.proofs.parsing.LineParser.passed.Goals as goal

pub invariant_of-self : goal.invariant_of-self
invariant_of-self c = opens_as_none c.pass_line.new.self c.self.inside.opening (ap (λ (s : LexerState). s.line) c.pass_line.ensures)
