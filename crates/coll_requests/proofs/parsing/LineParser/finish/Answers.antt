use Rattle.std.proofs.Common.{ap}
use Rattle.coll_lex.specs.LogicalLines.{LexerState}
use Rattle.coll_requests.proofs.ParsingLemmas.{opens_as_none}
use Rattle.coll_requests.proofs.parsing.LineParser.finish.Goals as goal

pub invariant_of-self : goal.invariant_of-self
invariant_of-self c = opens_as_none _ _ (ap (λ (s : LexerState). s.line) c.finish.ensures.after)
