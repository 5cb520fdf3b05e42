use Rattle.std.proofs.Common.{ap}
use Rattle.coll_lex.specs.LogicalLines.{LexerState}
use Rattle.coll_requests.proofs.ParsingLemmas.{opens_as_none}
use Rattle.coll_requests.proofs.parsing.LineParser.new.Goals as goal

pub invariant_of-result : goal.invariant_of-result
invariant_of-result c = opens_as_none _ _ (ap (λ (s : LexerState). s.line) c.in_ok-lexer.ensures)
