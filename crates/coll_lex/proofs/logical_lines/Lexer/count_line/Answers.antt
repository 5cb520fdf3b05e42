use Rattle.std.proofs.Common.{arith}
use Rattle.coll_lex.proofs.FeedLemmas.{line_passes}
use Rattle.coll_lex.proofs.logical_lines.Lexer.count_line.Goals as goal

pub returns-clause-passes : goal.returns-clause-passes
returns-clause-passes c = rw (← c.self.view_is) (line_passes c.self.inside.count _ (omega arith) c.if-is_last.false)
