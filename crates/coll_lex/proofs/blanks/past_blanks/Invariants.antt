use Rattle.std.proofs.Common.{drop, ◌≡◌}
use Rattle.coll_lex.specs.Blanks.{past_blanks}
use Rattle.coll_lex.proofs.blanks.past_blanks.Given as goal

abbrev pub invariant-loop-start : goal.invariant-loop-start
invariant-loop-start l = past_blanks (drop l.start l.line) ≡ past_blanks l.line
