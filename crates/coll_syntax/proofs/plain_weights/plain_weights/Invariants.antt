use Rattle.std.proofs.Common.{length}
use denote.Shadow.{shadow}
use denote.Text.{Utf8}
use Rattle.coll_syntax.proofs.PlainLineLemmas.{ReadsOn}
use Rattle.coll_syntax.proofs.plain_weights.plain_weights.Given as goal

abbrev pub invariant-operands : goal.invariant-operands
invariant-operands l = record {
  reads : ReadsOn l.own l.lexer.special l.text l.weights.items l.rest;
  text : shadow (Utf8 l.rest);
}

abbrev pub decreases-operands : goal.decreases-operands
decreases-operands l = length l.rest
