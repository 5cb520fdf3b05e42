use Rattle.std.proofs.Common.{◌≤◌, length}
use denote.Shadow.{shadow}
use denote.Text.{Utf8}
use Rattle.coll_syntax.proofs.PlainWeightLemmas.{ReadsIds}
use Rattle.coll_syntax.proofs.plain_weights.plain_string.Given as goal

abbrev pub invariant-pieces : goal.invariant-pieces
invariant-pieces l = record {
  reads : ReadsIds l.lexer.special l.inside l.ids.items l.rest;
  few : length l.ids.items ≤ 32;
  text : shadow (Utf8 l.rest);
}

abbrev pub decreases-pieces : goal.decreases-pieces
decreases-pieces l = length l.rest
