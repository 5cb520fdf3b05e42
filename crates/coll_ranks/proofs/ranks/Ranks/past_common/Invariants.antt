use Rattle.std.proofs.Common.{chars, length}
use denote.Shadow.{shadow}
use denote.Text.{Utf8}
use Rattle.coll_ranks.specs.Ranks.{elements_by_ranks}
use Rattle.coll_ranks.specs.AlikePrefixes.{BeginAlike}
use Rattle.coll_ranks.proofs.ranks.Ranks.past_common.Given as goal

abbrev pub invariant-same : goal.invariant-same
invariant-same l = record {
  left : shadow (Utf8 l.left);
  right : shadow (Utf8 l.right);
  alike : BeginAlike (elements_by_ranks l.self (chars l.text)) (elements_by_ranks l.self (chars l.other)) (elements_by_ranks l.self (chars l.left)) (elements_by_ranks l.self (chars l.right));
}

abbrev pub decreases-same : goal.decreases-same
decreases-same l = length (chars l.left)
