-- Each step goes one element further in both texts.
use Rattle.std.proofs.Common.{rules}
use Rattle.coll_ranks.proofs.AlikePrefixes.{alike_further}
use Rattle.coll_ranks.proofs.ranks.Ranks.past_common.Goals as goal

pub same-preserved : goal.same-preserved
same-preserved c = record {
  left = search rules;
  right = search rules;
  alike = alike_further _ _ _ _ _ _ c.same.invariant.alike c.in-Some.ensures.same;
}
