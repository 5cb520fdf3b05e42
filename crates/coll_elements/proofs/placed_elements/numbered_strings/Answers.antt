-- The next string has the number of its place.
use Rattle.std.proofs.Common.{refl}
use Rattle.coll_elements.proofs.SortedStrings.{numbered_more}
use Rattle.coll_elements.proofs.placed_elements.numbered_strings.Goals as goal

pub loop-place-preserved : goal.loop-place-preserved
loop-place-preserved c = numbered_more _ _ _ c.text_at.result c.loop-place.place _ c.loop-place.invariant refl c.text_at.ensures c.in_ok-push.ensures.items
