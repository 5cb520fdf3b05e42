-- The words are in order still, or some move.
use Rattle.std.proofs.Common.{◌≡◌, length, arith}
use Rattle.coll_nodes.specs.TableLayout.{collation}
use Rattle.coll_reviews.proofs.SortedAgain.{again_in_order}
use Rattle.coll_reviews.proofs.ListedLemmas.{whole_ordered}
use Rattle.coll_reviews.proofs.listed_words.sort_moved_alone.Goals as goal

pub returns-then-front-count-clause-sorted : goal.returns-then-front-count-clause-sorted
returns-then-front-count-clause-sorted c =
    let items = c.args.list.now.items in
    let whole : c.in_ok-front.front ≡ length items = omega (arith, c.if-front-count.true, c.len-count.ensures, c.args.list.now.ok.0) in
    λ _. again_in_order (collation c.args.table.now) items (whole_ordered (collation c.args.table.now) items _ c.in_ok-front.front c.deref.ensures.value whole c.in_ok-front.ensures.ordered)
