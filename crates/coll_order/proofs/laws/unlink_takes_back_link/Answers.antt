use Rattle.coll_order.proofs.LayoutLemmas.{unlink_takes_back}
use Rattle.coll_order.proofs.laws.unlink_takes_back_link.Goals as goal

pub returns : goal.returns
returns c = unlink_takes_back
