use Rattle.coll_order.proofs.LayoutLemmas.{link_takes_back}
use Rattle.coll_order.proofs.laws.link_takes_back_unlink.Goals as goal

pub returns : goal.returns
returns c = link_takes_back
