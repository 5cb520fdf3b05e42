use Rattle.coll_order.proofs.StoreLemmas.{detached}
use Rattle.coll_order.proofs.store.Store.detach.Goals as goal

pub returns : goal.returns
returns c = detached _ _ _ _ c.set_next.ensures c.set_before.ensures
