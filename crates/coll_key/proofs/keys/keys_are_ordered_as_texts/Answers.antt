use Rattle.coll_key.proofs.KeyOrder.{keys_in_order}
use Rattle.coll_key.proofs.keys.keys_are_ordered_as_texts.Goals as goal

pub returns : goal.returns
returns c = keys_in_order
