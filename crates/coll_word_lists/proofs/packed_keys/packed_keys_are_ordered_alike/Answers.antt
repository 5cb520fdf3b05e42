use Rattle.coll_word_lists.proofs.PackedOrder.{packed_in_order}
use Rattle.coll_word_lists.proofs.packed_keys.packed_keys_are_ordered_alike.Goals as goal

pub returns : goal.returns
returns c = packed_in_order
