use Rattle.std.proofs.Common.{◌≡◌, take, map}
use Rattle.coll_syntax.specs.Weights.{piece_id}
use Rattle.coll_syntax.proofs.weight_lists.piece_ids.Given as goal

abbrev pub invariant-loop-piece : goal.invariant-loop-piece
invariant-loop-piece l = l.ids.items ≡ map piece_id (take l.piece-index l.pieces)
