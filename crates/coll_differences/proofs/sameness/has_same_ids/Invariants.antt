-- The lists are the same if what is left of them is.
use Rattle.std.proofs.Common.{◌≡◌, drop}
use Rattle.coll_syntax.specs.Identifier.{same_id}
use Rattle.coll_differences.specs.Sameness.{same_list}
use Rattle.coll_differences.proofs.sameness.has_same_ids.Given as goal

abbrev pub invariant-loop-id : goal.invariant-loop-id
invariant-loop-id l = same_list same_id l.ids l.others ≡ same_list same_id (drop l.id-index l.ids) l.left
