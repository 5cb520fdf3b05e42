-- What is put on the list are the identifiers so far, by their own names.
use Rattle.std.proofs.Common.{◌≡◌, map, take}
use Rattle.coll_nodes.specs.OwnNames.{own_id}
use Rattle.coll_nodes.specs.TableLayout.{declared_at}
use Rattle.coll_statements.proofs.own_names.own_ids.Given as goal

abbrev pub invariant-loop-id : goal.invariant-loop-id
invariant-loop-id l = l.own.items ≡ map (own_id (declared_at l.body.layout)) (take l.id-index l.ids)
