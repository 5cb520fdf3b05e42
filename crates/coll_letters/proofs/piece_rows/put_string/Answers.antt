-- One string more is known.
use Rattle.coll_nodes.specs.TableLayout.{collation}
use Rattle.coll_letters.proofs.piece_rows.put_string.Goals as goal

pub returns-in_ok-push : goal.returns-in_ok-push
returns-in_ok-push c = λ weights are is. c.in_ok-push.ensures (collation c.args.table.now) weights are (c.in-Some-known_string.ensures weights is)
