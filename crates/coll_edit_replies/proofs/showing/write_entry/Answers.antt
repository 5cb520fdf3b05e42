-- The place is that of the entry.
use Rattle.std.proofs.Common.{codes, subst}
use Rattle.coll_devices.specs.Devices.{Sends}
use Rattle.coll_nodes.specs.TableLayout.{collation}
use Rattle.coll_edit_replies.specs.Showing.{place_told, Place}
use Rattle.coll_edit_replies.proofs.showing.write_entry.Goals as goal

pub returns-clause-sent : goal.returns-clause-sent
returns-clause-sent g c =
    let taken = g.W.Sink.taken in
    subst (λ (place : Place). Sends (taken c.args.out.now) (taken c.write_spot.new.out) (place_told (collation c.args.table.now) (codes "shown ") place) c.write_spot.result)
    c.spot_of-spot.ensures.place c.write_spot.ensures.sent
