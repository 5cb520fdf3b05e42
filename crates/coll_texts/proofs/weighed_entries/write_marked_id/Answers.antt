-- The mark, and the identifier.
use Rattle.std.proofs.Common.{◌++◌, ap, append-nil, subst}
use Rattle.coll_devices.specs.Devices.{Writes}
use Rattle.coll_texts.specs.PrintedParts.{id_bytes}
use Rattle.coll_texts.proofs.weighed_entries.write_marked_id.Goals as goal

pub returns : goal.returns
returns g c =
    let taken = g.W.Sink.taken in
    let failed = g.W.Sink.failed in
    subst (λ bytes. Writes (taken c.args.out.now) (taken c.write_pieces.new.out) (failed c.args.out.now) (failed c.write_pieces.new.out) bytes c.write_pieces.result)
    (ap (λ l. c.args.mark.now ++ l) (append-nil (id_bytes c.args.id.now))) c.write_pieces.ensures
