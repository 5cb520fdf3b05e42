use Rattle.std.proofs.Common.{◌++◌, take, ◌∙◌}
use Rattle.std.proofs.KnownBytes.{Appends-trans}
use Rattle.coll_devices.proofs.WritingLemmas.{done_more, counts_nothing}
use Rattle.coll_devices.proofs.writing.write_bytes.Goals as goal

pub writes-preserved : goal.writes-preserved
writes-preserved g c =
    let taken = g.W.Sink.taken in
    let rest = c.writes.rest.now in
    let n = c.in-Ok.count in
    let sent = c.writes.invariant.sent in
    record {
      sent = (sent.0 ++ take n rest, done_more c.args.bytes.now sent.0 rest n sent.1, Appends-trans _ _ _ sent.0 (take n rest) sent.2 c.in-Ok.ensures.bytes);
      count = c.in-Ok.ensures.errors ∙ counts_nothing _ n rest c.in-Ok.count-test.1 ∙ c.writes.invariant.count;
    }
