-- The explanation is written, or it is told why not.
use Rattle.std.proofs.Common.{Err, refl}
use Rattle.coll_edit.specs.Watching.{device_of}
use Rattle.coll_edit.proofs.OwnReplyLemmas.{explained_whole, explained_partly, explained_not, explained_same}
use Rattle.coll_edit.proofs.editors.Editor.write_explained.Goals as goal

pub returns-in-Ok-clause-sent : goal.returns-in-Ok-clause-sent
returns-in-Ok-clause-sent g c =
    explained_same _ _ _ _ _ _ _ c.flush.result c.get.ensures.characters c.get-2.ensures.characters (explained_whole _ _ _ _ _ _ c.flush.result c.in-Ok.ensures c.flush.ensures.sent)

pub returns-in-Write-clause-sent : goal.returns-in-Write-clause-sent
returns-in-Write-clause-sent g c =
    let taken = g.W.Sink.taken in
    explained_same _ _ _ _ _ (taken (device_of c.args.output.now)) (taken (device_of c.explained.new.output)) (Err c.in-Write.stop) c.get.ensures.characters c.get-2.ensures.characters
    (explained_partly _ _ _ _ _ c.in-Err.ended c.in-Write.stop c.in-Write.stop (Err c.in-Write.stop) c.in-Err.ensures c.in-Write.is refl)

pub returns-in_default : goal.returns-in_default
returns-in_default g c = record {
  sent = explained_same _ _ _ _ _ _ _ c.write_refusal.result c.get.ensures.characters c.get-2.ensures.characters
      (explained_not _ _ _ _ _ _ c.in-Err.ended c.in-Err.ended.fault c.write_refusal.result c.in-Err.ensures refl c.in_default.not-Write c.write_refusal.ensures.sent);
  flushed = c.write_refusal.ensures.flushed;
}
