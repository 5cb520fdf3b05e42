-- The second part stands behind the first.
use Rattle.std.proofs.Common.{rules}
use Rattle.coll_devices.proofs.WritingLemmas.{Sends-after}
use Rattle.coll_refused_lines.specs.RefusedLines.{advice_told, refused_text, shown_told}
use Rattle.coll_refused_lines.proofs.refused_lines.write_refused.Goals as goal

pub returns-in-Ok : goal.returns-in-Ok
unfolding refused_text
returns-in-Ok g c =
    record {
      sent = let taken = g.W.Sink.taken in
          Sends-after (taken c.args.out.now) (taken c.write_shown.new.out) (taken c.write_advice.new.out)
          (shown_told c.args.refused.now.shown) (advice_told c.args.refused.now.sentence.now c.args.refused.now.about) c.write_advice.result
          c.in-Ok.ensures.sent c.write_advice.ensures.sent;
      errors = search rules;
    }
