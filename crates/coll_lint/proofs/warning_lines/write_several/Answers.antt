-- The second part stands behind the first, or a prefix of the first is written.
use Rattle.std.proofs.Common.{rules}
use Rattle.coll_devices.proofs.WritingLemmas.{AppendsPrefix-before, Sends-after}
use Rattle.coll_lint.specs.WarningLines.{firsts_told, several_head}
use Rattle.coll_lint.proofs.warning_lines.write_several.Goals as goal

pub returns-in-Ok : goal.returns-in-Ok
returns-in-Ok g c =
    let taken = g.W.Sink.taken in
    record {
      sent = Sends-after (taken c.args.out.now) (taken c.write_several_head.new.out) (taken c.write_firsts.new.out) (several_head c.args.name.now c.args.warning c.args.count)
          (firsts_told c.args.warning c.args.count c.args.firsts.now) c.write_firsts.result c.in-Ok.ensures.sent c.write_firsts.ensures.sent;
      errors = search rules;
    }

pub returns-in-Err : goal.returns-in-Err
returns-in-Err g c =
    let taken = g.W.Sink.taken in
    record {
      sent = AppendsPrefix-before (taken c.args.out.now) (taken c.write_several_head.new.out) (several_head c.args.name.now c.args.warning c.args.count)
          (firsts_told c.args.warning c.args.count c.args.firsts.now) c.in-Err.ensures.sent;
      errors = search rules;
    }
