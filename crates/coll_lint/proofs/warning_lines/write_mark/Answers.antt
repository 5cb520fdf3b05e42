-- A mark stands there.
use Rattle.std.proofs.Common.{rules}
use Rattle.coll_lint.proofs.warning_lines.write_mark.Goals as goal

pub returns : goal.returns
returns g c =
    record {
      sent = rw c.if-not-stands.false (rw c.as_bytes.ensures.value at c.write_pieces.ensures.sent);
      errors = search rules;
    }
