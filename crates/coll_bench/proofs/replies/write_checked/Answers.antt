-- The counts are those of the table.
use Rattle.std.proofs.Common.{rules}
use Rattle.coll_bench.specs.Replies.{checked_line}
use Rattle.coll_bench.proofs.replies.write_checked.Goals as goal

pub returns : goal.returns
unfolding checked_line
returns g c =
    record {
      sent = rw (c.len.ensures, c.declared_len.ensures, c.section_len.ensures, c.rules.ensures) at c.write_pieces.ensures.sent;
      errors = search rules;
    }
