-- The counts are those of the differences.
use Rattle.std.proofs.Common.{rules}
use Rattle.coll_differences.proofs.lines.write_counts.Goals as goal

pub returns : goal.returns
returns g c =
    record {
      sent = rw (
        c.count_one-rules.ensures,
        c.is_some.ensures,
        c.len.ensures,
        c.removals.ensures,
        c.additions.ensures,
        c.moves.ensures,
        c.len-2.ensures,
        c.as_slice-changes.ensures.value,
      ) at c.write_pieces.ensures.sent;
      errors = search rules;
    }
