-- The last piece ends the line.
use Rattle.std.proofs.Common.{append-nil, chars, rules}
use Rattle.coll_texts.specs.PrintedParts.{symbol_bytes}
use Rattle.coll_differences.proofs.lines.write_second_name.Goals as goal

pub returns : goal.returns
returns g c =
    record {
      sent = rw (append-nil (symbol_bytes (chars c.args.symbol.now))) at c.write_pieces.ensures.sent;
      errors = search rules;
    }
