use Rattle.std.proofs.Common.{rules}
use Rattle.coll_lex.proofs.SpellingLemmas.{code_of_four, code_of_eight}
use Rattle.coll_lex.proofs.spelling.write_char.Goals as goal

pub returns-then-code-lt65536 : goal.returns-then-code-lt65536
returns-then-code-lt65536 g c =
    record {
      sent = rw (code_of_four c.args.c c.upper_hex-d.result c.upper_hex-d.ensures c.if-code-lt65536.true) c.write_bytes.ensures.sent;
      errors = search rules;
    }

pub returns-else-code-lt65536 : goal.returns-else-code-lt65536
returns-else-code-lt65536 g c =
    record {
      sent = rw (code_of_eight c.args.c c.upper_hex-h.result c.upper_hex-d.result c.upper_hex-h.ensures c.upper_hex-d.ensures c.if-code-lt65536.false) c.write_bytes-else-code-lt65536.ensures.sent;
      errors = search rules;
    }
