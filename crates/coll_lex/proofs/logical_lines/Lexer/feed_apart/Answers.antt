use Rattle.std.proofs.Common.{sym}
use Rattle.coll_lex.proofs.LineFaults.{directive_spared}
use Rattle.coll_lex.proofs.logical_lines.Lexer.feed_apart.Goals as goal

pub returns-in-Some-Err-clause-memory : goal.returns-in-Some-Err-clause-memory
returns-in-Some-Err-clause-memory c =
    let e = rw (c.as_bytes.ensures.value, c.in-Some-Err.field-0-is) at c.in-Some-Err.ensures in
    λ lack. absurd (directive_spared c.self.inside.special c.args.line.now c.in-Some-Err.fault (sym e) lack)
