use Rattle.std.proofs.Common.{sym, arith}
use Rattle.coll_lex.proofs.FeedLemmas.{line_passes}
use Rattle.coll_lex.proofs.PlainTextLemmas.{none_opened, plain_line}
use Rattle.coll_lex.proofs.logical_lines.Lexer.plain_text.Goals as goal

pub returns-in-Ok-clause-plain : goal.returns-in-Ok-clause-plain
returns-in-Ok-clause-plain c =
    let line = c.args.line.now in
    let bytes = c.without_return-bytes.ensures in
    let text = rw bytes at c.in-Ok.ensures.ok.1 in
    let none = rw bytes at (sym c.if-not-is_no_directive.ensures) in
    let passes = line_passes c.self.inside.count _ (omega arith) c.if-self-eq-MOST_LINES.false in
    rw (← c.self.view_is, c.in-Ok.ensures.ok.0, bytes) (plain_line _ line (none_opened c.self.inside.open (sym c.if-is_some.ensures)) passes text none)
