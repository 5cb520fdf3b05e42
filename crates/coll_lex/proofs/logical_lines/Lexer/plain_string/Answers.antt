use Rattle.coll_lex.proofs.PlainStringLemmas.{string_begins}
use Rattle.coll_lex.proofs.logical_lines.Lexer.plain_string.Goals as goal

pub returns : goal.returns
returns c =
    rw (← c.self.view_is)
    (string_begins c.self.inside.special c.self.inside.alloc c.args.text.now c.in_ok-inside.inside.now c.in_ok-inside.ensures.mark c.in_ok-inside.ensures.comment c.in_ok-inside.ensures.escape)
