use Rattle.coll_lex.proofs.PlainStringLemmas.{string_ends}
use Rattle.coll_lex.proofs.logical_lines.Lexer.past_string.Goals as goal

pub returns : goal.returns
returns c =
    rw (← c.self.view_is) (string_ends c.self.inside.special c.self.inside.alloc c.args.text.now c.in_ok-rest.rest.now c.in_ok-rest.ensures.mark c.in_ok-rest.ensures.escape)
