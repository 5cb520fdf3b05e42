use Rattle.coll_lex.proofs.PlainTextLemmas.{next_word}
use Rattle.coll_lex.proofs.logical_lines.Lexer.past_keyword.Goals as goal

pub returns : goal.returns
returns c = rw (← c.self.view_is) (next_word c.self.inside.special c.self.inside.alloc c.args.text.now c.args.word.now c.in_ok-rest.rest.now c.in_ok-rest.ensures)
