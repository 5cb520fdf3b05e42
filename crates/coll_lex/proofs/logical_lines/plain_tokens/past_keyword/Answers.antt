use Rattle.std.proofs.Common.{sym}
use Rattle.coll_lex.proofs.PlainTextLemmas.{whole_keyword}
use Rattle.coll_lex.proofs.logical_lines.plain_tokens.past_keyword.Goals as goal

pub returns-then-ends_word : goal.returns-then-ends_word
returns-then-ends_word c =
    whole_keyword c.args.special c.args.text.now c.args.word.now c.in_ok-rest.rest.now c.in_ok-rest.ensures c.requires.some c.requires.word (sym c.if-is_in_keyword.ensures) (sym c.if-is_in_keyword-2.ensures)
    (sym c.if-ends_word.ensures)
