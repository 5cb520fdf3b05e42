use Rattle.coll_lex.proofs.RunLemmas.{word_cut}
use Rattle.coll_lex.proofs.logical_lines.plain_tokens.whole_word.Goals as goal

pub split_at-requires : goal.split_at-requires
split_at-requires c =
    let within = rw c.as_bytes.ensures.value at c.word_length-length.ensures.within in
    let plain = rw c.as_bytes.ensures.value at c.word_length-length.ensures.plain in
    word_cut c.args.special c.args.text.now c.word_length-length.result c.utf8.text within plain
