use Rattle.std.proofs.lemmas.Bool.Decides.{Decides-eqb}
use Rattle.std.proofs.lemmas.Slice.Eq.{starts_is}
use Rattle.coll_lex.proofs.PlainTextLemmas.{keyword_cut}
use Rattle.coll_lex.proofs.logical_lines.plain_tokens.behind_keyword.Goals as goal

pub range_from-requires : goal.range_from-requires
range_from-requires c =
    let starts = rw c.as_bytes.ensures.value at c.starts_with.ensures.value in
    let is = (starts_is Decides-eqb c.args.text.now c.args.word.now c.starts_with.result starts).0 c.if-starts_with.true in
    λ _. keyword_cut c.args.text.now c.args.word.now c.utf8.text is c.requires

pub returns-then-starts_with : goal.returns-then-starts_with
returns-then-starts_with c =
    let starts = rw c.as_bytes.ensures.value at c.starts_with.ensures.value in
    let is = (starts_is Decides-eqb c.args.text.now c.args.word.now c.starts_with.result starts).0 c.if-starts_with.true in
    rw c.range_from.ensures.value is
