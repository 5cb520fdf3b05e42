use Rattle.std.proofs.Common.{◌≡◌, arith}
use Rattle.coll_lex.proofs.RunLemmas.{first_cut}
use Rattle.coll_lex.proofs.logical_lines.plain_strings.past_mark.Goals as goal

pub range_from-requires : goal.range_from-requires
range_from-requires c =
    let first = rw c.as_bytes.ensures.value at c.in_ok-first.ensures.cases.0 in
    let mark : c.in_ok-first.first.now ≡ 34 = c.if-first-ne34.false in
    λ _. first_cut c.args.text.now c.in_ok-first.field-0-1.now c.in_ok-first.first.now c.utf8.text first (omega (arith, mark))
