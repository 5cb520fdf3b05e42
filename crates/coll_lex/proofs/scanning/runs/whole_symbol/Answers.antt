use Rattle.std.proofs.Common.{rules, ◌≡◌, ◌<◌, ◌∷◌, length, get_or, arith, ap, ◌∙◌}
use Rattle.coll_lex.proofs.RunLemmas.{after_close, name_stands, rest_stands, symbol_stands}
use Rattle.coll_lex.proofs.scanning.runs.whole_symbol.Goals as goal

pub range_from-requires : goal.range_from-requires
range_from-requires c =
    let n = c.name_length-length.result in
    let inside = c.in_ok-first.inside.now in
    let e = rw c.as_bytes.ensures.value at c.in_ok-first.ensures.cases in
    let within : n < length inside = omega arith in
    let closes : get_or inside n 0 ≡ 62 = search rules in
    λ _. after_close c.args.text.now inside c.in_ok-first.first.now n c.utf8.text e.0 within closes

pub returns : goal.returns
returns c =
    let n = c.name_length-length.result in
    let inside = c.in_ok-first.inside.now in
    let text = c.args.text.now in
    let first = c.in_ok-first.first.now in
    let e = rw c.as_bytes.ensures.value at c.in_ok-first.ensures.cases in
    let within : n < length inside = omega arith in
    let closes : get_or inside n 0 ≡ 62 = search rules in
    let more : 0 < n = omega arith in
    let whole : text ≡ 60 ∷ inside = e.0 ∙ ap (λ b. b ∷ inside) c.if-first-ne60.false in
    symbol_stands c.args.escape text inside c.range.result.now c.range_from.result.now n whole more within closes c.name_length-length.ensures.plain c.if-escape-eq60.false c.if-escape-eq62.false
    (c.range.ensures.value ∙ name_stands text inside first n e.0) (c.range_from.ensures.value ∙ rest_stands text inside first n e.0)
