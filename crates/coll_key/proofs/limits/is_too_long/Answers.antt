use Rattle.std.proofs.Common.{◌≤◌, ◌∙◌, chars, length, nat_lt, sym, ap, arith}
use Rattle.std.specs.Str.Iter.{chars_rest}
use Rattle.std.proofs.lemmas.Bool.{le-ltb}
use Rattle.std.proofs.lemmas.Str.{length-le-encodes, encodes-chars, chars_from_encodes}
use Rattle.coll_key.proofs.limits.is_too_long.Goals as goal

pub returns-then-text-le-MOST_TEXT_CHARACTERS : goal.returns-then-text-le-MOST_TEXT_CHARACTERS
returns-then-text-le-MOST_TEXT_CHARACTERS c =
    let fewer = length-le-encodes (chars c.args.text.now) in
    let all = ap length (encodes-chars c.args.text.now c.utf8.text) in
    let short : length (chars c.args.text.now) ≤ 65_536 = omega (arith, c.if-text-le-MOST_TEXT_CHARACTERS.true) in
    sym (le-ltb 65_536 (length (chars c.args.text.now)) short)

pub returns : goal.returns
returns c =
    let run = c.count.ensures.runs in
    let bytes = (c.chars.ensures.runs run.0 run.0.seen).1 run.2 ∙ ap chars_rest run.1 ∙ c.chars.ensures.rest in
    ap (nat_lt 65_536) (run.3 ∙ run.0.long ∙ ap length (chars_from_encodes run.0.items c.args.text.now c.utf8.text bytes))
