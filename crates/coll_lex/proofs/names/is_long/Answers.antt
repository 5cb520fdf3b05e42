-- A text has at most as many characters as bytes.
use Rattle.std.proofs.Common.{◌≡◌, ◌≤◌, length, rules, ap, sym, ◌∙◌, arith}
use Rattle.std.specs.Prelude.{nat_lt}
use Rattle.std.specs.Str.{chars}
use Rattle.std.proofs.lemmas.Bool.{le-ltb}
use Rattle.std.proofs.lemmas.Str.{chars_from_encodes, encodes-chars, length-le-encodes}
use Rattle.coll_lex.specs.Limits.{most_name_chars}
use Rattle.coll_lex.proofs.names.is_long.Goals as goal

pub returns-then-text-gt-MOST_NAME_CHARS : goal.returns-then-text-gt-MOST_NAME_CHARS
returns-then-text-gt-MOST_NAME_CHARS c =
    let n : c.count.result ≡ length (chars c.args.text.now) = search (rules, chars_from_encodes) in
    ap (nat_lt most_name_chars) n

pub returns-else-text-gt-MOST_NAME_CHARS : goal.returns-else-text-gt-MOST_NAME_CHARS
returns-else-text-gt-MOST_NAME_CHARS c =
    let text = c.args.text.now in
    let few : length (chars text) ≤ length text = rw (← ap length (encodes-chars text c.utf8.text)) (length-le-encodes (chars text)) in
    le-ltb most_name_chars (length text) (omega (arith, c.if-text-gt-MOST_NAME_CHARS.false))
    ∙ sym (le-ltb most_name_chars (length (chars text)) (omega (arith, few, c.if-text-gt-MOST_NAME_CHARS.false)))
