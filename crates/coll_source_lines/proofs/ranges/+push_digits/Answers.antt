use Rattle.std.proofs.Common.{◌-◌, chars, string_bytes, arith}
use Rattle.std.proofs.lemmas.Str.{IsUtf8-string_bytes}
use Rattle.std.proofs.lemmas.List.{append_assoc}
use Rattle.coll_lex.proofs.TextLemmas.{chars_push}
use Rattle.coll_source_lines.specs.NameRanges.{base_of}
use Rattle.coll_source_lines.proofs.DigitLemmas.{last_digit, ascii_is_scalar}
use Rattle.coll_source_lines.proofs.ranges.+push_digits.Goals as goal

pub returns : goal.returns
returns t c =
    let scalar = ascii_is_scalar c.digit.result c.digit.ensures.ascii in
    let pushed = chars_push (string_bytes c.push_digits.new.name) c.digit.result (IsUtf8-string_bytes c.push_digits.new.name) scalar in
    let digits = last_digit (base_of c.args.digits) c.args.count (c.args.count - 1) c.args.number (omega arith) in
    rw (c.in_ok-push.ensures.bytes, pushed, c.in_ok-push_digits.ensures, c.without_last.ensures, c.digit.ensures.value, c.last.ensures.value, digits)
    (append_assoc (chars (string_bytes c.args.name.now)) _ _)
