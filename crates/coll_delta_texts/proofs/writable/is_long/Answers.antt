use Rattle.std.proofs.Common.{◌≡◌, length, rules, ap}
use Rattle.std.specs.Prelude.{nat_lt}
use Rattle.std.specs.Str.{chars}
use Rattle.std.proofs.lemmas.Str.{chars_from_encodes}
use Rattle.coll_delta_texts.proofs.writable.is_long.Goals as goal

pub returns : goal.returns
returns c =
    let n : c.count.result ≡ length (chars c.args.text.now) = search (rules, chars_from_encodes) in
    ap (nat_lt 4096) n
