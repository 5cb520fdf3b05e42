-- What is put behind the bytes of a text is put behind its characters.
use Rattle.std.proofs.lemmas.Str.{IsUtf8-string_bytes}
use Rattle.coll_lex.proofs.TextLemmas.{chars_push}
use Rattle.coll_syntax.proofs.elements.push.Goals as goal

pub returns : goal.returns
returns c = rw c.in_ok-push.ensures.bytes (chars_push _ c.args.c (IsUtf8-string_bytes c.args.text.now) c.ranges.c.0)
