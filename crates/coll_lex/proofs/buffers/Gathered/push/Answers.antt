use Rattle.std.proofs.lemmas.Str.{IsUtf8-string_bytes}
use Rattle.coll_lex.proofs.TextLemmas.{chars_push}
use Rattle.coll_lex.proofs.buffers.Gathered.push.Goals as goal

pub returns-clause-ok : goal.returns-clause-ok
returns-clause-ok c =
    rw (c.in_ok-push.ensures.bytes, ← c.begin.ensures, ← c.self.view_is) (chars_push _ c.args.c (IsUtf8-string_bytes c.self.inside.text) c.ranges.c.0)
