use Rattle.std.proofs.lemmas.Str.{IsUtf8-string_bytes, chars-append}
use Rattle.coll_lex.proofs.buffers.Gathered.push_str.Goals as goal

pub returns-clause-ok : goal.returns-clause-ok
returns-clause-ok c =
    rw (c.in_ok-push_str.ensures.bytes, ← c.begin.ensures, ← c.self.view_is) (chars-append _ c.args.more.now (IsUtf8-string_bytes c.self.inside.text))
