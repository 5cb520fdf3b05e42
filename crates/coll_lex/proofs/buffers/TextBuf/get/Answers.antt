use Rattle.std.proofs.lemmas.Str.{encodes-chars}
use Rattle.coll_lex.proofs.buffers.TextBuf.get.Goals as goal

pub returns-clause-bytes : goal.returns-clause-bytes
returns-clause-bytes c =
    rw (← c.self.view_is, ← c.as_str.ensures.value) (encodes-chars _ c.as_str.utf8)
