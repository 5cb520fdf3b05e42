use Rattle.std.proofs.lemmas.Str.{chars-nil}
use Rattle.coll_lex.proofs.buffers.Gathered.clear.Goals as goal

pub returns : goal.returns
returns c = rw c.clear.ensures.bytes chars-nil
