use Rattle.std.proofs.lemmas.Str.{chars-nil}
use Rattle.coll_lex.proofs.buffers.Gathered.empty.Goals as goal

pub returns : goal.returns
returns c = rw c.new.ensures.bytes chars-nil
