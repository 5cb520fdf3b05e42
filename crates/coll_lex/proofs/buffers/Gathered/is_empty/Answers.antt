use Rattle.std.proofs.Common.{◌∙◌}
use Rattle.coll_lex.proofs.TextLemmas.{none_chars}
use Rattle.coll_lex.proofs.buffers.Gathered.is_empty.Goals as goal

pub returns : goal.returns
returns c = rw (← c.get.ensures) (c.is_empty.ensures ∙ none_chars c.get.result.now c.get.utf8)
