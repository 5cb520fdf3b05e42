use Rattle.coll_lex.proofs.NameLemmas.{fed-tokens}
use Rattle.coll_lex.proofs.logical_lines.lines_have_tokens.Goals as goal

pub returns : goal.returns
returns c = fed-tokens
