use Rattle.coll_lex.proofs.HeldText.{lexers_text}
use Rattle.coll_lex.proofs.logical_lines.lexers_hold_text.Goals as goal

pub returns : goal.returns
returns c = lexers_text
