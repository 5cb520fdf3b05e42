use Rattle.coll_lex.proofs.RunLemmas.{comment_taken}
use Rattle.coll_lex.proofs.scanning.Scan.take_part.Goals as goal

pub returns-in-Comment-clause-ok : goal.returns-in-Comment-clause-ok
returns-in-Comment-clause-ok c = comment_taken c.args.special c.args.self.now c.args.text.now c.in-Comment.is
