use Rattle.std.proofs.Common.{sym}
use Rattle.coll_lex.proofs.ScanRows.{word_literal, word_constant}
use Rattle.coll_lex.proofs.scanning.Scan.take_literal_outside.Goals as goal

pub returns-then-is_constant-clause-err : goal.returns-then-is_constant-clause-err
returns-then-is_constant-clause-err c = λ _ comment. word_constant comment c.args.self.now c.args.c c.requires (sym c.if-is_constant.ensures)

pub returns-clause-ok : goal.returns-clause-ok
returns-clause-ok c = λ comment. rw c.in_ok-push.ensures.ok (word_literal comment c.args.self.now c.args.c c.requires (sym c.if-is_constant.ensures))
