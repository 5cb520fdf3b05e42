use Rattle.std.proofs.Common.{sym}
use Rattle.coll_lex.proofs.ScanRows.{text_literal, text_constant}
use Rattle.coll_lex.proofs.scanning.Scan.take_literal_in_text.Goals as goal

pub returns-then-is_constant-clause-err : goal.returns-then-is_constant-clause-err
returns-then-is_constant-clause-err c = λ _ comment. text_constant comment c.args.self.now c.args.c c.requires (sym c.if-is_constant.ensures)

pub returns-clause-ok : goal.returns-clause-ok
returns-clause-ok c = λ comment. rw c.in_ok-push.ensures.ok (text_literal comment c.args.self.now c.args.c c.requires (sym c.if-is_constant.ensures))
