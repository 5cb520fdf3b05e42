use Rattle.coll_lex.proofs.ScanRows.{text_symbol_begins, text_ends, text_grows}
use Rattle.coll_lex.proofs.scanning.Scan.take_in_text.Goals as goal

pub returns-then-c-eq60 : goal.returns-then-c-eq60
returns-then-c-eq60 c = λ comment. rw (c.enter.ensures, c.if-c-eq60.true) (text_symbol_begins comment c.args.self.now c.requires)

pub returns-then-c-eq34 : goal.returns-then-c-eq34
returns-then-c-eq34 c = λ comment.
    rw (c.enter-then-c-eq34.ensures, c.in_ok-push.ensures.ok, c.replace-pieces.ensures.value, c.replace-pieces.ensures.after, c.empty.ensures, c.if-c-eq34.true)
    (text_ends comment c.args.self.now c.requires)

pub returns : goal.returns
returns c = λ comment. rw c.in_ok-push-2.ensures.ok (text_grows comment c.args.self.now c.args.c c.requires c.if-c-eq60.false c.if-c-eq34.false)
