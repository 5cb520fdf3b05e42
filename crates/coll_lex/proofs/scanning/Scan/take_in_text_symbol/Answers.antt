use Rattle.std.proofs.lemmas.Result.{err_from_is_err_and}
use Rattle.coll_lex.proofs.ScanRows.{differs, text_symbol_grows, text_symbol_ends, text_symbol_refused}
use Rattle.coll_lex.specs.Marked.{Plain}
use Rattle.coll_lex.proofs.scanning.Scan.take_in_text_symbol.Goals as goal

pub returns-then-c-ne62-clause-ok : goal.returns-then-c-ne62-clause-ok
returns-then-c-ne62-clause-ok c = λ comment.
    rw c.in_ok-push.ensures.ok (text_symbol_grows comment c.args.self.now (Plain c.args.c) c.requires (differs c.args.c 62 c.if-c-ne62.true))

pub returns-in_err-piece-clause-err : goal.returns-in_err-piece-clause-err
returns-in_err-piece-clause-err c =
    let p = err_from_is_err_and c.from_residual-in_err-piece.result c.from_residual-in_err-piece.ensures.1 in
    rw (p.1, p.2) (λ no comment. rw c.if-c-ne62.false (text_symbol_refused comment c.args.self.now c.in_err-piece.field-0.0 c.requires (c.in_err-piece.ensures.err no)))

pub returns-clause-ok : goal.returns-clause-ok
returns-clause-ok c = λ comment.
    rw (c.enter.ensures, c.in_ok-push-2.ensures.ok, c.in_ok-piece.ensures.after, c.if-c-ne62.false)
    (text_symbol_ends comment c.args.self.now c.in_ok-piece.piece c.requires c.in_ok-piece.ensures.ok)
