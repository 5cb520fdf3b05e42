use Rattle.std.proofs.Common.{refl}
use Rattle.coll_lex.proofs.ScanRows.{symbol_grows, text_symbol_grows, comment_takes}
use Rattle.coll_lex.proofs.GatherLemmas.{where_refused, gathers_in_symbol, gathers_in_text, gathers_in_text_symbol, literal_gathers}
use Rattle.coll_lex.specs.Marked.{Literal}
use Rattle.coll_lex.proofs.scanning.Scan.take_literal.Goals as goal

pub returns-in_ok-push-in-Symbol-clause-ok : goal.returns-in_ok-push-in-Symbol-clause-ok
returns-in_ok-push-in-Symbol-clause-ok c = λ comment.
    rw c.in_ok-push-in-Symbol.ensures.ok (symbol_grows comment c.args.self.now (Literal c.args.c) c.in-Symbol.is refl)

pub returns-in_ok-push-in-SymbolInText-clause-ok : goal.returns-in_ok-push-in-SymbolInText-clause-ok
returns-in_ok-push-in-SymbolInText-clause-ok c = λ comment.
    rw c.in_ok-push-in-SymbolInText.ensures.ok (text_symbol_grows comment c.args.self.now (Literal c.args.c) c.in-SymbolInText.is refl)

pub returns-in-Comment-clause-ok : goal.returns-in-Comment-clause-ok
returns-in-Comment-clause-ok c = λ comment. comment_takes comment c.args.self.now (Literal c.args.c) c.in-Comment.is

pub returns-in_err-take_literal_outside-in-Plain-clause-memory : goal.returns-in_err-take_literal_outside-in-Plain-clause-memory
returns-in_err-take_literal_outside-in-Plain-clause-memory c = where_refused _ _ (λ comment. literal_gathers comment c.args.self.now c.args.c c.in-Plain.is)

pub returns-in_err-push-in-Symbol-clause-memory : goal.returns-in_err-push-in-Symbol-clause-memory
returns-in_err-push-in-Symbol-clause-memory c = where_refused _ _ (λ comment. gathers_in_symbol comment c.args.self.now (Literal c.args.c) c.in-Symbol.is)

pub returns-in_err-take_literal_in_text-in-Text-clause-memory : goal.returns-in_err-take_literal_in_text-in-Text-clause-memory
returns-in_err-take_literal_in_text-in-Text-clause-memory c = where_refused _ _ (λ comment. gathers_in_text comment c.args.self.now (Literal c.args.c) c.in-Text.is)

pub returns-in_err-push-in-SymbolInText-clause-memory : goal.returns-in_err-push-in-SymbolInText-clause-memory
returns-in_err-push-in-SymbolInText-clause-memory c = where_refused _ _ (λ comment. gathers_in_text_symbol comment c.args.self.now (Literal c.args.c) c.in-SymbolInText.is)
