use Rattle.coll_lex.proofs.ScanRows.{comment_takes}
use Rattle.coll_lex.proofs.GatherLemmas.{where_refused, gathers_in_symbol, gathers_in_text, gathers_in_text_symbol}
use Rattle.coll_lex.specs.Marked.{Plain}
use Rattle.coll_lex.proofs.scanning.Scan.take_plain.Goals as goal

pub returns-in_ok-take_in_symbol-in-Symbol-clause-ok : goal.returns-in_ok-take_in_symbol-in-Symbol-clause-ok
returns-in_ok-take_in_symbol-in-Symbol-clause-ok c = c.in_ok-take_in_symbol-in-Symbol.ensures.ok c.args.comment

pub returns-in_ok-take_in_text_symbol-in-SymbolInText-clause-ok : goal.returns-in_ok-take_in_text_symbol-in-SymbolInText-clause-ok
returns-in_ok-take_in_text_symbol-in-SymbolInText-clause-ok c = c.in_ok-take_in_text_symbol-in-SymbolInText.ensures.ok c.args.comment

pub returns-in-Comment-clause-ok : goal.returns-in-Comment-clause-ok
returns-in-Comment-clause-ok c = comment_takes c.args.comment c.args.self.now (Plain c.args.c) c.in-Comment.is

pub returns-in_err-take_in_symbol-in-Symbol-clause-memory : goal.returns-in_err-take_in_symbol-in-Symbol-clause-memory
returns-in_err-take_in_symbol-in-Symbol-clause-memory c = where_refused _ _ (gathers_in_symbol c.args.comment c.args.self.now (Plain c.args.c) c.in-Symbol.is)

pub returns-in_err-take_in_text-in-Text-clause-memory : goal.returns-in_err-take_in_text-in-Text-clause-memory
returns-in_err-take_in_text-in-Text-clause-memory c = where_refused _ _ (gathers_in_text c.args.comment c.args.self.now (Plain c.args.c) c.in-Text.is)

pub returns-in_err-take_in_text_symbol-in-SymbolInText-clause-memory : goal.returns-in_err-take_in_text_symbol-in-SymbolInText-clause-memory
returns-in_err-take_in_text_symbol-in-SymbolInText-clause-memory c = where_refused _ _ (gathers_in_text_symbol c.args.comment c.args.self.now (Plain c.args.c) c.in-SymbolInText.is)
