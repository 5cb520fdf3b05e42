use Rattle.std.proofs.Common.{sym}
use Rattle.coll_lex.specs.Marked.{Plain}
use Rattle.coll_lex.proofs.ScanRows.{differs, no_separator, symbol_begins_outside, blank_outside, semicolon_outside, comma_outside, comment_outside, text_begins, word_grows}
use Rattle.coll_lex.proofs.GatherLemmas.{on_refusal, gathers_in_word, bracket_gathers, semicolon_gathers, comma_gathers, quotation_gathers, letter_gathers}
use Rattle.coll_lex.proofs.scanning.Scan.take_outside.Goals as goal

pub returns-then-c-eq60-clause-ok : goal.returns-then-c-eq60-clause-ok
returns-then-c-eq60-clause-ok c =
    rw (c.enter.ensures, c.in_ok-end_word.ensures.ok, c.if-c-eq60.true) (symbol_begins_outside c.args.comment c.args.self.now c.requires)

pub returns-then-is_blank-clause-ok : goal.returns-then-is_blank-clause-ok
returns-then-is_blank-clause-ok c =
    rw c.in_ok-end_word-2.ensures.ok (blank_outside c.args.comment c.args.self.now c.args.c c.requires c.if-c-eq60.false (sym c.if-is_blank.ensures))

pub returns-then-c-eq59-clause-ok : goal.returns-then-c-eq59-clause-ok
returns-then-c-eq59-clause-ok c =
    rw (c.in_ok-separate.ensures, c.if-c-eq59.true) (semicolon_outside c.args.comment c.args.self.now c.requires)

pub returns-then-c-eq44-clause-ok : goal.returns-then-c-eq44-clause-ok
returns-then-c-eq44-clause-ok c =
    rw (c.in_ok-separate-2.ensures, c.if-c-eq44.true) (comma_outside c.args.comment c.args.self.now c.requires)

pub returns-then-c-comment-clause-ok : goal.returns-then-c-comment-clause-ok
returns-then-c-comment-clause-ok c =
    let n = no_separator c.args.c c.if-c-eq60.false (sym c.if-is_blank.ensures) c.if-c-eq59.false c.if-c-eq44.false in
    rw (c.enter-then-c-comment.ensures, c.in_ok-end_word-3.ensures.ok) (comment_outside c.args.comment c.args.self.now c.args.c c.requires c.if-c-comment.true n)

pub returns-then-c-eq34-clause-ok : goal.returns-then-c-eq34-clause-ok
returns-then-c-eq34-clause-ok c =
    let ne = rw c.if-c-eq34.true at c.if-c-comment.false in
    rw (c.in_ok-begin_text.ensures, c.if-c-eq34.true) (text_begins c.args.comment c.args.self.now c.requires (differs 34 c.args.comment ne))

pub returns-clause-ok : goal.returns-clause-ok
returns-clause-ok c =
    let n = no_separator c.args.c c.if-c-eq60.false (sym c.if-is_blank.ensures) c.if-c-eq59.false c.if-c-eq44.false in
    rw c.in_ok-push.ensures.ok
    (word_grows c.args.comment c.args.self.now c.args.c c.requires n (differs c.args.c c.args.comment c.if-c-comment.false) (differs c.args.c 34 c.if-c-eq34.false))

pub returns-in_err-end_word-clause-memory : goal.returns-in_err-end_word-clause-memory
returns-in_err-end_word-clause-memory c = rw c.if-c-eq60.true (on_refusal _ _ (bracket_gathers c.args.comment c.args.self.now c.requires))

pub returns-in_err-end_word-2-clause-memory : goal.returns-in_err-end_word-2-clause-memory
returns-in_err-end_word-2-clause-memory c = on_refusal _ _ (gathers_in_word c.args.comment c.args.self.now (Plain c.args.c) c.requires c.in_err-end_word-2.ensures.memory)

pub returns-in_err-separate-clause-memory : goal.returns-in_err-separate-clause-memory
returns-in_err-separate-clause-memory c = rw c.if-c-eq59.true (on_refusal _ _ (semicolon_gathers c.args.comment c.args.self.now c.requires))

pub returns-in_err-separate-2-clause-memory : goal.returns-in_err-separate-2-clause-memory
returns-in_err-separate-2-clause-memory c = rw c.if-c-eq44.true (on_refusal _ _ (comma_gathers c.args.comment c.args.self.now c.requires))

pub returns-in_err-end_word-3-clause-memory : goal.returns-in_err-end_word-3-clause-memory
returns-in_err-end_word-3-clause-memory c = on_refusal _ _ (gathers_in_word c.args.comment c.args.self.now (Plain c.args.c) c.requires c.in_err-end_word-3.ensures.memory)

pub returns-in_err-begin_text-clause-memory : goal.returns-in_err-begin_text-clause-memory
returns-in_err-begin_text-clause-memory c =
    let ne = rw c.if-c-eq34.true at c.if-c-comment.false in
    rw c.if-c-eq34.true (on_refusal _ _ (quotation_gathers c.args.comment c.args.self.now c.requires (differs 34 c.args.comment ne)))

pub returns-in_err-push-clause-memory : goal.returns-in_err-push-clause-memory
returns-in_err-push-clause-memory c =
    let n = no_separator c.args.c c.if-c-eq60.false (sym c.if-is_blank.ensures) c.if-c-eq59.false c.if-c-eq44.false in
    on_refusal _ _ (letter_gathers c.args.comment c.args.self.now c.args.c c.requires n (differs c.args.c c.args.comment c.if-c-comment.false) (differs c.args.c 34 c.if-c-eq34.false))
