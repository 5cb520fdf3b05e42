use Rattle.std.proofs.Common.{refl}
use Rattle.std.proofs.lemmas.Result.{err_from_is_err_and}
use Rattle.coll_lex.proofs.FeedLemmas.{fed_faulty, fed_next_no_text, fed_next, taken_as}
use Rattle.coll_lex.proofs.HeldText.{open_text}
use Rattle.coll_lex.proofs.NameLemmas.{answered_tokens}
use Rattle.coll_lex.proofs.logical_lines.Lexer.feed_next.Goals as goal

pub returns-in_err-bytes-clause-err : goal.returns-in_err-bytes-clause-err
returns-in_err-bytes-clause-err c =
    let p = err_from_is_err_and c.from_residual.result c.from_residual.ensures.1 in
    let e = rw c.take_open.ensures.after at c.in_err-bytes.ensures.err in
    rw (p.1, p.2) (λ _. fed_faulty c.args.self.now c.args.line.now _ c.in_err-bytes.field-0.0 (rw (← c.in-Some.ensures.line) refl) e)

pub returns-in_err-text-clause-err : goal.returns-in_err-text-clause-err
returns-in_err-text-clause-err c =
    let p = err_from_is_err_and c.from_residual-in_err-text.result c.from_residual-in_err-text.ensures.1 in
    let e = rw c.take_open.ensures.after at c.in_ok-bytes.ensures.passes in
    let wrong = rw c.in_ok-bytes.ensures.ok at c.in_err-text.ensures.err.1 in
    rw (p.1, p.2, c.in_err-text.ensures.err.0) (λ _. fed_next_no_text c.args.self.now c.args.line.now c.in-Some.open c.in-Some.ensures.line e wrong)

pub returns-clause-ok : goal.returns-clause-ok
returns-clause-ok c =
    let e = rw c.take_open.ensures.after at c.in_ok-bytes.ensures.passes in
    let text = rw c.in_ok-bytes.ensures.ok at c.in_ok-text.ensures.ok.1 in
    let f = rw (c.in_ok-bytes.ensures.counted, c.take_open.ensures.after, c.in_ok-text.ensures.ok.0, c.in_ok-bytes.ensures.ok) at c.feed_text.ensures.ok in
    rw (fed_next c.args.self.now c.args.line.now c.in-Some.open c.in-Some.ensures.line e text) f

pub returns-clause-err : goal.returns-clause-err
returns-clause-err c =
    let e = rw c.take_open.ensures.after at c.in_ok-bytes.ensures.passes in
    let text = rw c.in_ok-bytes.ensures.ok at c.in_ok-text.ensures.ok.1 in
    let f = rw (c.in_ok-bytes.ensures.counted, c.take_open.ensures.after, c.in_ok-text.ensures.ok.0, c.in_ok-bytes.ensures.ok) at c.feed_text.ensures.err in
    rw (fed_next c.args.self.now c.args.line.now c.in-Some.open c.in-Some.ensures.line e text) f

pub returns-clause-memory : goal.returns-clause-memory
returns-clause-memory c =
    let e = rw c.take_open.ensures.after at c.in_ok-bytes.ensures.passes in
    let text = rw c.in_ok-bytes.ensures.ok at c.in_ok-text.ensures.ok.1 in
    let f = rw (c.in_ok-bytes.ensures.counted, c.take_open.ensures.after, c.in_ok-text.ensures.ok.0, c.in_ok-bytes.ensures.ok) at c.feed_text.ensures.memory in
    rw (taken_as c.args.self.now c.args.line.now, fed_next c.args.self.now c.args.line.now c.in-Some.open c.in-Some.ensures.line e text) f

pub returns-clause-tokens : goal.returns-clause-tokens
returns-clause-tokens c =
    answered_tokens c.args.self.now _ c.args.line.now c.feed_text.result (open_text c.args.self.now c.in-Some.open c.in-Some.ensures.line c.in-Some.ensures.sound.text)
    (returns-clause-ok c)
