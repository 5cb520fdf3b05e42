use Rattle.std.proofs.Common.{◌≡◌, refl, ap, sym}
use Rattle.std.proofs.lemmas.Result.{err_from_is_err_and}
use Rattle.coll_lex.specs.LogicalLines.{LexerState}
use Rattle.coll_lex.proofs.FeedLemmas.{fed_faulty, fed_first_no_text, fed_first, taken_as}
use Rattle.coll_lex.proofs.HeldText.{none_text}
use Rattle.coll_lex.proofs.NameLemmas.{answered_tokens}
use Rattle.coll_lex.proofs.logical_lines.Lexer.feed_first.Goals as goal

pub returns-in_err-bytes-clause-err : goal.returns-in_err-bytes-clause-err
returns-in_err-bytes-clause-err c =
    let p = err_from_is_err_and c.from_residual.result c.from_residual.ensures.1 in
    rw (p.1, p.2) (λ _. fed_faulty c.args.self.now c.args.line.now _ c.in_err-bytes.field-0.0 (rw c.requires refl) c.in_err-bytes.ensures.err)

pub returns-in_err-text-clause-err : goal.returns-in_err-text-clause-err
returns-in_err-text-clause-err c =
    let p = err_from_is_err_and c.from_residual-in_err-text.result c.from_residual-in_err-text.ensures.1 in
    let wrong = rw c.in_ok-bytes.ensures.ok at c.in_err-text.ensures.err.1 in
    rw (p.1, p.2, c.in_err-text.ensures.err.0) (λ _. fed_first_no_text c.args.self.now c.args.line.now (sym c.requires) c.in_ok-bytes.ensures.passes wrong)

pub returns-clause-ok : goal.returns-clause-ok
returns-clause-ok c =
    let text = rw c.in_ok-bytes.ensures.ok at c.in_ok-text.ensures.ok.1 in
    let count : c.self.inside.count ≡ c.args.self.now.count = ap (λ (s : LexerState). s.count) c.self.view_is in
    let f = rw (c.in_ok-bytes.ensures.counted, c.in_ok-text.ensures.ok.0, c.in_ok-bytes.ensures.ok, count) at c.feed_apart.ensures.ok in
    rw (fed_first c.args.self.now c.args.line.now (sym c.requires) c.in_ok-bytes.ensures.passes text) f

pub returns-clause-err : goal.returns-clause-err
returns-clause-err c =
    let text = rw c.in_ok-bytes.ensures.ok at c.in_ok-text.ensures.ok.1 in
    let count : c.self.inside.count ≡ c.args.self.now.count = ap (λ (s : LexerState). s.count) c.self.view_is in
    let f = rw (c.in_ok-bytes.ensures.counted, c.in_ok-text.ensures.ok.0, c.in_ok-bytes.ensures.ok, count) at c.feed_apart.ensures.err in
    rw (fed_first c.args.self.now c.args.line.now (sym c.requires) c.in_ok-bytes.ensures.passes text) f

pub returns-clause-memory : goal.returns-clause-memory
returns-clause-memory c =
    let text = rw c.in_ok-bytes.ensures.ok at c.in_ok-text.ensures.ok.1 in
    let count : c.self.inside.count ≡ c.args.self.now.count = ap (λ (s : LexerState). s.count) c.self.view_is in
    let f = rw (c.in_ok-bytes.ensures.counted, c.in_ok-text.ensures.ok.0, c.in_ok-bytes.ensures.ok, count) at c.feed_apart.ensures.memory in
    rw (taken_as c.args.self.now c.args.line.now, fed_first c.args.self.now c.args.line.now (sym c.requires) c.in_ok-bytes.ensures.passes text) f

pub returns-clause-tokens : goal.returns-clause-tokens
returns-clause-tokens c =
    answered_tokens c.args.self.now _ c.args.line.now c.feed_apart.result (none_text c.args.self.now (sym c.requires)) (returns-clause-ok c)
