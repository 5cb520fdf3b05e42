use Rattle.std.proofs.Common.{◌≡◌, ◌+◌, ◌≤◌, IsUtf8, arith, sym, ap, ◌∙◌, refl}
use Rattle.std.proofs.lemmas.Result.{err_from_is_err_and}
use Rattle.std.proofs.lemmas.List.Elements.{All-nil}
use Rattle.coll_lex.specs.LogicalLines.{OpenLine}
use Rattle.coll_devices.specs.Limits.{most_line_bytes}
use Rattle.coll_lex.specs.Lexer.{line_in, empty_line, added}
use Rattle.coll_lex.proofs.FeedLemmas.{text_refused, text_starved, text_ends, text_ends_open, text_word_starved, text_goes_on, text_joined_starved, sound_more, fresh_from, some_open}
use Rattle.coll_lex.proofs.GatherLemmas.{where_refused}
use Rattle.coll_lex.proofs.logical_lines.Lexer.feed_alone.Goals as goal

pub take_line-requires : goal.take_line-requires
take_line-requires c = rw c.new-scan.ensures refl

pub returns-in_err-take_line-clause-err : goal.returns-in_err-take_line-clause-err
returns-in_err-take_line-clause-err c =
    let p = err_from_is_err_and c.from_residual.result c.from_residual.ensures.1 in
    rw (p.1, p.2, ← c.self.view_is)
    (λ cause. text_refused _ (empty_line c.args.number) c.new-scan.result c.args.line.now c.args.bytes c.in_err-take_line.field-0.0 (fresh_from _ _ _ c.new-scan.ensures) (c.in_err-take_line.ensures.err cause))

pub returns-in_err-take_line-clause-memory : goal.returns-in_err-take_line-clause-memory
returns-in_err-take_line-clause-memory c =
    let p = err_from_is_err_and c.from_residual.result c.from_residual.ensures.1 in
    rw (p.1, p.2, ← c.self.view_is) (λ lack. text_starved _ (empty_line c.args.number) c.new-scan.result c.args.line.now c.args.bytes (fresh_from _ _ _ c.new-scan.ensures) (c.in_err-take_line.ensures.memory lack))

pub returns-in_err-tokens-clause-err : goal.returns-in_err-tokens-clause-err
returns-in_err-tokens-clause-err c =
    let p = err_from_is_err_and c.from_residual-in_err-tokens.result c.from_residual-in_err-tokens.ensures.1 in
    rw (p.1, p.2, ← c.self.view_is)
    (λ cause. text_ends_open _ (empty_line c.args.number) c.new-scan.result c.args.line.now c.args.bytes c.take_line.new.self c.in_err-tokens.field-0.0 (fresh_from _ _ _ c.new-scan.ensures)
    c.in_ok-take_line.ensures.ok (sym c.if-not-goes_on.ensures) (c.in_err-tokens.ensures.err cause))

pub returns-in_err-tokens-clause-memory : goal.returns-in_err-tokens-clause-memory
returns-in_err-tokens-clause-memory c =
    let p = err_from_is_err_and c.from_residual-in_err-tokens.result c.from_residual-in_err-tokens.ensures.1 in
    rw (p.1, p.2, ← c.self.view_is)
    (λ lack. text_word_starved _ (empty_line c.args.number) c.new-scan.result c.args.line.now c.args.bytes c.take_line.new.self (fresh_from _ _ _ c.new-scan.ensures) c.in_ok-take_line.ensures.ok
    (c.in_err-tokens.ensures.memory lack))

pub returns-then-not-goes_on-clause-ok : goal.returns-then-not-goes_on-clause-ok
returns-then-not-goes_on-clause-ok c =
    rw (c.line_of.ensures, ← c.self.view_is)
    (text_ends _ (empty_line c.args.number) c.new-scan.result c.args.line.now c.args.bytes c.take_line.new.self c.in_ok-tokens.tokens (fresh_from _ _ _ c.new-scan.ensures) c.in_ok-take_line.ensures.ok
    (sym c.if-not-goes_on.ensures) c.in_ok-tokens.ensures.ok)

pub returns-in_err-keep-clause-memory : goal.returns-in_err-keep-clause-memory
returns-in_err-keep-clause-memory c =
    where_refused _ _
    (rw (← c.self.view_is)
    (text_joined_starved _ (empty_line c.args.number) c.new-scan.result c.args.line.now c.args.bytes c.take_line.new.self (fresh_from _ _ _ c.new-scan.ensures) c.in_ok-take_line.ensures.ok
    (sym c.if-not-goes_on.ensures)))

pub invariant_of-self : goal.invariant_of-self
invariant_of-self c =
    let copied = rw c.as_bytes.ensures.value at c.in_ok-keep.ensures.line in
    let line : line_in c.keep.new.self ≡ added (empty_line c.args.number) c.args.line.now c.args.bytes =
    copied ∙ ap (λ (o : OpenLine). added o c.args.line.now c.args.bytes) c.new-logical.ensures.line in
    let short : 0 + c.args.bytes ≤ most_line_bytes = omega (arith, c.requires) in
    let scan = rw c.new-logical.ensures.scan at c.in_ok-keep.ensures.scan in
    record {
      counted = c.self.invariant.counted;
      opened = some_open c.keep.new.self _ (sound_more c.self.inside.special (empty_line c.args.number) c.new-scan.result c.keep.new.self c.args.line.now c.args.bytes c.take_line.new.self
          (fresh_from _ _ _ c.new-scan.ensures) (All-nil IsUtf8) c.in_ok-take_line.ensures.ok c.utf8.line line scan short);
    }

pub returns-clause-ok : goal.returns-clause-ok
returns-clause-ok c =
    let copied = rw c.as_bytes.ensures.value at c.in_ok-keep.ensures.line in
    let line : line_in c.keep.new.self ≡ added (empty_line c.args.number) c.args.line.now c.args.bytes =
    copied ∙ ap (λ (o : OpenLine). added o c.args.line.now c.args.bytes) c.new-logical.ensures.line in
    rw (← c.self.view_is)
    (text_goes_on _ (empty_line c.args.number) c.new-scan.result c.args.line.now c.args.bytes c.take_line.new.self (fresh_from _ _ _ c.new-scan.ensures) c.in_ok-take_line.ensures.ok
    (sym c.if-not-goes_on.ensures) ∙ rw line refl)
