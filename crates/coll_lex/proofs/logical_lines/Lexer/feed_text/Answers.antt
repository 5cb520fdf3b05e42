use Rattle.std.proofs.Common.{sym, ◌∙◌, refl}
use Rattle.std.proofs.lemmas.Result.{err_from_is_err_and}
use Rattle.coll_lex.proofs.FeedLemmas.{text_refused, text_starved, text_ends, text_ends_open, text_word_starved, text_goes_on, text_joined_starved, sound_more, sound_reads, some_open}
use Rattle.coll_lex.specs.Lexer.{line_in}
use Rattle.coll_lex.proofs.GatherLemmas.{where_refused}
use Rattle.coll_lex.proofs.logical_lines.Lexer.feed_text.Goals as goal

pub returns-in_err-take_line-clause-err : goal.returns-in_err-take_line-clause-err
returns-in_err-take_line-clause-err c =
    let p = err_from_is_err_and c.from_residual.result c.from_residual.ensures.1 in
    let sound = rw (← c.self.view_is) at c.requires.sound in
    rw (p.1, p.2, ← c.self.view_is) (λ cause. text_refused _ (line_in c.args.logical) c.args.logical.scan c.args.line.now c.args.bytes c.in_err-take_line.field-0.0 (sound_reads _ c.args.logical sound) (c.in_err-take_line.ensures.err cause))

pub returns-in_err-tokens-clause-err : goal.returns-in_err-tokens-clause-err
returns-in_err-tokens-clause-err c =
    let p = err_from_is_err_and c.from_residual-in_err-tokens.result c.from_residual-in_err-tokens.ensures.1 in
    let sound = rw (← c.self.view_is) at c.requires.sound in
    rw (p.1, p.2, ← c.self.view_is)
    (λ cause. text_ends_open _ (line_in c.args.logical) c.args.logical.scan c.args.line.now c.args.bytes c.take_line.new.self c.in_err-tokens.field-0.0 (sound_reads _ c.args.logical sound) c.in_ok-take_line.ensures.ok (sym c.if-not-goes_on.ensures)
    (c.in_err-tokens.ensures.err cause))

pub returns-then-not-goes_on-clause-ok : goal.returns-then-not-goes_on-clause-ok
returns-then-not-goes_on-clause-ok c =
    let sound = rw (← c.self.view_is) at c.requires.sound in
    rw (c.line_of.ensures, ← c.self.view_is)
    (text_ends _ (line_in c.args.logical) c.args.logical.scan c.args.line.now c.args.bytes c.take_line.new.self c.in_ok-tokens.tokens (sound_reads _ c.args.logical sound) c.in_ok-take_line.ensures.ok (sym c.if-not-goes_on.ensures) c.in_ok-tokens.ensures.ok)

pub invariant_of-self : goal.invariant_of-self
invariant_of-self c =
    let sound = rw (← c.self.view_is) at c.requires.sound in
    let line = rw c.as_bytes.ensures.value at c.in_ok-keep.ensures.line in
    record {
      counted = c.self.invariant.counted;
      opened = some_open c.keep.new.self _ (sound_more c.self.inside.special (line_in c.args.logical) c.args.logical.scan c.keep.new.self c.args.line.now c.args.bytes c.take_line.new.self (sound_reads _ c.args.logical sound) sound.text c.in_ok-take_line.ensures.ok
          c.utf8.line line c.in_ok-keep.ensures.scan c.requires.short);
    }

pub returns-clause-ok : goal.returns-clause-ok
returns-clause-ok c =
    let sound = rw (← c.self.view_is) at c.requires.sound in
    let line = rw c.as_bytes.ensures.value at c.in_ok-keep.ensures.line in
    rw (← c.self.view_is)
    (text_goes_on _ (line_in c.args.logical) c.args.logical.scan c.args.line.now c.args.bytes c.take_line.new.self (sound_reads _ c.args.logical sound) c.in_ok-take_line.ensures.ok (sym c.if-not-goes_on.ensures) ∙ rw line refl)

pub returns-in_err-take_line-clause-memory : goal.returns-in_err-take_line-clause-memory
returns-in_err-take_line-clause-memory c =
    let p = err_from_is_err_and c.from_residual.result c.from_residual.ensures.1 in
    let sound = rw (← c.self.view_is) at c.requires.sound in
    rw (p.1, p.2, ← c.self.view_is) (λ lack. text_starved _ (line_in c.args.logical) c.args.logical.scan c.args.line.now c.args.bytes (sound_reads _ c.args.logical sound) (c.in_err-take_line.ensures.memory lack))

pub returns-in_err-tokens-clause-memory : goal.returns-in_err-tokens-clause-memory
returns-in_err-tokens-clause-memory c =
    let p = err_from_is_err_and c.from_residual-in_err-tokens.result c.from_residual-in_err-tokens.ensures.1 in
    let sound = rw (← c.self.view_is) at c.requires.sound in
    rw (p.1, p.2, ← c.self.view_is)
    (λ lack. text_word_starved _ (line_in c.args.logical) c.args.logical.scan c.args.line.now c.args.bytes c.take_line.new.self (sound_reads _ c.args.logical sound) c.in_ok-take_line.ensures.ok (c.in_err-tokens.ensures.memory lack))

pub returns-in_err-keep-clause-memory : goal.returns-in_err-keep-clause-memory
returns-in_err-keep-clause-memory c =
    let sound = rw (← c.self.view_is) at c.requires.sound in
    where_refused _ _ (rw (← c.self.view_is) (text_joined_starved _ (line_in c.args.logical) c.args.logical.scan c.args.line.now c.args.bytes c.take_line.new.self (sound_reads _ c.args.logical sound) c.in_ok-take_line.ensures.ok (sym c.if-not-goes_on.ensures)))
