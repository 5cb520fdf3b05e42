use Rattle.std.proofs.Common.{◌∙◌, sym}
use Rattle.coll_lex.proofs.DirectiveLemmas.{directive_comment, escape_directive, no_directive_in_nothing, no_comment_directive, no_escape_directive, no_directive}
use Rattle.coll_lex.proofs.directives.directive.Goals as goal

pub returns-in_err-first : goal.returns-in_err-first
returns-in_err-first c =
    let e = rw c.past_blanks-text.ensures at c.in_err-first.ensures.cases in
    c.from_residual.ensures ∙ no_directive_in_nothing c.args.special c.args.line.now e

pub returns-in_err-operand : goal.returns-in_err-operand
returns-in_err-operand c =
    let first = sym c.past_blanks-text.ensures ∙ c.in_ok-first.ensures.cases.0 in
    let h = rw c.past_blanks-text.ensures at c.in_err-operand.ensures in
    c.from_residual-in_err-operand.ensures ∙ no_comment_directive c.args.special c.args.line.now _ _ first c.if-first-eq99.true h

pub returns-then-first-eq99 : goal.returns-then-first-eq99
returns-then-first-eq99 c =
    let h = rw c.past_blanks-text.ensures at c.in_ok-operand.ensures in
    rw (c.with_comment.ensures, c.named_character.ensures, c.past_blanks.ensures) (sym (directive_comment _ _ _ h))

pub returns-in_err-operand-2 : goal.returns-in_err-operand-2
returns-in_err-operand-2 c =
    let first = sym c.past_blanks-text.ensures ∙ c.in_ok-first.ensures.cases.0 in
    let h = rw c.past_blanks-text.ensures at c.in_err-operand-2.ensures in
    c.from_residual-in_err-operand-2.ensures ∙ no_escape_directive c.args.special c.args.line.now _ _ first c.if-first-eq101.true h

pub returns-then-first-eq101 : goal.returns-then-first-eq101
returns-then-first-eq101 c =
    let first = sym c.past_blanks-text.ensures ∙ c.in_ok-first.ensures.cases.0 in
    let h = rw c.past_blanks-text.ensures at c.in_ok-operand-2.ensures in
    rw (c.with_escape.ensures, c.named_character-then-first-eq101.ensures, c.past_blanks-then-first-eq101.ensures) (escape_directive c.args.special c.args.line.now _ _ _ first c.if-first-eq101.true h)

pub returns : goal.returns
returns c =
    let first = sym c.past_blanks-text.ensures ∙ c.in_ok-first.ensures.cases.0 in
    no_directive c.args.special c.args.line.now _ _ first c.if-first-eq99.false c.if-first-eq101.false
