use Rattle.std.proofs.Common.{◌∙◌}
use Rattle.coll_lex.proofs.SymbolLemmas.{no_code_in_nothing, no_code_without_u, no_code_in_few, no_code_in_many, code_in_digits}
use Rattle.coll_lex.proofs.names.code_point.Goals as goal

pub returns-in_err-first : goal.returns-in_err-first
returns-in_err-first c =
    let e = rw c.as_bytes.ensures.value at c.in_err-first.ensures.cases in
    c.from_residual.ensures ∙ no_code_in_nothing c.args.name.now c.utf8.name e

pub returns-then-first-ne85 : goal.returns-then-first-ne85
returns-then-first-ne85 c =
    let e = rw c.as_bytes.ensures.value at c.in_ok-first.ensures.cases in
    no_code_without_u c.args.name.now _ _ c.utf8.name e.0 c.if-first-ne85.true

pub returns-then-digits-lt4 : goal.returns-then-digits-lt4
returns-then-digits-lt4 c =
    let e = rw c.as_bytes.ensures.value at c.in_ok-first.ensures.cases in
    no_code_in_few c.args.name.now _ _ c.utf8.name e.0 c.if-first-ne85.false c.if-digits-lt4.true

pub returns-then-digits-gt8 : goal.returns-then-digits-gt8
returns-then-digits-gt8 c =
    let e = rw c.as_bytes.ensures.value at c.in_ok-first.ensures.cases in
    no_code_in_many c.args.name.now _ _ c.utf8.name e.0 c.if-first-ne85.false c.if-digits-lt4.false c.if-digits-gt8.true

pub returns : goal.returns
returns c =
    let e = rw c.as_bytes.ensures.value at c.in_ok-first.ensures.cases in
    c.hex_number.ensures ∙ code_in_digits c.args.name.now _ _ c.utf8.name e.0 c.if-first-ne85.false c.if-digits-lt4.false c.if-digits-gt8.false
