use Rattle.std.proofs.Common.{sym, ◌∙◌}
use Rattle.std.proofs.lemmas.Result.{err_from_is_err_and}
use Rattle.std.proofs.lemmas.Str.{chars_past_char}
use Rattle.coll_lex.proofs.ScanLines.{character_taken, character_refused, character_gathers}
use Rattle.coll_lex.proofs.scanning.Scan.take_one.Goals as goal

pub returns-in_err-take-clause-err : goal.returns-in_err-take-clause-err
returns-in_err-take-clause-err c =
    let p = err_from_is_err_and c.from_residual.result c.from_residual.ensures.1 in
    let first = chars_past_char c.args.text.now c.next.new.self.rest.now c.in-Some.c c.utf8.text (sym c.chars-letters.ensures.rest ∙ c.in-Some.ensures.steps.0) in
    rw (p.1, p.2) (λ no. character_refused c.args.special c.args.self.now c.args.text.now c.next.new.self.rest.now c.in-Some.c c.in_err-take.field-0.0 first (c.in_err-take.ensures.err no))

pub returns-in_err-take-clause-memory : goal.returns-in_err-take-clause-memory
returns-in_err-take-clause-memory c =
    let p = err_from_is_err_and c.from_residual.result c.from_residual.ensures.1 in
    let first = chars_past_char c.args.text.now c.next.new.self.rest.now c.in-Some.c c.utf8.text (sym c.chars-letters.ensures.rest ∙ c.in-Some.ensures.steps.0) in
    rw (p.1, p.2) (λ lack. character_gathers c.args.special c.args.self.now c.args.text.now c.next.new.self.rest.now c.in-Some.c first (c.in_err-take.ensures.memory lack))

pub returns-clause-ok : goal.returns-clause-ok
returns-clause-ok c =
    let first = chars_past_char c.args.text.now c.next.new.self.rest.now c.in-Some.c c.utf8.text (sym c.chars-letters.ensures.rest ∙ c.in-Some.ensures.steps.0) in
    rw c.as_str.ensures (character_taken c.args.special c.args.self.now c.take.new.self c.args.text.now c.next.new.self.rest.now c.in-Some.c first c.in_ok-take.ensures.ok)
