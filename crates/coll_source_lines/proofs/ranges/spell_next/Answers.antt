-- The last character leaves, and the last digit stands in its place.
use Rattle.std.proofs.Common.{◌≡◌, ◌++◌, ◌∷◌, [], chars, string_bytes, ap, ◌∙◌, arith, sym}
use Rattle.std.proofs.lemmas.Str.{IsUtf8-string_bytes, chars-nil}
use Rattle.coll_lex.proofs.TextLemmas.{chars_push}
use Rattle.coll_lex.specs.Spelling.{hex_digit}
use Rattle.coll_source_lines.proofs.DigitLemmas.{ascii_is_scalar, ends_with_some, next_name}
use Rattle.coll_source_lines.proofs.ranges.spell_next.Goals as goal

pub returns-clause-first : goal.returns-clause-first
returns-clause-first c = λ empty.
    let old = string_bytes c.args.name.now in
    let front = string_bytes c.pop.new.self in
    let before = c.in-Some.before in
    let split : chars old ≡ chars front ++ before ∷ [] = ap chars c.in-Some.ensures.bytes ∙ chars_push front before (IsUtf8-string_bytes c.pop.new.self) (ascii_is_scalar before (omega (arith, c.if-before-gt127.false))) in
    absurd (ends_with_some (chars front) before (sym chars-nil ∙ (sym (ap chars empty) ∙ split)))

pub returns-clause-next : goal.returns-clause-next
returns-clause-next c = λ named.
    let old = string_bytes c.args.name.now in
    let front = string_bytes c.pop.new.self in
    let before = c.in-Some.before in
    let split : chars old ≡ chars front ++ before ∷ [] = ap chars c.in-Some.ensures.bytes ∙ chars_push front before (IsUtf8-string_bytes c.pop.new.self) (ascii_is_scalar before (omega (arith, c.if-before-gt127.false))) in
    let pushed = chars_push front c.digit.result (IsUtf8-string_bytes c.pop.new.self) (ascii_is_scalar c.digit.result c.digit.ensures.ascii) in
    let is = next_name c.args.range.now c.args.number (chars old) (chars front) before c.if-range-eq0.false (λ e. c.if-last-eq0.false (c.last-last.ensures.value ∙ e)) split named in
    ap chars c.in_ok-push.ensures.bytes ∙ (pushed ∙ (ap (λ d. chars front ++ d ∷ []) (c.digit.ensures.value ∙ ap hex_digit c.last-last.ensures.value) ∙ is))
