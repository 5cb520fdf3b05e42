-- The first characters are the same element of both texts.
use Rattle.std.proofs.Common.{◌≡◌, ◌∙◌, length, chars, sym, ap, arith}
use Rattle.std.proofs.lemmas.Str.{chars_past_char}
use Rattle.coll_ranks.proofs.ElementNumbers.{same_first}
use Rattle.coll_ranks.proofs.ranks.Ranks.past_same.Goals as goal

pub returns-clause-same : goal.returns-clause-same
returns-clause-same c =
    let first = chars_past_char c.args.text.now c.next.new.self.rest.now c.in_ok-first.first c.utf8.text (sym c.chars-letters.ensures.rest ∙ c.in_ok-first.ensures.steps.0) in
    let second = chars_past_char c.args.other.now c.next-2.new.self.rest.now c.in_ok-second.second c.utf8.other (sym c.chars-others.ensures.rest ∙ c.in_ok-second.ensures.steps.0) in
    let same : c.in_ok-second.second ≡ c.in_ok-first.first = omega (arith, c.if-first-second.false) in
    rw (c.as_str.ensures, c.as_str-2.ensures, ← c.self.view_is) (same_first _ (chars c.args.text.now) (chars c.args.other.now) _ _ c.in_ok-first.first c.in_ok-second.second first second same
    (λ behind. c.may_begin_with.ensures behind c.if-may_begin_with.false))

pub returns-clause-shorter : goal.returns-clause-shorter
returns-clause-shorter c =
    let first = chars_past_char c.args.text.now c.next.new.self.rest.now c.in_ok-first.first c.utf8.text (sym c.chars-letters.ensures.rest ∙ c.in_ok-first.ensures.steps.0) in
    let one = ap length first in
    let same = ap (λ t. length (chars t)) c.as_str.ensures in
    omega (arith, one, same)
