-- The element at the beginning of a text is its longest element, or else its first character.
use Rattle.std.proofs.Common.{◌∙◌, length, chars, sym, ap, arith}
use Rattle.std.proofs.lemmas.Str.{chars_past_char}
use Rattle.coll_ranks.specs.Ranks.{elements_by_ranks}
use Rattle.coll_ranks.proofs.ElementNumbers.{element_first, characters_behind, some_characters, alone_first, character_first, no_elements, no_characters}
use Rattle.coll_ranks.proofs.ranks.Ranks.first_element.Goals as goal

pub returns-in_err-first-clause-elements : goal.returns-in_err-first-clause-elements
returns-in_err-first-clause-elements c =
    let none = no_characters c.args.text.now c.chars-letters.result.rest.now c.chars-letters.ensures.rest c.in_err-first.ensures.steps.0.0 in
    rw c.from_residual.ensures (ap (elements_by_ranks c.args.self.now) none ∙ no_elements c.args.self.now)

pub returns-in_err-first-clause-characters : goal.returns-in_err-first-clause-characters
returns-in_err-first-clause-characters c =
    rw c.from_residual.ensures (ap length (no_characters c.args.text.now c.chars-letters.result.rest.now c.chars-letters.ensures.rest c.in_err-first.ensures.steps.0.0))

pub returns-in-Some-clause-elements : goal.returns-in-Some-clause-elements
returns-in-Some-clause-elements c =
    let first = chars_past_char c.args.text.now c.next.new.self.rest.now c.in_ok-first.first c.utf8.text (sym c.chars-letters.ensures.rest ∙ c.in_ok-first.ensures.steps.0) in
    rw (← c.self.view_is) (element_first _ (chars c.args.text.now) c.in-Some.found (c.in-Some.ensures _ first))

pub returns-in-Some-clause-characters : goal.returns-in-Some-clause-characters
returns-in-Some-clause-characters c =
    let first = chars_past_char c.args.text.now c.next.new.self.rest.now c.in_ok-first.first c.utf8.text (sym c.chars-letters.ensures.rest ∙ c.in_ok-first.ensures.steps.0) in
    characters_behind _ (chars c.args.text.now) c.in-Some.found (c.in-Some.ensures _ first)

pub returns-in-Some-clause-some : goal.returns-in-Some-clause-some
returns-in-Some-clause-some c =
    let first = chars_past_char c.args.text.now c.next.new.self.rest.now c.in_ok-first.first c.utf8.text (sym c.chars-letters.ensures.rest ∙ c.in_ok-first.ensures.steps.0) in
    some_characters _ (chars c.args.text.now) c.in-Some.found (c.in-Some.ensures _ first)

pub returns-then-not-may_begin_with-clause-elements : goal.returns-then-not-may_begin_with-clause-elements
returns-then-not-may_begin_with-clause-elements c =
    let first = chars_past_char c.args.text.now c.next.new.self.rest.now c.in_ok-first.first c.utf8.text (sym c.chars-letters.ensures.rest ∙ c.in_ok-first.ensures.steps.0) in
    let element = rw (← c.self.view_is) at c.alone.ensures.element in
    rw (← c.self.view_is) (alone_first _ (chars c.args.text.now) _ (chars c.alone.result.rest.now) c.in_ok-first.first c.alone.result.element first
    (c.may_begin_with.ensures _ c.if-not-may_begin_with.true) element (ap chars (c.alone.ensures.rest ∙ c.as_str.ensures)))

pub returns-then-not-may_begin_with-clause-characters : goal.returns-then-not-may_begin_with-clause-characters
returns-then-not-may_begin_with-clause-characters c =
    let first = chars_past_char c.args.text.now c.next.new.self.rest.now c.in_ok-first.first c.utf8.text (sym c.chars-letters.ensures.rest ∙ c.in_ok-first.ensures.steps.0) in
    let one = ap length first in
    let same = ap (λ t. length (chars t)) (c.alone.ensures.rest ∙ c.as_str.ensures) in
    omega (arith, one, same, c.alone.ensures.characters)

pub returns-in-None-clause-elements : goal.returns-in-None-clause-elements
returns-in-None-clause-elements c =
    let first = chars_past_char c.args.text.now c.next.new.self.rest.now c.in_ok-first.first c.utf8.text (sym c.chars-letters.ensures.rest ∙ c.in_ok-first.ensures.steps.0) in
    let element = rw (← c.self.view_is) at c.alone-in-None.ensures.element in
    rw (← c.self.view_is) (character_first _ (chars c.args.text.now) _ (chars c.alone-in-None.result.rest.now) c.in_ok-first.first c.alone-in-None.result.element first (c.in-None.ensures _ first)
    element (ap chars (c.alone-in-None.ensures.rest ∙ c.as_str-in-None.ensures)))

pub returns-in-None-clause-characters : goal.returns-in-None-clause-characters
returns-in-None-clause-characters c =
    let first = chars_past_char c.args.text.now c.next.new.self.rest.now c.in_ok-first.first c.utf8.text (sym c.chars-letters.ensures.rest ∙ c.in_ok-first.ensures.steps.0) in
    let one = ap length first in
    let same = ap (λ t. length (chars t)) (c.alone-in-None.ensures.rest ∙ c.as_str-in-None.ensures) in
    omega (arith, one, same, c.alone-in-None.ensures.characters)
