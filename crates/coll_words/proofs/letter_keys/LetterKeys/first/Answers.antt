-- What stands at the place is the character's.
use Rattle.std.proofs.Common.{All, arith, chars, get_or, refl, sym, subst}
use Rattle.coll_nodes.specs.TableLayout.{collation}
use Rattle.coll_letters.specs.ElementMarks.{IsApart}
use Rattle.coll_words.specs.LetterKeys.{IsLetterKey}
use Rattle.coll_letters.specs.declared.element_marks.ElementMarks.{ElementMarks}
use Rattle.coll_words.specs.declared.letter_keys.LetterKey.{LetterKey}
use Rattle.coll_words.proofs.LetterKeyLemmas.{begins_kept, plain_alone, plain_level}
use Rattle.coll_letters.proofs.MarkLemmas.{stands_apart}
use Rattle.coll_words.proofs.letter_keys.LetterKeys.first.Goals as goal

-- what stands behind the last
abbrev no_key : LetterKey
no_key = record { letter = 0; number = 0; row = record { first = 0; code = 0 } }

pub returns-then-number-gt0 : goal.returns-then-number-gt0
returns-then-number-gt0 c =
    let table = collation c.args.table.now in
    let weights = c.args.self.now.weights.made.weights in
    let kept = get_or c.deref-letters.result.now c.in_ok-place.field-0 no_key in
    let all : All (IsLetterKey table weights) c.deref-letters.result.now = subst (All (IsLetterKey table weights)) (sym c.deref-letters.ensures.value) c.requires.letters in
    let is : IsLetterKey table weights kept = all c.in_ok-place.field-0 no_key (omega (arith, c.if-place-letters.true)) in
    begins_kept table weights (chars c.args.text.now) c.in_ok-letter.letter kept _ (plain_level table.rules c.requires.plain) c.in_ok-letter.ensures c.if-kept-letter.true refl refl is
    (plain_alone table weights c.in_ok-letter.letter kept (chars c.in_ok-letter.rest.now) c.if-kept-letter.true is c.if-number-gt0.true)

pub returns-then-is_apart : goal.returns-then-is_apart
returns-then-is_apart c =
    let table = collation c.args.table.now in
    let weights = c.args.self.now.weights.made.weights in
    let kept = get_or c.deref-letters.result.now c.in_ok-place.field-0 no_key in
    let all : All (IsLetterKey table weights) c.deref-letters.result.now = subst (All (IsLetterKey table weights)) (sym c.deref-letters.ensures.value) c.requires.letters in
    let is : IsLetterKey table weights kept = all c.in_ok-place.field-0 no_key (omega (arith, c.if-place-letters.true)) in
    begins_kept table weights (chars c.args.text.now) c.in_ok-letter.letter kept _ (plain_level table.rules c.requires.plain) c.in_ok-letter.ensures c.if-kept-letter.true refl refl is
    (stands_apart table c.args.self.now.weights.marks c.requires.weights.marks c.in_ok-letter.letter (chars c.in_ok-letter.rest.now)
    (subst (λ (marks : ElementMarks). IsApart marks c.in_ok-letter.letter (chars c.in_ok-letter.rest.now)) c.marks.ensures (c.is_apart.ensures c.if-is_apart.true)))
