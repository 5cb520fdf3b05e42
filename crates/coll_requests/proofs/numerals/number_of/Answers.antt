-- The number of a text, by its bytes.
use Rattle.std.proofs.Common.{◌∙◌}
use Rattle.coll_requests.proofs.NumeralLemmas.{no_numeral_in_nothing, no_numeral_in_many, numeral_in_digits}
use Rattle.coll_requests.proofs.numerals.number_of.Goals as goal

pub returns-then-is_empty : goal.returns-then-is_empty
returns-then-is_empty c =
    let empty = rw c.as_bytes-digits.ensures.value at c.if-is_empty.ensures in
    no_numeral_in_nothing c.args.text.now c.utf8.text empty

pub returns-then-digits-gt9 : goal.returns-then-digits-gt9
returns-then-digits-gt9 c =
    let some = rw c.as_bytes-digits.ensures.value at c.if-is_empty.ensures in
    let many = rw c.as_bytes-digits.ensures.value at c.if-digits-gt9.true in
    no_numeral_in_many c.args.text.now c.utf8.text some many

pub returns : goal.returns
returns c =
    let some = rw c.as_bytes-digits.ensures.value at c.if-is_empty.ensures in
    let few = rw c.as_bytes-digits.ensures.value at c.if-digits-gt9.false in
    let given = rw c.as_bytes-digits.ensures.value at c.capped_number.ensures in
    given ∙ numeral_in_digits c.args.text.now c.utf8.text some few
