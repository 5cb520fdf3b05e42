-- A name has the number that its digits spell.
use Rattle.std.proofs.Common.{sym, ◌∙◌, arith}
use Rattle.coll_source_lines.proofs.NumberLemmas.{none_is_not, some_is}
use Rattle.coll_source_lines.proofs.RangeLemmas.{digits_name, name_digits, number_found}
use Rattle.coll_source_lines.proofs.ranges.NameRange.number.Goals as goal
use Rattle.coll_source_lines.proofs.ranges.NameRange.number.Goals.{then-number-self-via-then-number-self, then-number-self-via-else-number-self+then-self-number}

pub returns-in_err-digits-clause-found : goal.returns-in_err-digits-clause-found
returns-in_err-digits-clause-found c = λ n there named. absurd (c.in_err-digits.ensures.none _ (name_digits c.args.self.now c.args.name.now n c.utf8.name named))

pub returns-in_err-number-clause-found : goal.returns-in_err-number-clause-found
returns-in_err-number-clause-found c = λ n there named.
    none_is_not n (sym c.in_err-number.was ∙ number_found c.args.self.now c.args.name.now c.in_ok-digits.digits.now c.upper_number.result c.utf8.name c.in_ok-digits.ensures.some c.upper_number.ensures.found n there named)

pub returns-then-number-self-clause-found : goal.returns-then-number-self-clause-found
returns-then-number-self-clause-found c = λ n there named.
    let same = some_is _ _ (sym c.in_ok-number.was ∙ number_found c.args.self.now c.args.name.now c.in_ok-digits.digits.now c.upper_number.result c.utf8.name c.in_ok-digits.ensures.some c.upper_number.ensures.found n there named) in
    let first = there.first in
    let last = there.last in
    elim c.then-number-self.branch [
      | then-number-self-via-then-number-self w ↦ (let before = w.if-number-self.true in absurd (omega (arith, same, first, before)))
      | then-number-self-via-else-number-self+then-self-number w ↦ (let behind = w.if-self-number.true in absurd (omega (arith, same, last, behind)))
    ]

pub returns-clause-name : goal.returns-clause-name
returns-clause-name c = digits_name c.args.self.now c.args.name.now c.in_ok-digits.digits.now c.in_ok-number.number c.in_ok-digits.ensures.some c.in_ok-number.ensures.spells

pub returns-clause-found : goal.returns-clause-found
returns-clause-found c = λ n there named.
    sym c.in_ok-number.was ∙ number_found c.args.self.now c.args.name.now c.in_ok-digits.digits.now c.upper_number.result c.utf8.name c.in_ok-digits.ensures.some c.upper_number.ensures.found n there named
