-- Digit after digit is read.
use Rattle.std.proofs.Common.{◌<◌, length, rules}
use Rattle.std.proofs.lemmas.List.{take_more}
use Rattle.coll_source_lines.specs.NameRanges.{base_of}
use Rattle.coll_source_lines.proofs.NumberLemmas.{read_more, read_no_more, read_none}
use Rattle.coll_source_lines.proofs.ranges.upper_number.Goals as goal

pub loop-digit-init : goal.loop-digit-init
loop-digit-init c = read_none (base_of c.args.spelled) c.args.digits.now

pub returns-in_err-number-clause-found : goal.returns-in_err-number-clause-found
returns-in_err-number-clause-found c = λ n small short is.
    let at = c.loop-digit.digit-index in
    let within : at < length c.args.digits.now = search rules in
    read_no_more (base_of c.args.spelled) c.args.digits.now at c.loop-digit.number _ c.loop-digit.invariant within (take_more c.args.digits.now at _ within) c.with_digit.result
    c.with_digit.ensures.found c.in_err-number.was n small short is

pub loop-digit-preserved : goal.loop-digit-preserved
loop-digit-preserved c =
    let at = c.loop-digit.digit-index in
    let within : at < length c.args.digits.now = search rules in
    read_more (base_of c.args.spelled) c.args.digits.now at c.loop-digit.number _ c.loop-digit.invariant within (take_more c.args.digits.now at _ within) c.with_digit.result
    c.with_digit.ensures.found c.in_ok-number.number c.in_ok-number.was c.in_ok-number.ensures.spells.0 c.in_ok-number.ensures.spells.1
