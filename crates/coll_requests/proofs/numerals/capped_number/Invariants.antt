use Rattle.std.proofs.Common.{◌≡◌, min, take, true}
use Rattle.std.specs.List.{list_all}
use Rattle.coll_requests.specs.Numerals.{decimal_number, is_digit}
use Rattle.coll_requests.specs.declared.numerals.TheConstants.{PAST_NUMERALS}
use Rattle.coll_requests.proofs.numerals.capped_number.Given as goal

abbrev pub invariant-loop-digit : goal.invariant-loop-digit
invariant-loop-digit l = record {
  digits : list_all is_digit (take l.digit-index l.digits) ≡ true;
  value : l.number ≡ min (decimal_number (take l.digit-index l.digits)) PAST_NUMERALS;
}
