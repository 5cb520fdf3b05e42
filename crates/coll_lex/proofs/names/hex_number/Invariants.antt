use Rattle.std.proofs.Common.{◌≡◌, min, take, true}
use Rattle.std.specs.List.{list_all}
use Rattle.coll_lex.specs.Tokens.{hex_number, is_hex_digit}
use Rattle.coll_lex.specs.declared.names.TheConstants.{PAST_CODE_POINTS}
use Rattle.coll_lex.proofs.names.hex_number.Given as goal

abbrev pub invariant-loop-digit : goal.invariant-loop-digit
invariant-loop-digit l = record {
  digits : list_all is_hex_digit (take l.digit-index l.digits) ≡ true;
  value : l.number ≡ min (hex_number (take l.digit-index l.digits)) PAST_CODE_POINTS;
}
