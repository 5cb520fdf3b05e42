use Rattle.std.proofs.Common.{◌<◌, ◌≤◌, length}
use denote.Shadow.{shadow}
use denote.Text.{Utf8}
use Rattle.coll_lex.specs.Scanning.{TakesPart}
use Rattle.coll_lex.proofs.scanning.Scan.take_chars.Given as goal

abbrev pub invariant-chars : goal.invariant-chars
invariant-chars l = record {
  taken : TakesPart l.special l.fn.self l.text l.self l.rest;
  some : 0 < length l.rest;
  within : length l.rest ≤ length l.text;
  text : shadow (Utf8 l.rest);
}

abbrev pub decreases-chars : goal.decreases-chars
decreases-chars l = length l.rest
