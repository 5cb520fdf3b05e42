use Rattle.std.proofs.Common.{length}
use denote.Shadow.{shadow}
use denote.Text.{Utf8}
use Rattle.coll_lex.specs.Scanning.{TakesPart}
use Rattle.coll_lex.proofs.scanning.Scan.take_line.Given as goal

abbrev pub invariant-parts : goal.invariant-parts
invariant-parts l = record {
  taken : TakesPart l.special l.initial.self l.line l.self l.rest;
  text : shadow (Utf8 l.rest);
}

abbrev pub decreases-parts : goal.decreases-parts
decreases-parts l = length l.rest
