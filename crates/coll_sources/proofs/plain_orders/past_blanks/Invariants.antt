use Rattle.std.proofs.Common.{◌≡◌, chars}
use denote.Shadow.{shadow}
use denote.Text.{Utf8}
use Rattle.coll_lex.specs.Marked.{is_joined}
use Rattle.coll_lex.specs.PlainTexts.{plain_reading}
use Rattle.coll_sources.proofs.plain_orders.past_blanks.Given as goal

abbrev pub invariant-blanks : goal.invariant-blanks
invariant-blanks l = record {
  reads : plain_reading l.lexer.special l.rest ≡ plain_reading l.lexer.special l.text;
  ends : is_joined l.lexer.special.escape (chars l.rest) ≡ is_joined l.lexer.special.escape (chars l.text);
  text : shadow (Utf8 l.rest);
}
