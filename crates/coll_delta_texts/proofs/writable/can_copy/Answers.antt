use Rattle.std.proofs.Common.{sym, ◌∙◌}
use Rattle.std.specs.Str.{chars}
use Rattle.coll_lex.proofs.TextLemmas.{with_characters}
use Rattle.coll_delta_texts.proofs.WritableTests.{long_is_none, short_by_characters}
use Rattle.coll_delta_texts.proofs.writable.can_copy.Goals as goal

pub returns-then-is_long : goal.returns-then-is_long
returns-then-is_long c = long_is_none (chars c.args.text.now) (sym c.is_long.ensures ∙ c.if-is_long.true)

pub returns : goal.returns
returns c =
    c.has_no_control.ensures ∙ short_by_characters (chars c.args.text.now) (sym c.is_long.ensures ∙ c.if-is_long.false) ∙ with_characters _ c.args.text.now c.utf8.text
