-- The characters taken from the text, one after another, are the characters that it has.
use Rattle.std.proofs.Common.{sym, ◌∙◌}
use Rattle.coll_syntax.proofs.Spellings.{two_chars, one_char}
use Rattle.coll_syntax.proofs.operands.only_char.Goals as goal

pub returns-in-Some : goal.returns-in-Some
returns-in-Some c = two_chars _ _ _ _ _ c.utf8.text (sym c.chars-rest.ensures.rest ∙ c.in_ok-first.ensures.steps.0) c.in-Some.ensures.steps.0

pub returns-in-None : goal.returns-in-None
returns-in-None c = one_char _ _ _ c.utf8.text (sym c.chars-rest.ensures.rest ∙ c.in_ok-first.ensures.steps.0) c.in-None.ensures.steps.0.0
