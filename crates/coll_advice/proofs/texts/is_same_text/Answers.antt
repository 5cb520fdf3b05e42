-- Texts are compared by their bytes, which their characters give back.
use Rattle.std.proofs.Common.{sym, ◌∙◌}
use Rattle.std.proofs.lemmas.Str.{encodes-chars}
use Rattle.coll_syntax.proofs.Spellings.{same_spelling}
use Rattle.coll_advice.proofs.texts.is_same_text.Goals as goal

pub returns : goal.returns
returns c = c.eq.ensures ∙ sym (same_spelling c.args.text.now c.args.other.now (encodes-chars _ c.utf8.text) (encodes-chars _ c.utf8.other))
