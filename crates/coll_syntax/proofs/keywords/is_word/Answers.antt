-- What `==` says of the bytes of a word and a keyword, the definition says of their characters.
use Rattle.std.proofs.Common.{◌∙◌}
use Rattle.coll_syntax.proofs.Spellings.{same_keyword}
use Rattle.coll_syntax.proofs.keywords.is_word.Goals as goal

pub returns-in-Word : goal.returns-in-Word
returns-in-Word c =
    rw c.in-Word.is (c.eq.ensures ∙ same_keyword _ _ _ c.get.ensures.bytes c.get.ensures.characters c.requires)
