use Rattle.std.proofs.Common.{◌≡◌, ◌∙◌, length, rules}
use Rattle.std.specs.Str.{chars}
use Rattle.std.proofs.lemmas.Str.{chars_from_encodes}
use Rattle.coll_lex.proofs.TextLemmas.{with_characters}
use Rattle.coll_syntax.proofs.elements.is_element_text.Goals as goal

pub returns : goal.returns
returns c =
    let n : c.count.result ≡ length (chars c.args.text.now) = search (rules, chars_from_encodes) in
    rw n at c.is_element_length.ensures ∙ with_characters _ c.args.text.now c.utf8.text
