-- What is kept is what was given.
use Rattle.std.proofs.Common.{chars, length, refl, ap, ◌∙◌}
use Rattle.std.specs.Str.Iter.{chars_rest}
use Rattle.std.proofs.lemmas.Str.{chars_from_encodes}
use Rattle.coll_elements.proofs.named_elements.PlacedElement.new.Goals as goal

pub returns : goal.returns
returns c =
    let run = c.count-length.ensures.runs in
    let bytes = (c.chars.ensures.runs run.0 run.0.seen).1 run.2 ∙ ap chars_rest run.1 ∙ c.chars.ensures.rest in
    record {
      name_is = c.new.ensures ∙ ap chars c.in_ok-name.ensures.ok;
      text_is = c.new-2.ensures ∙ ap chars c.in_ok-text.ensures.ok;
      length_is = run.3 ∙ run.0.long ∙ ap length (chars_from_encodes run.0.items c.args.text.now c.utf8.text bytes);
      rank_is = refl;
    }
