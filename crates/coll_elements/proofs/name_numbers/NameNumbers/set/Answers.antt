-- A text is put in where its name is.
use Rattle.std.proofs.Common.{sym, ap, ◌∙◌, chars}
use Rattle.std.specs.Prelude.{encode_utf8_all}
use Rattle.std.proofs.lemmas.Str.{encodes-chars}
use Rattle.coll_elements.specs.NameMaps.{AreKeys, IsText}
use Rattle.coll_elements.proofs.NameLookUps.{set_number, set_texts}
use Rattle.coll_elements.proofs.name_numbers.NameNumbers.set.Goals as goal

is_text : (c : goal.In_ok-insert) → IsText c.in_ok-text.text
is_text c = let same = c.in_ok-text.ensures.ok in ap (λ b. encode_utf8_all (chars b)) same ∙ (encodes-chars _ c.utf8.name ∙ sym same)

are_texts : (c : goal.In_ok-insert) → AreKeys IsText c.insert.new.self.entries
are_texts c =
    set_texts c.in_ok-insert.field-0 c.self.inside.numbers.entries c.insert.new.self.entries c.in_ok-text.text c.args.number c.in_ok-insert.ensures.entries c.self.invariant (is_text c)

pub invariant_of-self-2 : goal.invariant_of-self-2
invariant_of-self-2 c = are_texts c

pub returns : goal.returns
returns c =
    let same = ap chars c.in_ok-text.ensures.ok in
    rw (← c.self.view_is, ← same)
    (set_number c.self.inside.numbers.entries c.insert.new.self.entries c.in_ok-text.text c.args.number c.self.invariant (are_texts c) (is_text c) c.in_ok-insert.ensures.updates.1
    c.in_ok-insert.ensures.updates.3)
