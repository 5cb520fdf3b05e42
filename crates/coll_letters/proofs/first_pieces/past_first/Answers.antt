-- A text has one character more than what stands behind its first.
use Rattle.std.proofs.Common.{◌∙◌, suc, length, chars, sym, ap}
use Rattle.std.proofs.lemmas.Str.{chars_past_char}
use Rattle.coll_letters.proofs.first_pieces.past_first.Goals as goal

pub returns-clause-none : goal.returns-clause-none
returns-clause-none c =
    let first = chars_past_char c.args.text.now c.next.new.self.rest.now c.in_ok-next.field-0 c.utf8.text (sym c.chars-letters.ensures.rest ∙ c.in_ok-next.ensures.steps.0) in
    ap length first ∙ ap (λ t. suc (length (chars t))) (sym c.as_str.ensures)
