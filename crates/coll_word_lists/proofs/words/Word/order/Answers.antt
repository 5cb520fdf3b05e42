-- The first numbers decide, or the keys do.
use Rattle.std.proofs.Common.{ℕ, List, sym, ap, ◌∙◌}
use Rattle.coll_key.specs.TextOrder.{list_order}
use Rattle.coll_word_lists.specs.LedWords.{lead_of}
use Rattle.coll_word_lists.proofs.LeadLemmas.{led_less, led_greater}
use Rattle.coll_word_lists.proofs.words.Word.order.Goals as goal

pub returns-in-Less : goal.returns-in-Less
returns-in-Less c =
    let key = c.self.inside.key.items in
    let other = c.other.inside.key.items in
    rw (← c.self.view_is, ← c.other.view_is)
    (led_less key other (ap (λ (first : List ℕ). list_order first (lead_of other)) (sym c.self.invariant) ∙ ap (list_order c.self.inside.lead) (sym c.other.invariant)
    ∙ sym c.cmp.ensures ∙ c.in-Less.is))

pub returns-in-Greater : goal.returns-in-Greater
returns-in-Greater c =
    let key = c.self.inside.key.items in
    let other = c.other.inside.key.items in
    rw (← c.self.view_is, ← c.other.view_is)
    (led_greater key other (ap (λ (first : List ℕ). list_order first (lead_of other)) (sym c.self.invariant) ∙ ap (list_order c.self.inside.lead) (sym c.other.invariant)
    ∙ sym c.cmp.ensures ∙ c.in-Greater.is))
