-- One element more stands behind the others, linked, and is the last with its first character.
use Rattle.std.proofs.Common.{ℕ, ◌∙◌, ap, subst, chars}
use Rattle.coll_elements.proofs.ElementOrderGrowth.{order_with, strings_with}
use Rattle.coll_elements.specs.ElementOrder.{strings_in, IsLastBegun}
use Rattle.coll_elements.proofs.element_order.push_ordered.Goals as goal

pub returns-clause-order : goal.returns-clause-order
returns-clause-order c =
    let items = c.args.ordered.now.items in
    order_with _ _ _ _ _ _ _ _ _ _ c.requires.order c.requires.behind c.utf8.text c.requires.some (c.new.ensures ∙ ap chars c.in_ok-text.ensures.ok) c.first_character-first.ensures
    (subst (λ (n : ℕ). IsLastBegun (strings_in items) c.args.text.now n c.last_begun-among.result) (c.len.ensures ∙ c.args.ordered.now.ok.0)
    (subst (λ xs. IsLastBegun (strings_in xs) c.args.text.now c.len.result c.last_begun-among.result) c.deref.ensures.value c.last_begun-among.ensures))
    (c.in_ok-start_at.ensures, c.in_ok-set.ensures) (c.len-place_behind.ensures ∙ c.args.ordered.now.ok.0) c.in_ok-push.ensures.items

pub returns-clause-strings : goal.returns-clause-strings
returns-clause-strings c = strings_with _ _ _ _ c.utf8.text (c.new.ensures ∙ ap chars c.in_ok-text.ensures.ok) c.in_ok-push.ensures.items
