-- Keys are ordered as their texts.
use Rattle.std.proofs.Common.{ℕ, List, chars, ap, ◌∙◌}
use Rattle.coll_nodes.specs.TableLayout.{collation}
use Rattle.coll_key.specs.SortKey.{key_of}
use Rattle.coll_key.specs.TextOrder.{list_order}
use Rattle.coll_reviews.proofs.word_orders.order_by_keys.Goals as goal

pub returns-clause-order : goal.returns-clause-order
returns-clause-order c =
    let table = collation c.args.table.now in
    c.cmp.ensures
    ∙ ap (λ (l : List ℕ). list_order l c.in_ok-other_key.other_key.items) c.in_ok-key.ensures
    ∙ ap (list_order (key_of table (chars c.args.text.now))) c.in_ok-other_key.ensures
    ∙ c.keys_are_ordered_as_texts.ensures table c.lemma_well_formed.ensures.well_formed (chars c.args.text.now) (chars c.args.other.now)
