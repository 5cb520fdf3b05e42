-- The words are led, and then sorted.
use Rattle.std.proofs.Common.{Ok, ap, ◌∙◌}
use Rattle.coll_nodes.specs.TableLayout.{collation}
use Rattle.coll_reviews.specs.ListedWords.{led_by}
use Rattle.coll_reviews.proofs.SortedAgain.{anew_led}
use Rattle.coll_reviews.proofs.ListedLemmas.{led_in_place}
use Rattle.coll_reviews.proofs.listed_words.sort_by_order.Goals as goal

pub returns-then-branch-clause-sorted : goal.returns-then-branch-clause-sorted
returns-then-branch-clause-sorted c =
    let list = c.args.list.now in
    let led = led_in_place list.len list.items c.lead.new.list _ (c.lead.ensures ∙ ap (led_by 0) c.deref_mut.ensures.value) list.ok.0 in
    anew_led (collation c.args.table.now) list.items _ c.sort_moved_alone.new.list.items (Ok tt) led (c.in_ok-sort_moved_alone.ensures.sorted c.if-branch.true)

pub returns-clause-sorted : goal.returns-clause-sorted
returns-clause-sorted c =
    let list = c.args.list.now in
    let led = led_in_place list.len list.items c.lead.new.list _ (c.lead.ensures ∙ ap (led_by 0) c.deref_mut.ensures.value) list.ok.0 in
    anew_led (collation c.args.table.now) list.items c.sort_moved_alone.new.list.items c.sort_many.new.list.items c.sort_many.result (c.in_ok-sort_moved_alone.ensures.same c.if-branch.false ∙ led)
    c.sort_many.ensures.sorted
