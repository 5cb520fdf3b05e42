-- Each entry that is met has its weights by own names, or gets a change.
use Rattle.std.proofs.Common.{List, [], ◌∷◌, sym, ap, subst, ◌∙◌}
use Rattle.std.specs.List.{list_any}
use Rattle.coll_nodes.specs.OwnNames.{names_second}
use Rattle.coll_nodes.specs.TableLayout.{declared_at}
use Rattle.coll_nodes.specs.WalkItems.{visited_by}
use Rattle.coll_nodes.specs.declared.walks.WalkItem.{WalkItem}
use Rattle.coll_texts.specs.declared.own_weights.Change.{Change}
use Rattle.coll_texts.proofs.OwnChanges.{IsGathered, none_gathered, gathered_section, visited_stands, gathered_same, gathered_more}
use Rattle.coll_texts.proofs.own_weights.changes_of.Goals as goal

pub loop-item-init : goal.loop-item-init
loop-item-init c =
    let layout = c.args.body.now.layout in
    subst (λ (items : List Change). IsGathered layout items c.into_iter-item-iterator.result) (sym c.new-changes.ensures.items)
    (subst (IsGathered layout []) (sym (c.into_iter-item-iterator.ensures.into_iter_gives ∙ c.walk-item-items.ensures)) (none_gathered layout c.lemma_layout.ensures.shaped))

pub loop-item-preserved-in-Section : goal.loop-item-preserved-in-Section
loop-item-preserved-in-Section c =
    let layout = c.args.body.now.layout in
    gathered_section layout c.loop-item.changes.items _ c.next.new.self
    (subst (λ (item : WalkItem). IsGathered layout c.loop-item.changes.items (visited_by item ∷ c.next.new.self)) c.in-Section.is
    (subst (IsGathered layout c.loop-item.changes.items) c.in-Some.ensures.steps c.loop-item.invariant))

pub loop-item-preserved-then-not-have_second_names : goal.loop-item-preserved-then-not-have_second_names
loop-item-preserved-then-not-have_second_names c =
    let layout = c.args.body.now.layout in
    gathered_same layout c.lemma_layout.ensures.sound.ids c.loop-item.changes.items c.in-Entry.entry.now c.next.new.self
    (subst (λ (item : WalkItem). IsGathered layout c.loop-item.changes.items (visited_by item ∷ c.next.new.self)) c.in-Entry.is
    (subst (IsGathered layout c.loop-item.changes.items) c.in-Some.ensures.steps c.loop-item.invariant))
    (ap (list_any (names_second (declared_at layout))) (sym c.weights.ensures) ∙ (sym c.have_second_names.ensures ∙ c.if-not-have_second_names.true))

pub change_of-requires : goal.change_of-requires
change_of-requires c =
    let layout = c.args.body.now.layout in
    visited_stands layout c.lemma_layout.ensures.sound.ids c.loop-item.changes.items c.in-Entry.entry.now c.next.new.self
    (subst (λ (item : WalkItem). IsGathered layout c.loop-item.changes.items (visited_by item ∷ c.next.new.self)) c.in-Entry.is
    (subst (IsGathered layout c.loop-item.changes.items) c.in-Some.ensures.steps c.loop-item.invariant))

pub loop-item-preserved : goal.loop-item-preserved
loop-item-preserved c =
    let layout = c.args.body.now.layout in
    subst (λ (items : List Change). IsGathered layout items c.next.new.self) (sym c.in_ok-push.ensures.items)
    (gathered_more layout c.lemma_layout.ensures.sound.ids c.loop-item.changes.items c.in-Entry.entry.now c.next.new.self
    (subst (λ (item : WalkItem). IsGathered layout c.loop-item.changes.items (visited_by item ∷ c.next.new.self)) c.in-Entry.is
    (subst (IsGathered layout c.loop-item.changes.items) c.in-Some.ensures.steps c.loop-item.invariant)) c.in_ok-change_of.field-0 c.in_ok-change_of.ensures)
