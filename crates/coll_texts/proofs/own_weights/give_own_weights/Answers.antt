-- Behind the exchange all entries have their weights by own names, and so they have where no second name is declared.
use Rattle.std.proofs.Common.{sym, subst, ◌∙◌}
use Rattle.coll_texts.specs.OwnWeights.{HasOwnWeights}
use Rattle.coll_texts.proofs.OwnChanges.{changes_own, changes_stand, plain_own}
use Rattle.coll_texts.proofs.own_weights.give_own_weights.Goals as goal

pub returns-then-not-has_second_names-clause-ok : goal.returns-then-not-has_second_names-clause-ok
returns-then-not-has_second_names-clause-ok c = plain_own c.args.body.now.layout (sym c.has_second_names.ensures ∙ c.if-not-has_second_names.true)

pub exchange_all-requires : goal.exchange_all-requires
exchange_all-requires c = changes_stand c.args.body.now.layout c.in_ok-changes.changes.items c.in_ok-changes.ensures

pub returns-clause-ok : goal.returns-clause-ok
returns-clause-ok c = subst (HasOwnWeights c.args.body.now.layout) (sym c.exchange_all.ensures)
    (changes_own c.args.body.now.layout c.in_ok-changes.changes.items c.lemma_layout.ensures.shaped c.in_ok-changes.ensures)
