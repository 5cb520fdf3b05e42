-- The entry of what a name stands for tells why it may not stand in a weight.
use Rattle.std.proofs.Common.{chars, is_some, sym, ap, ◌∙◌}
use Rattle.coll_nodes.specs.TableLayout.{collation}
use Rattle.coll_surveys.proofs.WeightLemmas.{entry_cause, lent_own, undeclared_cause, unplaced_cause}
use Rattle.coll_surveys.proofs.table_weights.name_cause.Goals as goal

pub returns-then-is_some : goal.returns-then-is_some
returns-then-is_some c =
    let built = c.lemma_well_formed.ensures.well_formed.built in
    entry_cause (collation c.args.table.now) (chars c.args.name.now) built.meant built.distinct_names c.entry_of_name.result c.entry_of_name.ensures (sym c.is_some.ensures ∙ c.if-is_some.true)

pub returns-then-is_some-2 : goal.returns-then-is_some-2
returns-then-is_some-2 c =
    let built = c.lemma_well_formed.ensures.well_formed.built in
    unplaced_cause (collation c.args.table.now) (chars c.args.name.now) built.meant built.distinct_names c.entry_of_name.result c.entry_of_name.ensures (sym c.is_some.ensures ∙ c.if-is_some.false)
    (sym (ap is_some c.resolve.ensures) ∙ (lent_own c.resolve.result ∙ (sym c.is_some-2.ensures ∙ c.if-is_some-2.true)))

pub returns : goal.returns
returns c =
    let built = c.lemma_well_formed.ensures.well_formed.built in
    undeclared_cause (collation c.args.table.now) (chars c.args.name.now) built.meant built.distinct_names
    (sym (ap is_some c.resolve.ensures) ∙ (lent_own c.resolve.result ∙ (sym c.is_some-2.ensures ∙ c.if-is_some-2.false)))
