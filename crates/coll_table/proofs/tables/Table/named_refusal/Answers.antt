-- Each turn of the loop leaves the first refusal among what is left, or finds it.
use Rattle.std.proofs.Common.{refl}
use Rattle.coll_nodes.specs.Entries.{weight_ids}
use Rattle.coll_table.specs.Judging.{id_refusal, ids_refusal}
use Rattle.coll_nodes.specs.TableLayout.{collation}
use Rattle.coll_texts.proofs.FirstCauses.{first_found, first_left}
use Rattle.coll_table.proofs.tables.Table.named_refusal.Goals as goal

pub returns-in-Some : goal.returns-in-Some
returns-in-Some c =
    let table = collation c.args.self.now in
    let more = c.args.more.now in
    first_found (id_refusal table more) (ids_refusal table more) refl (λ _ _. refl) weight_ids c.args.weights.now c.loop-weight.weight-index c.weight-item.result _ c.loop-weight.invariant
    c.loop-weight-test.true c.weight-item.is c.in-Some.refusal c.in-Some.ensures

pub loop-weight-preserved : goal.loop-weight-preserved
loop-weight-preserved c =
    let table = collation c.args.self.now in
    let more = c.args.more.now in
    first_left (id_refusal table more) (ids_refusal table more) refl (λ _ _. refl) weight_ids c.args.weights.now c.loop-weight.weight-index c.weight-item.result _ c.loop-weight.invariant
    c.loop-weight-test.true c.weight-item.is c.in_default.ensures
