-- Each turn of the loop leaves the first fault among what is left, or finds it.
use Rattle.std.proofs.Common.{sym, refl, ◌∙◌}
use Rattle.coll_nodes.specs.Entries.{weight_ids}
use Rattle.coll_nodes.specs.OwnNames.{own_id}
use Rattle.coll_nodes.specs.TableLayout.{collation}
use Rattle.coll_table.specs.Judging.{id_refusal}
use Rattle.coll_texts.proofs.FirstCauses.{first_found, first_left}
use Rattle.coll_advice.specs.LineFaults.{about, ids_fault}
use Rattle.coll_advice.proofs.lines.find_in_given.Goals as goal

pub returns-in-Some : goal.returns-in-Some
returns-in-Some c =
    let table = collation c.args.table.now in
    let more = c.args.more.now in
    let place = c.args.place in
    first_found (λ id. about place id (id_refusal table more (own_id table.declared id))) (ids_fault table place more) refl (λ _ _. refl) weight_ids c.args.weights.now c.loop-weight.weight-index
    c.weight-item.result _ c.loop-weight.invariant c.loop-weight-test.true c.weight-item.is c.in-Some.found (sym c.in-Some.is ∙ c.in_ok-found.ensures)

pub loop-weight-preserved : goal.loop-weight-preserved
loop-weight-preserved c =
    let table = collation c.args.table.now in
    let more = c.args.more.now in
    let place = c.args.place in
    first_left (λ id. about place id (id_refusal table more (own_id table.declared id))) (ids_fault table place more) refl (λ _ _. refl) weight_ids c.args.weights.now c.loop-weight.weight-index
    c.weight-item.result _ c.loop-weight.invariant c.loop-weight-test.true c.weight-item.is (sym c.in_default.is ∙ c.in_ok-found.ensures)
