-- Each turn of the loop leaves the first refusal among what is left, or finds it.
use Rattle.std.proofs.Common.{refl, List}
use Rattle.std.specs.List.{flat_map}
use Rattle.coll_syntax.specs.declared.identifiers.Id.{Id}
use Rattle.coll_syntax.specs.declared.statements.OrderLine.{OrderLine}
use Rattle.coll_nodes.specs.Entries.{given_weights, weight_ids}
use Rattle.coll_table.specs.Judging.{id_refusal, ids_refusal}
use Rattle.coll_nodes.specs.TableLayout.{collation}
use Rattle.coll_texts.proofs.FirstCauses.{first_found, first_left}
use Rattle.coll_table.proofs.tables.Table.all_given_refusal.Goals as goal

-- the identifiers in the weights of a line
abbrev given : OrderLine → List Id
given line = flat_map weight_ids (given_weights line.weights)

pub returns-in-Some : goal.returns-in-Some
returns-in-Some c =
    let table = collation c.args.self.now in
    let more = c.args.more.now in
    first_found (id_refusal table more) (ids_refusal table more) refl (λ _ _. refl) given c.args.lines.now c.loop-line.line-index c.line-item.result _ c.loop-line.invariant c.loop-line-test.true
    c.line-item.is c.in-Some.refusal c.in-Some.ensures

pub loop-line-preserved : goal.loop-line-preserved
loop-line-preserved c =
    let table = collation c.args.self.now in
    let more = c.args.more.now in
    first_left (id_refusal table more) (ids_refusal table more) refl (λ _ _. refl) given c.args.lines.now c.loop-line.line-index c.line-item.result _ c.loop-line.invariant c.loop-line-test.true
    c.line-item.is c.in_default.ensures
