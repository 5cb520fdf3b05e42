-- The identifiers in the weights decide, where nothing before them does.
use Rattle.std.proofs.Common.{sym, ap, ◌∙◌}
use Rattle.std.specs.List.{flat_map}
use Rattle.coll_table.specs.Delta.{reweighted, unless_refused}
use Rattle.coll_nodes.specs.Entries.{given_weights, weight_ids}
use Rattle.coll_table.specs.Judging.{ids_refusal}
use Rattle.coll_nodes.specs.TableLayout.{collation}
use Rattle.coll_table.proofs.DeltaJudged.{reweight_judged}
use Rattle.coll_table.proofs.tables.Table.reweight_refusal.Goals as goal

pub returns : goal.returns
returns c =
    let table = collation c.args.self.now in
    let line = c.args.line.now in
    reweight_judged table line (sym c.in_default.ensures) ∙ ap (λ r. unless_refused r (reweighted table line))
    (sym (c.given_refusal-refusal.ensures ∙ ap (λ more. ids_refusal table more (flat_map weight_ids (given_weights line.weights))) c.new-none.ensures))
