-- A second name is refused as judged, and nothing is grown for an order line outside a block.
use Rattle.std.proofs.Common.{◌≡◌, ◌++◌, ◌∷◌, [], sym, ap, ◌∙◌}
use Rattle.coll_nodes.specs.TableLayout.{collation}
use Rattle.coll_nodes.specs.declared.declarations.Declaration.TheVariants as declaration
use Rattle.coll_table.specs.Delta.{own_delta, unless_refused}
use Rattle.coll_table.proofs.DeltaJudged.{judged_err, judged_memory}
use Rattle.coll_table.proofs.OwnRefusals.{reweight_unstarved}
use Rattle.coll_table.proofs.tables.Table.check_own.Goals as goal

pub returns-in-Reweight-clause-memory : goal.returns-in-Reweight-clause-memory
returns-in-Reweight-clause-memory c =
    reweight_unstarved _ c.or_refused-in-Reweight.result (collation c.args.self.now) c.in-Reweight.line c.reweight_refusal.result c.reweight_refusal.ensures c.or_refused-in-Reweight.ensures.err

pub returns-in-Equivalence-clause-err : goal.returns-in-Equivalence-clause-err
unfolding own_delta
returns-in-Equivalence-clause-err c =
    let table = collation c.args.self.now in
    let new = declaration.Equivalence c.in-Equivalence.name c.in-Equivalence.symbol in
    let after = record table { declared = table.declared ++ new ∷ [] } in
    let result = own_delta table c.args.statement.now in
    let is : result ≡ unless_refused c.equivalence_refusal.result after = ap (own_delta table) c.in-Equivalence.is ∙ ap (λ r. unless_refused r after) (sym c.equivalence_refusal.ensures) in
    judged_memory c.or_refused-in-Equivalence.result result (judged_err c.or_refused-in-Equivalence.result result c.equivalence_refusal.result after is c.or_refused-in-Equivalence.ensures.err)
