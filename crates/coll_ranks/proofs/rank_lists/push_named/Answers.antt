-- The rank of each identifier is put behind those of the ones before it.
use Rattle.std.proofs.Common.{◌∙◌, ◌++◌, ◌∷◌, [], ap}
use Rattle.coll_nodes.specs.Table.{Collation}
use Rattle.coll_elements.specs.Rank.{known_rank}
use Rattle.coll_ranks.proofs.RankListLemmas.{one_further, longer_still}
use Rattle.coll_ranks.proofs.rank_lists.push_named.Goals as goal

pub loop-id-preserved : goal.loop-id-preserved
loop-id-preserved c =
    let rank = c.in_default.ensures.ok ∙ ap (λ (t : Collation). c.loop-id.ranks.items ++ known_rank t c.id-item.result ∷ []) c.loop-id.invariant.same in
    record {
      ranks = one_further (known_rank c.args.recent.now) _ _ _ c.args.named.now _ _ c.loop-id-test.true c.id-item.is c.loop-id.invariant.ranks rank;
      same = c.push_rank.ensures.same ∙ c.loop-id.invariant.same;
    }

pub returns-in-Err-clause-err : goal.returns-in-Err-clause-err
returns-in-Err-clause-err c = longer_still _ _ _ _ c.loop-id.invariant.ranks c.in-Err.ensures.err
