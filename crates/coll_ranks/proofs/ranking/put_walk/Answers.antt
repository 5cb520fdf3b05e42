-- Each item that is an entry has the next rank, and its weights are put in.
use Rattle.std.proofs.Common.{◌∙◌, sym, subst}
use Rattle.coll_syntax.specs.declared.identifiers.Id.TheVariants.{Char}
use Rattle.coll_nodes.specs.Table.{Collation}
use Rattle.coll_nodes.specs.WalkItems.{visited_by}
use Rattle.coll_ranks.specs.Ranking.{HasNextRank}
use Rattle.coll_ranks.specs.Ranks.{rank_of_char}
use Rattle.coll_ranks.proofs.RankingLemmas.{counted_visited, ranked_visited}
use Rattle.coll_ranks.proofs.WalkedRanks.{next_ranked, left_behind, rows_more}
use Rattle.coll_ranks.proofs.ranking.put_walk.Goals as goal

pub put_visited-requires-clause-next : goal.put_visited-requires-clause-next
put_visited-requires-clause-next c =
    subst (λ (t : Collation). HasNextRank t c.walk.rank (visited_by c.in-Some.item)) (sym c.walk.invariant.same)
    (next_ranked c.args.ranks.now c.walk.rank c.walk.left c.next.new.self (visited_by c.in-Some.item) c.requires.distinct c.in-Some.ensures.steps c.walk.invariant.places)

pub walk-preserved : goal.walk-preserved
walk-preserved c = record {
  count = counted_visited c.walk.left c.next.new.self (visited_by c.in-Some.item) c.walk.rank _ _ c.in-Some.ensures.steps c.in_ok-rank.ensures.count c.walk.invariant.count;
  ranks = λ character. ranked_visited c.walk.left c.next.new.self (visited_by c.in-Some.item) c.walk.rank _ (Char character) (rank_of_char c.walk.characters character)
      (rank_of_char c.put_visited.new.characters character) c.in-Some.ensures.steps c.in_ok-rank.ensures.count (c.in_ok-rank.ensures.ranks character) ∙ c.walk.invariant.ranks character;
  levels = c.in_ok-rank.ensures.rows.levels_are ∙ c.walk.invariant.levels;
  own = c.in_ok-rank.ensures.rows.own_are ∙ c.walk.invariant.own;
  lists = rows_more c.args.ranks.now c.walk.ranks _ c.walk.left c.next.new.self (visited_by c.in-Some.item) c.walk.weights c.put_visited.new.weights _ c.walk.invariant.same c.walk.invariant.levels
      c.in-Some.ensures.steps c.in_ok-rank.ensures.rows c.walk.invariant.lists;
  same = c.put_visited.ensures.same ∙ c.walk.invariant.same;
  places = left_behind c.args.ranks.now c.walk.rank _ c.walk.left c.next.new.self (visited_by c.in-Some.item) c.in-Some.ensures.steps c.in_ok-rank.ensures.count c.walk.invariant.places;
}
